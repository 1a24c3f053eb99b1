use Rattle.std.proofs.Common.{◌≡◌, List, ap, ◌∙◌}
use Rattle.game_play.specs.Played.{story}
use Rattle.stipulation.specs.declared.cert.Cert.{Cert}
use Rattle.stipulation.specs.declared.cert.Step.{Step}
use Rattle.stipulation.specs.Stipulations.{help_games}
use Rattle.stipulation.specs.Verdicts.{tree_verdict, is_empty_end}
use Rattle.stipulation.proofs.CheckLemmas.{ok-mono}
use Rattle.stipulation.proofs.RuleLaws.{help-holds, help-later}
use Rattle.stipulation.proofs.check.check_help.Goals as goal

pub returns-clause-wins : goal.returns-clause-wins
returns-clause-wins c =
    let rules = c.args.game.now.rules in
    let g = story c.args.game.now in
    let same : c.as_slice.result.now ≡ c.args.cert.now.steps = c.as_slice.ensures.value ∙ ap (λ (k : Cert). k.steps) c.cert.view_is in
    ok-mono _ _ c.verdict.result c.verdict.ensures (λ v e h.
    help-holds rules c.args.n g c.args.cert.now.steps
    (help-later rules c.args.n g c.args.cert.now.steps c.is_empty_end.result v
    (c.is_empty_end.ensures ∙ ap (λ (steps : List Step). is_empty_end (help_games rules g.last.side) g steps) same) c.if-is_empty_end.false
    (e ∙ ap (λ (steps : List Step). tree_verdict (help_games rules g.last.side) c.args.n g steps) same) h))
