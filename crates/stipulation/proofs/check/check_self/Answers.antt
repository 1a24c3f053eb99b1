use Rattle.std.proofs.Common.{◌≡◌, List, ap, ◌∙◌}
use Rattle.game_play.specs.Played.{story}
use Rattle.stipulation.specs.declared.cert.Cert.{Cert}
use Rattle.stipulation.specs.declared.cert.Step.{Step}
use Rattle.stipulation.specs.Stipulations.{self_games}
use Rattle.stipulation.specs.Verdicts.{tree_verdict}
use Rattle.stipulation.proofs.CheckLemmas.{ok-mono}
use Rattle.stipulation.proofs.RuleLaws.{self-checked}
use Rattle.stipulation.proofs.check.check_self.Goals as goal

pub returns-clause-wins : goal.returns-clause-wins
returns-clause-wins c =
    let rules = c.args.game.now.rules in
    let g = story c.args.game.now in
    let same : c.as_slice.result.now ≡ c.args.cert.now.steps = c.as_slice.ensures.value ∙ ap (λ (k : Cert). k.steps) c.cert.view_is in
    ok-mono _ _ c.verdict.result c.verdict.ensures (λ v e h.
    self-checked rules c.args.n g c.args.cert.now.steps v (e ∙ ap (λ (steps : List Step). tree_verdict (self_games rules g.last.side) c.args.n g steps) same) h)
