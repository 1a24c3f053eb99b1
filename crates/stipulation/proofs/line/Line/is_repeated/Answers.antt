use Rattle.std.proofs.Common.{◌≡◌, ◌-◌, nat_le, ap, ◌∙◌}
use Rattle.rules_model.specs.declared.rules.Rules.{Rules}
use Rattle.rules_model.specs.Games.{times}
use Rattle.rules_model.specs.Repeats.{repeat_of}
use Rattle.game_play.specs.Played.{story}
use Rattle.stipulation.proofs.LineLemmas.{repeated-along}
use Rattle.stipulation.proofs.line.Line.is_repeated.Goals as goal

pub returns : goal.returns
returns c =
    let fold = ap (λ (r : Rules). r.n_fold) c.rules.ensures in
    let missing : c.saturating_sub-missing.result ≡ c.args.game.now.rules.n_fold - c.repeats.result =
    c.saturating_sub-missing.ensures ∙ ap (λ n. n - c.repeats.result) (c.from.ensures ∙ fold) in
    ap (λ n. nat_le n c.standings.result) missing
    ∙ repeated-along c.args.game.now.rules (story c.args.game.now) c.args.self.now c.last-last.result.now c.repeats.result c.standings.result
    c.last-last.ensures.is c.repeats.ensures.is
    (c.standings.ensures ∙ ap (times (repeat_of c.last-last.result.now)) (c.as_slice.ensures.value ∙ c.self.view_is))
    (λ e. c.if-fold-eq0.false (fold ∙ e))
