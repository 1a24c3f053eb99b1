use Rattle.std.proofs.Common.{ap, sym, ◌∙◌}
use Rattle.rules_model.specs.Ends.{early_end}
use Rattle.legality.specs.NoMoveEnds.{no_move_end_where}
use Rattle.legality.specs.Stance.{Stance, repeat_in}
use Rattle.legality.proofs.NoMoveLaws.{late_end_found}
use Rattle.legality.proofs.move_gen.MoveGen.own_end.Goals as goal

pub returns-in-Ongoing : goal.returns-in-Ongoing
returns-in-Ongoing c =
    let any = c.can_go-any.result in
    let on = sym c.in-Ongoing.is ∙ c.self.invariant.is_early ∙ ap (λ (s : Stance). early_end s.rules (repeat_in s)) c.self.view_is in
    c.no_move_end.ensures
    ∙ ap (λ (s : Stance). no_move_end_where s.rules (repeat_in s) any) c.self.view_is ∙ late_end_found _ _ on any c.can_go-any.ensures
