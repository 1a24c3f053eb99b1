use Rattle.std.proofs.Common.{subst, sym}
use Rattle.rules_model.specs.declared.board.Position.{Position}
use Rattle.move_tables.specs.Occupied.{IsOccupied}
use Rattle.check_moves.proofs.checks.may_check.Goals as goal

pub move_may_check-requires-clause-occupied : goal.move_may_check-requires-clause-occupied
move_may_check-requires-clause-occupied c =
    let Of : Position → Type 0 = λ p. IsOccupied c.occupied-occupied.result p.cells in
    subst Of (sym c.position.ensures) (c.occupied-occupied.ensures _ _ _ c.sets.ensures)
