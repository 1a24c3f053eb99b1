use Rattle.std.proofs.Common.{◌≡◌, false, sym, ◌∙◌}
use Rattle.std.proofs.lemmas.Bool.{and_right}
use Rattle.square_set.specs.Members.{has}
use Rattle.move_tables.specs.Lines.{by_parts}
use Rattle.pins.proofs.GuardLaws.{second_of}
use Rattle.check_moves.proofs.checks.reaches_some.Goals as goal

pub returns-then-is_empty : goal.returns-then-is_empty
returns-then-is_empty c = λ quiet board is s king.
    let spot = c.spot-spot.result.now in
    let far : has spot.within s ≡ false = second_of (has spot.within s) (has c.args.kings s) king (sym (c.and.ensures s) ∙ c.if-is_empty.ensures.empty s) in
    sym (c.spot-spot.ensures c.args.occupied board is s) ∙ and_right (by_parts spot c.args.occupied s) (has spot.within s) far
