use Rattle.std.proofs.Common.{◌≡◌, ◌∙◌, ◌+◌, ap, arith, get_or, Some, slice_get, sym}
use Rattle.mate_settle.proofs.OrderLaws.{no_move, read-at}
use Rattle.mate_showing.specs.Fronts.{with_first}
use Rattle.mate_showing.proofs.OrderLaws.{first-past, first-turned}
use Rattle.mate_showing.proofs.ordering.to_front.Goals as goal

pub returns-then-at-moves : goal.returns-then-at-moves
returns-then-at-moves c =
    let ms = c.args.moves.now in
    let at = c.in-Some.at in
    let read : slice_get ms at ≡ Some (get_or ms at no_move) = read-at ms at no_move c.if-at-moves.true in
    first-turned ms c.rotate_right.new.self at (at + 1) (get_or ms at no_move) read (omega arith) c.rotate_right.ensures.after
    ∙ ap (λ place. with_first place ms) (sym c.in-Some.is)

pub returns-else-at-moves : goal.returns-else-at-moves
returns-else-at-moves c =
    let ms = c.args.moves.now in
    sym (ap (λ place. with_first place ms) c.in-Some.is ∙ first-past ms c.in-Some.at c.if-at-moves.false)
