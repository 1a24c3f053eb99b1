use Rattle.rules_model.specs.Repeats.{repeat_of}
use Rattle.square_set.specs.Members.{size}
use Rattle.special_moves.proofs.DropLemmas.{SuitedOrLeft}
use Rattle.special_moves.proofs.drops.suited_squares.Given as goal

abbrev pub invariant-loop-to : goal.invariant-loop-to
invariant-loop-to l = SuitedOrLeft l.rules (repeat_of l.p) l.kind l.fn.squares l.left l.suited

abbrev pub decreases-loop-to : goal.decreases-loop-to
decreases-loop-to l = size l.left
