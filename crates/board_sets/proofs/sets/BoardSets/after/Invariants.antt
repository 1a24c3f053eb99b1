use Rattle.std.proofs.Common.{List, Option}
use Rattle.rules_model.specs.declared.board.Cell.{Cell}
use Rattle.square_set.specs.Members.{size}
use Rattle.next_position.specs.Changed.{AgreeOutside}
use Rattle.board_sets.specs.Sets.{AreSets}
use Rattle.board_sets.proofs.WriteLaws.{AreBut}
use Rattle.board_sets.proofs.sets.BoardSets.after.Given as goal

abbrev pub invariant-loop-at : goal.invariant-loop-at
invariant-loop-at l =
    (before : List (Option Cell)) → AreSets l.rules l.side before l.self → AgreeOutside l.fn.touched before l.next
    → AreBut l.rules l.side l.left l.next l.sets

abbrev pub decreases-loop-at : goal.decreases-loop-at
decreases-loop-at l = size l.left
