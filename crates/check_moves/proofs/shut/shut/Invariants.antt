use Rattle.std.proofs.Common.{◌≡◌, ℕ, ◌<◌, false, true, Option, List}
use Rattle.rules_model.specs.declared.board.Cell.{Cell}
use Rattle.square_set.specs.declared.Set.{Set}
use Rattle.square_set.specs.Members.{has, size}
use Rattle.move_tables.specs.Occupied.{IsOccupied}
use Rattle.pins.specs.Guards.{IsMoved}
use Rattle.check_moves.specs.Shut.{StayersSpare}
use Rattle.check_moves.proofs.shut.shut.Given as goal

abbrev pub invariant-loop-king : goal.invariant-loop-king
invariant-loop-king l = record {
  inside : (s : ℕ) → has l.rest s ≡ true → has l.fn.kings s ≡ true;
  small : (s : ℕ) → has l.shut s ≡ true → s < 128;
  done : (from to king : ℕ) (moved : Set) (board : List (Option Cell)) → has l.shut from ≡ true → has l.fn.kings king ≡ true → has l.rest king ≡ false → IsMoved l.occupied from to moved → IsOccupied moved board → StayersSpare l.tables l.by l.cells king board;
}

abbrev pub decreases-loop-king : goal.decreases-loop-king
decreases-loop-king l = size l.rest
