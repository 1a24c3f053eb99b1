use Rattle.std.proofs.Common.{◌≡◌, ℕ, ◌<◌, false, true, Option, List}
use Rattle.rules_model.specs.declared.board.Cell.{Cell}
use Rattle.rules_model.specs.Attacks.{king_attacked_at}
use Rattle.rules_model.specs.Sides.{other}
use Rattle.square_set.specs.declared.Set.{Set}
use Rattle.square_set.specs.Members.{has, size, IsWithout}
use Rattle.move_tables.specs.Occupied.{AreKings}
use Rattle.attack_tables.specs.Boards.{IsBoardBy}
use Rattle.pins.specs.Guards.{IsMoved}
use Rattle.pins.proofs.unpinned.free.Given as goal

abbrev pub invariant-loop-king : goal.invariant-loop-king
invariant-loop-king l = record {
  inside : (s : ℕ) → has l.rest s ≡ true → has l.fn.kings s ≡ true;
  small : (s : ℕ) → has l.free s ≡ true → s < 128;
  done : (from to : ℕ) (men moved : Set) (board : List (Option Cell)) → has l.free from ≡ true → IsWithout l.enemies to men → IsMoved l.occupied from to moved → IsBoardBy (other l.fn.side) l.cells men moved board → AreKings l.tables l.fn.side board l.fn.kings → (s : ℕ) → s < 120 → has l.rest s ≡ false → king_attacked_at l.tables board l.fn.side s ≡ false;
}

abbrev pub decreases-loop-king : goal.decreases-loop-king
decreases-loop-king l = size l.rest
