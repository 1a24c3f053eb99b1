use Rattle.std.proofs.Common.{◌≡◌, ℕ, ◌<◌, false, true, Option, List}
use Rattle.rules_model.specs.declared.board.Cell.{Cell}
use Rattle.rules_model.specs.Attacks.{king_attacked_at}
use Rattle.rules_model.specs.Sides.{other}
use Rattle.square_set.specs.Members.{has, size}
use Rattle.move_tables.specs.Occupied.{AreKings}
use Rattle.attack_tables.specs.Boards.{IsBoardBy}
use Rattle.attack_tables.proofs.tables.Tables.king_attacked_by.Given as goal

abbrev pub invariant-loop-at : goal.invariant-loop-at
invariant-loop-at l = record {
  inside : (s : ℕ) → has l.rest s ≡ true → has l.fn.kings s ≡ true;
  done : (board : List (Option Cell)) → IsBoardBy (other l.fn.side) l.cells l.men l.occupied board → AreKings l.self l.fn.side board l.fn.kings → (s : ℕ) → s < 120 → has l.rest s ≡ false → king_attacked_at l.self board l.fn.side s ≡ false;
}

abbrev pub decreases-loop-at : goal.decreases-loop-at
decreases-loop-at l = size l.rest
