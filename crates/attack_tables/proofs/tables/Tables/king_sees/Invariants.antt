use Rattle.std.proofs.Common.{◌≡◌, ℕ, ◌<◌, false, true, Option, List}
use Rattle.rules_model.specs.declared.board.Cell.{Cell}
use Rattle.rules_model.specs.Attacks.{is_own_king, king_faces}
use Rattle.rules_model.specs.Sides.{other}
use Rattle.rules_model.specs.Squares.{cell_at}
use Rattle.square_set.specs.Members.{has, size}
use Rattle.attack_tables.specs.Boards.{IsBoardBy}
use Rattle.attack_tables.proofs.tables.Tables.king_sees.Given as goal

abbrev pub invariant-loop-from : goal.invariant-loop-from
invariant-loop-from l = record {
  inside : (s : ℕ) → has l.seen s ≡ true → has l.fn.men s ≡ true;
  faces : (board : List (Option Cell)) → IsBoardBy l.by l.cells l.fn.men l.fn.occupied board → is_own_king l.self (other l.by) (cell_at board l.fn.at.0) ≡ true → (s : ℕ) → s < 120 → has l.seen s ≡ true → is_own_king l.self l.by (cell_at board s) ≡ true → king_faces l.self board l.by l.fn.at.0 s ≡ true;
  done : (board : List (Option Cell)) → IsBoardBy l.by l.cells l.fn.men l.fn.occupied board → is_own_king l.self (other l.by) (cell_at board l.fn.at.0) ≡ true → (s : ℕ) → s < 120 → has l.seen s ≡ false → king_faces l.self board l.by l.fn.at.0 s ≡ false;
}

abbrev pub decreases-loop-from : goal.decreases-loop-from
decreases-loop-from l = size l.seen
