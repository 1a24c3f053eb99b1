use Rattle.std.proofs.Common.{◌≡◌, ℕ, ◌<◌, false, true, Option, List}
use Rattle.rules_model.specs.declared.board.Cell.{Cell}
use Rattle.rules_model.specs.Attacks.{attacks_from}
use Rattle.square_set.specs.Members.{has, size}
use Rattle.attack_tables.specs.Boards.{IsBoardBy}
use Rattle.attack_tables.proofs.tables.Tables.piece_attacks.Given as goal

abbrev pub invariant-loop-from : goal.invariant-loop-from
invariant-loop-from l = record {
  inside : (s : ℕ) → has l.near s ≡ true → has l.fn.men s ≡ true;
  done : (board : List (Option Cell)) → IsBoardBy l.by l.cells l.fn.men l.occupied board → (s : ℕ) → s < 120 → has l.near s ≡ false → attacks_from l.self board l.by l.at.0 s ≡ false;
}

abbrev pub decreases-loop-from : goal.decreases-loop-from
decreases-loop-from l = size l.near
