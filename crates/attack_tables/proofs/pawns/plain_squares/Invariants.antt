use Rattle.std.proofs.Common.{◌≡◌, ℕ, true}
use Rattle.square_set.specs.Members.{has, OnSquares}
use Rattle.attack_tables.specs.PawnMasks.{Tells}
use Rattle.attack_tables.proofs.pawns.plain_squares.Given as goal

abbrev pub invariant-loop-from : goal.invariant-loop-from
invariant-loop-from l = record {
  board : OnSquares l.plain;
  tells : (s : ℕ) → has l.plain s ≡ true → Tells l.rules l.side l.masks s;
}
