use Rattle.std.proofs.Common.{◌≡◌, ℕ, ◌<◌, false, true}
use Rattle.square_set.specs.Members.{has, size}
use Rattle.attack_tables.specs.Masks.{NeverTakes}
use Rattle.check_moves.proofs.listing.takers_of_kings.Given as goal

abbrev pub invariant-loop-king : goal.invariant-loop-king
invariant-loop-king l = record {
  inside : (s : ℕ) → has l.rest s ≡ true → has l.fn.kings s ≡ true;
  done : (king : ℕ) → has l.fn.kings king ≡ true → has l.rest king ≡ false → (from : ℕ) → from < 120 → has l.takers from ≡ false → NeverTakes l.tables l.by l.kind.0 from king;
}

abbrev pub decreases-loop-king : goal.decreases-loop-king
decreases-loop-king l = size l.rest
