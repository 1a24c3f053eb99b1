use Rattle.std.proofs.Common.{◌≡◌, ℕ, ◌<◌, true, false, length, slice_index_or}
use Rattle.square_set.specs.declared.Set.{Set}
use Rattle.square_set.specs.Members.{has}
use Rattle.check_moves.specs.Listing.{ComesInVain, IsLeft}
use Rattle.check_moves.proofs.listing.ask.Given as goal

abbrev pub invariant-loop-kind : goal.invariant-loop-kind
invariant-loop-kind l = record {
  whole : length l.asked.to ≡ 26;
  shut : (s : ℕ) → has l.asked.shut s ≡ true → has l.checks.shut s ≡ true;
  left : (s : ℕ) → has l.asked.shut s ≡ true → IsLeft l.step s;
  kinds : (k : ℕ) → k < l.kind → (d : Set) → (to : ℕ) → to < 120 → has (slice_index_or l.asked.to k d) to ≡ false → ComesInVain l.board l.checks l.step k to;
}
