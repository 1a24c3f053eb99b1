use Rattle.std.proofs.Common.{◌≡◌, ℕ, ◌<◌, ◌&&◌, ◌%◌, ◌/◌, nat_lt, false, length, get_or}
use Rattle.variant_rules.proofs.regions.cut_to.Given as goal

abbrev pub invariant-loop-s : goal.invariant-loop-s
invariant-loop-s l = (length l.squares ≡ 120) × ((k : ℕ) → k < l.s → get_or l.squares k false ≡ (get_or l.region.squares k false && (nat_lt (k % 12) l.board.files && nat_lt (k / 12) l.board.ranks)))
