use Rattle.std.proofs.Common.{◌≡◌, ℕ, ◌<◌, false}
use Rattle.square_set.specs.Members.{has, size}
use Rattle.attack_tables.specs.Masks.{NeverTakes}
use Rattle.attack_tables.proofs.kind_masks.kind_mask_of.Given as goal

abbrev pub invariant-loop-from : goal.invariant-loop-from
invariant-loop-from l = (k : ℕ) → k < 120 → has l.left k ≡ false → has l.takers k ≡ false → NeverTakes l.moves l.side l.kind k l.at

abbrev pub decreases-loop-from : goal.decreases-loop-from
decreases-loop-from l = size l.left
