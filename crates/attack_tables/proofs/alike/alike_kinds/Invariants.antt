use Rattle.std.proofs.Common.{◌≡◌, ℕ, ◌<◌, Bool, length, get_or}
use Rattle.attack_tables.specs.Goals.{IsAlikeAt}
use Rattle.attack_tables.proofs.alike.alike_kinds.Given as goal

abbrev pub invariant-loop-k : goal.invariant-loop-k
invariant-loop-k l = record {
  whole : length l.kinds.items ≡ l.k;
  each : (i : ℕ) → i < l.k → (d : Bool) → IsAlikeAt l.rules i (get_or l.kinds.items i d);
}
