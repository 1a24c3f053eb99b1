use Rattle.std.proofs.Common.{◌≡◌, ℕ, ◌<◌, length}
use Rattle.pn_search.specs.Shapes.{IsNumbered}
use Rattle.pn_search.proofs.carrying.carry.Given as goal

abbrev pub invariant-up : goal.invariant-up
invariant-up l = record {
  within : l.at < length l.nodes;
  others : (i : ℕ) → (i ≡ l.at → ⊥) → IsNumbered l.nodes l.pairs i;
}

abbrev pub decreases-up : goal.decreases-up
decreases-up l = l.at
