-- How the nodes of a tree stand in their list, and when a node's pair is worked out.
use Rattle.std.specs.Prelude.{◌≡◌, ℕ, ◌+◌, ◌<◌, ◌≤◌, List, Some, length, slice_get}
use Rattle.pn_search.specs.declared.node.Node.{Node}
use Rattle.pn_search.specs.declared.node.State.{State}
use Rattle.pn_search.specs.declared.node.State.TheVariants.{Open, Won, Lost, Inner}
use Rattle.pn_search.specs.declared.numbers.Pair.{Pair}
use Rattle.pn_search.specs.Numbers.{of_children, pair_at, numbers_of}

-- the children are among the first n nodes
abbrev pub AreWithin : State → ℕ → Type 0
AreWithin Open n = Unit {0}
AreWithin Won n = Unit {0}
AreWithin Lost n = Unit {0}
AreWithin (Inner first count) n = first + count ≤ n

-- the children of a node stand after it, and it is their parent
pub record AreItsChildren (nodes : List Node) (i first count : ℕ) : Type 0 where
  pub after : i < first
  pub within : first + count ≤ length nodes
  pub parent : (j : ℕ) (w : Node) → first ≤ j → j < first + count → slice_get nodes j ≡ Some w → w.parent ≡ i

-- the node with the number i stands after its parent, and before its children
pub record IsInPlace (nodes : List Node) (i : ℕ) (v : Node) : Type 0 where
  pub parent : 0 < i → v.parent < i
  pub children : (first count : ℕ) → v.state ≡ Inner first count → AreItsChildren nodes i first count

abbrev pub AreInPlace : List Node → Type 0
AreInPlace nodes = (i : ℕ) (v : Node) → slice_get nodes i ≡ Some v → IsInPlace nodes i v

-- the pair of the node with the number i is worked out from those of its children
abbrev pub IsNumbered : List Node → List Pair → ℕ → Type 0
IsNumbered nodes ps i =
    (v : Node) → slice_get nodes i ≡ Some v → pair_at ps i ≡ numbers_of v.state v.attacking (of_children v.state ps)
