-- Ways down a tree, with a board for each node.
use Rattle.std.specs.Prelude.{◌≡◌, ℕ, ◌<◌, List, length, slice_index_or}
use Rattle.std.specs.List.{All}
use Rattle.pn_search.specs.declared.descending.Leaf.{Leaf}
use Rattle.pn_search.specs.Finds.{IsAt}
use Rattle.pn_search.specs.Trees.{ProofTree}

-- the node is there, and the board is that of its position
pub record IsLeafOf (t : ProofTree) (l : Leaf) : Type 0 where
  pub rules : l.board.rules ≡ t.frame.rules
  pub at : IsAt t l.place l.board.position

-- the first is the root, and each is a node with its board
pub record IsWay (t : ProofTree) (ls : List Leaf) : Type 0 where
  pub some : 0 < length ls
  pub root : (d : Leaf) → (slice_index_or ls 0 d).place ≡ 0
  pub each : All (IsLeafOf t) ls

-- the node at the depth is the one with the number
pub record IsAtDepth (ls : List Leaf) (depth place : ℕ) : Type 0 where
  pub within : depth < length ls
  pub place_is : (d : Leaf) → (slice_index_or ls depth d).place ≡ place
