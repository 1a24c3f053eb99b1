-- The numbers of a node, by which a tree grows.
use Rattle.std.specs.Prelude.{◌≡◌, ℕ, min, not, Bool, true, false, List, [], ◌∷◌}
use Rattle.std.specs.List.{sum_by}
use Rattle.mate_tree.specs.declared.node.Node.{Node, out-Node}

-- no number of an opened node is greater: 2^30
abbrev pub most : ℕ
most = 1073741824

-- the number that the side to move wants small: the proof number where the attacker moves, else the disproof number
abbrev pub own_number : Bool → Node → ℕ
own_number true v = (out-Node v).proof
own_number false v = (out-Node v).disproof

unfoldable pub least_of : Bool → List Node → ℕ
least_of attacking [] = most
least_of attacking (v ∷ vs) = min (own_number attacking v) (least_of attacking vs)

abbrev pub sum_of : Bool → List Node → ℕ
sum_of attacking vs = min (sum_by (own_number attacking) vs) most

-- of the children's numbers it has the least of those that the side to move wants small, and the sum of the others
pub record IsNumbered (attacking : Bool) (v : Node) : Type 0 where
  pub own : own_number attacking v ≡ least_of attacking (out-Node v).children.items
  pub others : own_number (not attacking) v ≡ sum_of (not attacking) (out-Node v).children.items
