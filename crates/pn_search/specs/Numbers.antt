-- Proof and disproof numbers.
use Rattle.std.specs.Prelude.{ℕ, suc, ◌+◌, ◌-◌, ◌==◌, min, List, [], ◌∷◌, map, take, drop, Bool, true, false, not, ◌||◌, slice_index_or, if◌then◌else◌}
use Rattle.pn_search.specs.declared.node.Node.{Node}
use Rattle.pn_search.specs.declared.node.State.{State}
use Rattle.pn_search.specs.declared.node.State.TheVariants.{Open, Won, Lost, Inner}
use Rattle.pn_search.specs.declared.numbers.Pair.{Pair}

-- the number of what cannot be: 2^32 - 1
abbrev pub infinite : ℕ
infinite = 4294967295

-- a sum with an infinite number is infinite, any other is at most one less
unfoldable pub plus : ℕ → ℕ → ℕ
plus a b = if (a == infinite) || (b == infinite) then infinite else min (a + b) (infinite - 1)

unfoldable pub sum_of : List ℕ → ℕ
sum_of [] = 0
sum_of (x ∷ xs) = plus x (sum_of xs)

unfoldable pub least_of : List ℕ → ℕ
least_of [] = infinite
least_of (x ∷ xs) = min x (least_of xs)

-- ---- the pair of a node

-- the number that the side to move wants small: the proof number where the attacker moves, else the disproof number
abbrev pub own_number : Bool → Pair → ℕ
own_number true c = c.proof
own_number false c = c.disproof

abbrev pub pair_with : Bool → ℕ → ℕ → Pair
pair_with true own others = record { proof = own; disproof = others }
pair_with false own others = record { proof = others; disproof = own }

-- of the pairs of the children: with the attacker to move the least proof number and the sum of the disproof numbers,
-- with the other side to move the sum of the proof numbers and the least disproof number
unfoldable pub inner_pair : Bool → List Pair → Pair
inner_pair attacking cs =
    pair_with attacking (least_of (map (own_number attacking) cs)) (sum_of (map (own_number (not attacking)) cs))

abbrev pub open_pair : Pair
open_pair = record { proof = 1; disproof = 1 }

abbrev pub numbers_of : State → Bool → List Pair → Pair
numbers_of Open attacking cs = open_pair
numbers_of Won attacking cs = record { proof = 0; disproof = infinite }
numbers_of Lost attacking cs = record { proof = infinite; disproof = 0 }
numbers_of (Inner first count) attacking cs = inner_pair attacking cs

-- where the children of an inner node begin
abbrev pub first_child : State → ℕ
first_child Open = 0
first_child Won = 0
first_child Lost = 0
first_child (Inner first count) = first

-- what a list that has an element for each node has for the children
abbrev pub of_children : {X : Type 0} → State → List X → List X
of_children Open xs = []
of_children Won xs = []
of_children Lost xs = []
of_children (Inner first count) xs = take count (drop first xs)

-- the same of a list that begins with the element of the node with the number `at`
abbrev pub of_children_from : {X : Type 0} → ℕ → State → List X → List X
of_children_from at Open xs = []
of_children_from at Won xs = []
of_children_from at Lost xs = []
of_children_from at (Inner first count) xs = take count (drop (first - at) xs)

-- ---- the pairs of all nodes

-- the pair of the node with the number `at`, before those of the nodes after it
abbrev pub before : ℕ → Node → List Pair → List Pair
before at v later = numbers_of v.state v.attacking (of_children_from (suc at) v.state later) ∷ later

-- the pairs of these nodes, the first of which has the number `at`: a node's children are among the nodes after it
unfoldable pub pairs_from : ℕ → List Node → List Pair
pairs_from at [] = []
pairs_from at (v ∷ vs) = before at v (pairs_from (suc at) vs)

-- the pairs of all nodes, worked out afresh
unfoldable pub pairs_of : List Node → List Pair
pairs_of nodes = pairs_from 0 nodes

abbrev pub pair_at : List Pair → ℕ → Pair
pair_at ps i = slice_index_or ps i open_pair
