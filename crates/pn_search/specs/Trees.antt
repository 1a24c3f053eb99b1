-- Proof trees, and how they grow.
use Rattle.std.specs.Prelude.{◌≡◌, ℕ, zero, suc, ◌+◌, ◌==◌, List, [], ◌∷◌, ◌++◌, map, length, Bool, true, false, ◌&&◌, ◌||◌, Option, Some, None, option_and_then, position, slice_get, slice_set, if◌then◌else◌}
use Rattle.std.specs.Option.{option_map}
use Rattle.rules_model.specs.declared.board.Position.{Position}
use Rattle.rules_model.specs.declared.moves.Move.{Move}
use Rattle.rules_model.specs.declared.rules.Rules.{Rules}
use Rattle.rules_model.specs.Legal.{legal}
use Rattle.rules_model.specs.Next.{next}
use Rattle.rules_model.specs.Repeats.{repeat_of}
use Rattle.rules_model.specs.Sides.{same_side}
use Rattle.forced_wins.specs.Wins.{near_end}
use Rattle.mate_core.specs.declared.frame.Frame.{Frame}
use Rattle.mate_fact.specs.InFrame.{left_after}
use Rattle.pn_search.specs.declared.node.Node.{Node}
use Rattle.pn_search.specs.declared.node.State.{State}
use Rattle.pn_search.specs.declared.node.State.TheVariants.{Open, Won, Lost, Inner}
use Rattle.pn_search.specs.declared.numbers.Pair.{Pair}
use Rattle.pn_search.specs.Numbers.{infinite, own_number, first_child, of_children, pairs_of, pair_at}

-- the nodes in the order in which they were made, for n moves of the attacker from the root
pub record ProofTree : Type 0 where
  pub frame : Frame
  pub root : Position
  pub moves : ℕ
  pub nodes : List Node

-- ---- nodes

abbrev pub root_node : Frame → Position → ℕ → Node
root_node f root n =
    record { parent = 0; chosen = None; left = n; attacking = same_side root.side f.attacker; state = Open }

-- the child of the node with the number `at` by the move, as it is made
abbrev pub child_node : Frame → ℕ → Node → Position → Move → Node
child_node f at v p m = record {
  parent = at;
  chosen = Some m;
  left = left_after v.attacking v.left;
  attacking = same_side (next f.rules p m).side f.attacker;
  state = Open;
}

-- ---- the most-proving leaf

-- a node that is reached, and its position
pub record Spot : Type 0 where
  pub place : ℕ
  pub position : Position

-- the place of the first child that has the node's number of the side to move
abbrev pub best_child : List Pair → ℕ → Node → Option ℕ
best_child ps at v =
    option_map (λ k. first_child v.state + k)
    (position (λ c. own_number v.attacking c == own_number v.attacking (pair_at ps at)) (of_children v.state ps))

abbrev pub best_child_at : List Node → List Pair → ℕ → Option ℕ
best_child_at nodes ps at = option_and_then (best_child ps at) (slice_get nodes at)

abbrev pub position_after : Rules → Position → Option Move → Position
position_after rules p None = p
position_after rules p (Some m) = next rules p m

abbrev pub chosen_at : List Node → ℕ → Option Move
chosen_at nodes i = option_and_then (λ v. v.chosen) (slice_get nodes i)

-- the node with the number i, a child of the one at the spot
abbrev pub child_spot : Rules → List Node → Spot → ℕ → Spot
child_spot rules nodes s i = record { place = i; position = position_after rules s.position (chosen_at nodes i) }

abbrev pub go_on : (Spot → Spot) → Spot → Option Spot → Spot
go_on f s None = s
go_on f s (Some t) = f t

-- down from the spot by the best children, at most d times
unfoldable pub descend : Rules → List Node → List Pair → ℕ → Spot → Spot
descend rules nodes ps zero s = s
descend rules nodes ps (suc d) s =
    go_on (descend rules nodes ps d) s (option_map (child_spot rules nodes s) (best_child_at nodes ps s.place))

-- down from the root, as far as it goes
unfoldable pub most_proving : ProofTree → Spot
most_proving t =
    descend t.frame.rules t.nodes (pairs_of t.nodes) (length t.nodes) (record { place = 0; position = t.root })

-- ---- an expansion

-- how the position of a node is ended, looked at without its history; the root's repeat is not looked up
unfoldable pub end_at : Frame → ℕ → Position → Option Bool
end_at f at p = near_end f.rules (if at == 0 then [] else f.blocked) f.attacker p

-- what an expanded node becomes where it gets no children
abbrev pub state_by : Option Bool → Bool → ℕ → Option State
state_by (Some true) attacking left = Some Won
state_by (Some false) attacking left = Some Lost
state_by None attacking left = if attacking && (left == 0) then Some Lost else None

abbrev pub expanded_with : List Node → ℕ → Node → Option State → List Node → List Node
expanded_with nodes at v (Some s) children = slice_set nodes at (record v { state = s })
expanded_with nodes at v None children =
    slice_set nodes at (record v { state = Inner (length nodes) (length children) }) ++ children

-- one child for each legal move, in the order of the list
abbrev pub children_of : Frame → ℕ → Node → Position → List Node
children_of f at v p = map (child_node f at v p) (legal f.rules (repeat_of p))

abbrev pub expanded_at : Frame → List Node → Spot → Option Node → List Node
expanded_at f nodes s None = nodes
expanded_at f nodes s (Some v) =
    expanded_with nodes s.place v (state_by (end_at f s.place s.position) v.attacking v.left)
    (children_of f s.place v s.position)

-- the nodes after the one at the spot was expanded
unfoldable pub nodes_after : Frame → List Node → Spot → List Node
nodes_after f nodes s = expanded_at f nodes s (slice_get nodes s.place)

-- ---- trees

unfoldable pub new_tree : Frame → Position → ℕ → ProofTree
new_tree f root n = record { frame = f; root = root; moves = n; nodes = root_node f root n ∷ [] }

abbrev pub is_settled_pair : Pair → Bool
is_settled_pair p = (p.proof == infinite) || (p.disproof == infinite)

-- one of the root's numbers is infinite
unfoldable pub is_settled : ProofTree → Bool
is_settled t = is_settled_pair (pair_at (pairs_of t.nodes) 0)

unfoldable pub expanded : ProofTree → ProofTree
expanded t = record t { nodes = nodes_after t.frame t.nodes (most_proving t) }

-- the tree after one expansion, where it is not settled
unfoldable pub grown : ProofTree → Option ProofTree
grown t = if is_settled t then None else Some (expanded t)

-- the tree after k expansions, each of one that is not settled
unfoldable pub pn : Frame → Position → ℕ → ℕ → Option ProofTree
pn f root n zero = Some (new_tree f root n)
pn f root n (suc k) = option_and_then grown (pn f root n k)

-- it is that after k expansions from its root
abbrev pub IsPn : ℕ → ProofTree → Type 0
IsPn k t = pn t.frame t.root t.moves k ≡ Some t

-- it is the tree after some number of expansions
pub record HasGrown (t : ProofTree) : Type 0 where
  pub expansions : ℕ
  pub is : IsPn expansions t

abbrev pub spot_at : ℕ → Position → Spot
spot_at place p = record { place = place; position = p }

-- ---- the position of a node

abbrev pub position_step : Rules → Position → (ℕ → Position) → Option Node → Position
position_step rules root at None = root
position_step rules root at (Some v) = position_after rules (at v.parent) v.chosen

-- that of the node with the number i, at most d moves from the root
unfoldable pub position_by : Rules → Position → List Node → ℕ → ℕ → Position
position_by rules root nodes zero i = root
position_by rules root nodes (suc d) i =
    if i == 0 then root else position_step rules root (position_by rules root nodes d) (slice_get nodes i)

-- a node's parent has a smaller number, so its own is enough
abbrev pub position_of : ProofTree → ℕ → Position
position_of t i = position_by t.frame.rules t.root t.nodes i i
