-- What is kept of a tree, and how a call changes it.
use Rattle.std.specs.Prelude.{◌≡◌, ℕ, ◌+◌, ◌-◌, ◌*◌, ◌<◌, ◌^◌, List, [], ◌∷◌, length, true, not, Some, None, slice_get}
use Rattle.rules_model.specs.declared.board.Position.{Position}
use Rattle.rules_model.specs.declared.moves.Move.{Move}
use Rattle.rules_model.specs.Sides.{same_side}
use Rattle.rules_model.specs.Sound.{is_sound}
use Rattle.mate_core.specs.declared.frame.Frame.{Frame}
use Rattle.pn_search.specs.declared.grew.Grew.{Grew}
use Rattle.pn_search.specs.declared.grew.Grew.TheVariants.{Expanded, Settled}
use Rattle.pn_search.specs.declared.node.Node.{Node}
use Rattle.pn_search.specs.declared.node.State.{State}
use Rattle.pn_search.specs.declared.node.State.TheVariants.{Open, Won, Lost, Inner}
use Rattle.pn_search.specs.declared.numbers.Pair.{Pair}
use Rattle.pn_search.specs.Numbers.{pairs_of}
use Rattle.mate_fact.specs.InFrame.{left_after}
use Rattle.pn_search.specs.Trees.{ProofTree, HasGrown, end_at, grown, is_settled, most_proving}

-- it has grown from an ongoing root, and these are the pairs of its nodes
pub record IsKept (t : ProofTree) (ps : List Pair) : Type 0 where
  pub grown : HasGrown t
  pub pairs : ps ≡ pairs_of t.nodes
  pub sound : is_sound t.frame.rules t.root ≡ true
  pub ongoing : end_at t.frame 0 t.root ≡ None
  pub few : length t.nodes < 2 ^ 32

-- what a call of `grow` does: nothing where the tree is settled, else one expansion of the leaf with the number
abbrev pub Grows : ProofTree → ProofTree → Grew → Type 0
Grows old new (Expanded at) = (at ≡ (most_proving old).place) × (grown old ≡ Some new)
Grows old new Settled = (is_settled old ≡ true) × (new ≡ old)

-- what is known of a node that is expanded
pub record IsExpandable (f : Frame) (nodes : List Node) (place : ℕ) (p : Position) : Type 0 where
  pub within : place < length nodes
  pub turn : (v : Node) → slice_get nodes place ≡ Some v → v.attacking ≡ same_side p.side f.attacker
  pub root : place ≡ 0 → end_at f 0 p ≡ None

-- a child as it is written: the other side is to move
abbrev pub written_child : ℕ → Node → Move → Node
written_child at v m = record {
  parent = at;
  chosen = Some m;
  left = left_after v.attacking v.left;
  attacking = not v.attacking;
  state = Open;
}

-- how many expansions a call has made
abbrev pub expansions : Grew → ℕ
expansions (Expanded at) = 1
expansions Settled = 0

-- ---- what is left to do

abbrev pub open_leaf : State → ℕ
open_leaf Open = 1
open_leaf Won = 0
open_leaf Lost = 0
open_leaf (Inner first count) = 0

unfoldable pub open_leaves : List Node → ℕ
open_leaves [] = 0
open_leaves (v ∷ vs) = open_leaf v.state + open_leaves vs

-- room for nodes counts twice, and each leaf that was not looked at once
unfoldable pub work_left : ProofTree → ℕ
work_left t = 2 * (2 ^ 32 - length t.nodes) + open_leaves t.nodes

-- an expansion leaves less to do
abbrev pub LeavesLess : ProofTree → ProofTree → Grew → Type 0
LeavesLess old new (Expanded at) = work_left new < work_left old
LeavesLess old new Settled = Unit {0}
