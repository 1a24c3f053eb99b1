-- The nodes of a tree, and how they change.
use Rattle.std.specs.Prelude.{◌≡◌, ℕ, Bool, true, false, ◌&&◌, ◌||◌, nat_lt, ◌==◌, List, map}
use Rattle.std.specs.List.{All}
use Rattle.foundation.specs.Member.{Lists, Member}
use Rattle.legality.specs.Stance.{Stance, after, legal_in}
use Rattle.mate_core.specs.declared.frame.Frame.{Frame}
use Rattle.mate_fact.specs.InFrame.{left_after}
use Rattle.mate_settle.specs.Tellings.{IsTold}
use Rattle.mate_tree.specs.declared.growing.Step.{Step}
use Rattle.mate_tree.specs.declared.node.Node.{Node, out-Node}
use Rattle.mate_tree.specs.Numbers.{IsNumbered}
use Rattle.rules_model.specs.declared.board.Position.{Position}
use Rattle.rules_model.specs.declared.moves.Move.{Move}
use Rattle.rules_model.specs.Sides.{same_side}

-- the move that leads to a node, whether it is opened, and its children
abbrev pub chosen_at : Node → Move
chosen_at v = (out-Node v).chosen

abbrev pub is_opened : Node → Bool
is_opened v = (out-Node v).opened

abbrev pub children_at : Node → List Node
children_at v = (out-Node v).children.items

-- it is not opened, and has this move and these numbers
pub record IsLeafOf (m : Move) (to_prove to_disprove : ℕ) (v : Node) : Type 0 where
  pub chosen : chosen_at v ≡ m
  pub closed : is_opened v ≡ false
  pub proof : (out-Node v).proof ≡ to_prove
  pub disproof : (out-Node v).disproof ≡ to_disprove

-- it has become an opened node with these children, and has their numbers
pub record IsOpenedWith (attacking : Bool) (old : Node) (vs : List Node) (new : Node) : Type 0 where
  pub chosen : chosen_at new ≡ chosen_at old
  pub opened : is_opened new ≡ true
  pub children : children_at new ≡ vs
  pub numbers : IsNumbered attacking new

-- its numbers alone may differ, and are those of its children
pub record IsRenumbered (attacking : Bool) (old new : Node) : Type 0 where
  pub chosen : chosen_at new ≡ chosen_at old
  pub opened : is_opened new ≡ is_opened old
  pub children : children_at new ≡ children_at old
  pub numbers : IsNumbered attacking new

-- a leaf for each legal move
pub record AreLeavesOf (s : Stance) (vs : List Node) : Type 0 where
  pub listed : Lists (λ m. Member m (legal_in s)) (map chosen_at vs)
  pub closed : All (λ v. is_opened v ≡ false) vs

-- how many moves the attacker has after one more move of either side
abbrev pub left_at : Frame → ℕ → Position → ℕ
left_at f n p = left_after (same_side p.side f.attacker) n

-- a legal move, and what is told of the position after it
pub record IsStep (f : Frame) (s : Stance) (n : ℕ) (step : Step) : Type 0 where
  pub legal : Member step.chosen (legal_in s)
  pub told : IsTold f (after s step.chosen).position (left_at f n s.position) step.told

-- the attacker has at most two moves left where he is to move, else at most one
abbrev pub is_last : Bool → ℕ → Bool
is_last attacking n = nat_lt n 2 || attacking && n == 2
