-- The nodes of a strategy in the making, in their frame and by their plan.
use Rattle.std.specs.Prelude.{◌≡◌, ℕ, List, Some, slice_get}
use Rattle.rules_model.specs.declared.board.Position.{Position}
use Rattle.rules_model.specs.declared.board.Repeat.{Repeat}
use Rattle.rules_model.specs.declared.moves.Move.{Move}
use Rattle.forced_wins.specs.Games.{Game}
use Rattle.forced_wins.specs.Strategies.{IsWritten}
use Rattle.forced_wins.specs.Wins.{is_in}
use Rattle.mate_core.specs.declared.frame.Frame.{Frame}
use Rattle.mate_settle.specs.Lines.{seen_in}
use Rattle.strategy.specs.declared.nodes.Edge.{Edge}
use Rattle.strategy.specs.declared.nodes.Node.{Node}
use Rattle.mate_showing.specs.declared.plan.StrategyPlan.{StrategyPlan}
use Rattle.mate_showing.specs.Tables.{AreEdges, Grows, IsNext, IsSound, Stands}

pub record Tabled : Type 0 where
  pub frame : Frame
  pub plan : StrategyPlan
  pub nodes : List Node

abbrev pub rules_of : Tabled → Game Position Repeat Move
rules_of t = seen_in t.frame

-- what holds of every such list of nodes
pub record IsKept (f : Frame) (plan : StrategyPlan) (nodes : List Node) : Type 0 where
  pub sound : IsSound (seen_in f) (is_in f.blocked) plan nodes
  pub written : (i : ℕ) (v : Node) → slice_get nodes i ≡ Some v → IsWritten f.rules v.position

-- a node may be made for the position, of rank n
abbrev pub IsNextIn : Tabled → ℕ → Position → Type 0
IsNextIn t n p = IsNext (rules_of t) (is_in t.frame.blocked) t.plan n p

-- the node for the position, of rank at most n, is at the place
abbrev pub StandsIn : Tabled → Position → ℕ → ℕ → Type 0
StandsIn t p n i = Stands (rules_of t) t.plan.exact t.nodes p n i

-- edges as the position needs them
abbrev pub AreEdgesIn : Tabled → Position → ℕ → List Edge → Type 0
AreEdgesIn t p n es = AreEdges (rules_of t) t.plan.exact t.nodes p n es ((rules_of t).own p) ((rules_of t).attacking p)

-- the frame and the plan stay, nodes stay, and their ranks do not rise
pub record GrowsTo (t u : Tabled) : Type 0 where
  pub frame : u.frame ≡ t.frame
  pub plan : u.plan ≡ t.plan
  pub grows : Grows (rules_of t) t.plan.exact t.nodes u.nodes
