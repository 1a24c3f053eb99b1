-- The nodes of a strategy in the making, with the keys of their repeats.
use Rattle.std.specs.Prelude.{◌≡◌, ℕ, List, map}
use Rattle.rules_model.specs.Repeats.{repeat_of}
use Rattle.position_key.specs.Key.{key_of}
use Rattle.mate_core.specs.declared.frame.Frame.{Frame}
use Rattle.strategy.specs.declared.nodes.Node.{Node}
use Rattle.mate_showing.specs.declared.plan.StrategyPlan.{StrategyPlan}
use Rattle.mate_showing.specs.Tabled.{IsKept}

-- the key of a node's repeat
abbrev pub node_key : Node → ℕ
node_key v = key_of (repeat_of v.position)

-- the key of each node's repeat
abbrev pub keys_of : List Node → List ℕ
keys_of nodes = map node_key nodes

-- the nodes are kept sound, and the index has their keys
pub record IsKeyed (f : Frame) (plan : StrategyPlan) (nodes : List Node) (index : List ℕ) : Type 0 where
  pub kept : IsKept f plan nodes
  pub keys : index ≡ keys_of nodes
