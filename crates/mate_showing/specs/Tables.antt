-- Tables of nodes in the making. Inside the limit they have one node for each repeat, near it one for each repeat and
-- counter.
use Rattle.std.specs.Prelude.{◌≡◌, ◌⊎◌, ℕ, suc, ◌-◌, ◌<◌, ◌≤◌, List, [], ◌∷◌, map, Bool, true, false, not, ◌&&◌, ◌||◌, ◌==◌, Option, Some, None, slice_get, min}
use Rattle.std.specs.List.{list_any, list_all}
use Rattle.foundation.specs.Member.{Member}
use Rattle.rules_model.specs.declared.board.Position.{Position}
use Rattle.rules_model.specs.declared.board.Repeat.{Repeat}
use Rattle.rules_model.specs.declared.moves.Move.{Move}
use Rattle.rules_model.specs.Games.{same_repeat}
use Rattle.rules_model.specs.Repeats.{repeat_of}
use Rattle.forced_wins.specs.Games.{Game, run_out, near}
use Rattle.forced_wins.specs.Tables.{Accessors}
use Rattle.strategy.specs.declared.nodes.Edge.{Edge}
use Rattle.strategy.specs.declared.nodes.Node.{Node}
use Rattle.mate_settle.specs.Lines.{plies}
use Rattle.mate_fact.specs.InFrame.{left_after}
use Rattle.mate_showing.specs.declared.plan.StrategyPlan.{StrategyPlan}
use Rattle.mate_showing.specs.Reached.{IsReached, OnLine}

-- how the nodes and edges of a strategy are read
abbrev pub nodes : Accessors Position Move Node Edge
nodes = record {
  position = λ v. v.position;
  rank = λ v. v.rank;
  edges = λ v. v.edges;
  chosen = λ e. e.chosen;
  to = λ e. e.to;
}

-- the node is the one for the position: its repeat, and near the limit its counter, are the position's
abbrev pub is_key : Bool → Position → Node → Bool
is_key exact p v = same_repeat (repeat_of v.position) (repeat_of p) && (not exact || (v.position.counter == p.counter))

-- the same in any game on positions
abbrev pub has_key : Game Position Repeat Move → Bool → Position → Node → Bool
has_key r exact p v = r.same (r.repeat v.position) (r.repeat p) && (not exact || (r.counter v.position == r.counter p))

-- more moves are not asked for, and no node that is made has a higher rank
abbrev pub most : ℕ
most = 1000

-- no counter of a position rises above it
abbrev pub highest : ℕ
highest = 9999

-- the position at its counter is ended as won, or its moves lead on to wins
abbrev pub GoesOnAt : Game Position Repeat Move → (Repeat → Bool) → ℕ → Position → Option Bool → Bool
    → Type 0
GoesOnAt r barred n p (Some won) attacking = won ≡ true
GoesOnAt r barred n p None true = (0 < n) × (list_any (λ m. near r barred (n - 1) (r.next p m)) (r.legal p) ≡ true)
GoesOnAt r barred n p None false = list_all (λ m. near r barred n (r.next p m)) (r.legal p) ≡ true

pub record GoesOn (r : Game Position Repeat Move) (barred : Repeat → Bool) (n : ℕ) (p : Position) : Type 0 where
  pub on : GoesOnAt r barred n p (r.own p) (r.attacking p)
  pub counted : r.own p ≡ None → run_out r (r.counter p) ≡ false

-- what is known of the position for which a node is to be made, apart from the table
pub record IsNext (r : Game Position Repeat Move) (barred : Repeat → Bool) (plan : StrategyPlan) (n : ℕ)
    (p : Position) : Type 0 where
  pub goes_on : GoesOn r barred n p
  pub free : ((r.own p ≡ None → barred (r.repeat p) ≡ false) × (r.own plan.root ≡ None)) ⊎ (p ≡ plan.root)
  pub room : plan.exact ≡ false → plies r n p ≤ plan.room
  pub reached : IsReached r barred plan.whole plan.root n p

-- ---- the table

-- the node for p, of rank at most k
pub record Stands (r : Game Position Repeat Move) (exact : Bool) (s : List Node) (p : Position)
    (k i : ℕ) : Type 0 where
  pub node : Node
  pub at : slice_get s i ≡ Some node
  pub repeat : r.repeat node.position ≡ r.repeat p
  pub counter : exact ≡ true → r.counter node.position ≡ r.counter p
  pub low : node.rank ≤ k

-- the edge is a legal move to a node of a rank that falls
pub record IsLed (r : Game Position Repeat Move) (exact : Bool) (s : List Node) (p : Position)
    (n : ℕ) (e : Edge) : Type 0 where
  pub legal : Member e.chosen (r.legal p)
  pub stands : Stands r exact s (r.next p e.chosen) (left_after (r.attacking p) n) e.to

-- the same to a rank of at most k
pub record IsLedTo (r : Game Position Repeat Move) (exact : Bool) (s : List Node) (p : Position)
    (k : ℕ) (e : Edge) : Type 0 where
  pub legal : Member e.chosen (r.legal p)
  pub stands : Stands r exact s (r.next p e.chosen) k e.to

-- one edge for each legal move, in their order
abbrev pub AreOfEach : Game Position Repeat Move → Position → List Edge → Type 0
AreOfEach r p es = map (λ (e : Edge). e.chosen) es ≡ r.legal p

-- each edge is one of the position at that rank
abbrev pub AreLed : Game Position Repeat Move → Bool → List Node → Position → ℕ → List Edge → Type 0
AreLed r exact s p n es = (e : Edge) → Member e es → IsLed r exact s p n e

-- edges as a position of that rank needs them
abbrev pub AreEdges : Game Position Repeat Move → Bool → List Node → Position → ℕ → List Edge → Option Bool
    → Bool → Type 0
AreEdges r exact s p n es (Some won) attacking = (won ≡ true) × (es ≡ [])
AreEdges r exact s p n es None true = (0 < n) × ((e : Edge) × (es ≡ e ∷ []) × IsLed r exact s p n e)
AreEdges r exact s p n es None false = AreOfEach r p es × AreLed r exact s p n es

-- the counter is what is left of the room after the plies of the rank, or the highest
abbrev pub FitsRoom : Game Position Repeat Move → StrategyPlan → Node → Type 0
FitsRoom r plan v =
    (r.counter v.position ≡ min highest (plan.room - plies r v.rank v.position))
    × (plies r v.rank v.position ≤ plan.room)

pub record IsRow (r : Game Position Repeat Move) (plan : StrategyPlan) (s : List Node) (v : Node) : Type 0 where
  pub edges : AreEdges r plan.exact s v.position v.rank v.edges (r.own v.position) (r.attacking v.position)
  pub counted : r.own v.position ≡ None → plan.exact ≡ true → run_out r (r.counter v.position) ≡ false
  pub count : plan.exact ≡ false → FitsRoom r plan v

-- node 0 has the root's repeat, and near the limit its counter
abbrev pub HasRoot : Game Position Repeat Move → StrategyPlan → List Node → Type 0
HasRoot r plan s =
    (u : Node) × (slice_get s 0 ≡ Some u)
    × (r.repeat u.position ≡ r.repeat plan.root)
    × (plan.exact ≡ true → r.counter u.position ≡ r.counter plan.root)

-- no other node that goes on has a barred repeat
abbrev pub AreFree : Game Position Repeat Move → (Repeat → Bool) → List Node → Type 0
AreFree r barred s =
    (i : ℕ) (v : Node) → slice_get s (suc i) ≡ Some v
    → r.own v.position ≡ None → barred (r.repeat v.position) ≡ false

-- near the limit each node's repeat and counter is that of a line from the root
abbrev pub AreOnLines : Game Position Repeat Move → (Repeat → Bool) → StrategyPlan → List Node → Type 0
AreOnLines r barred plan s =
    plan.exact ≡ true → (i : ℕ) (v : Node) → slice_get s i ≡ Some v
    → OnLine r barred plan.whole plan.root (r.repeat v.position) (r.counter v.position)

-- no two nodes have one repeat, near the limit one repeat and counter
abbrev pub AreApart : Game Position Repeat Move → StrategyPlan → List Node → Type 0
AreApart r plan s =
    (i j : ℕ) (v w : Node) → slice_get s i ≡ Some v → slice_get s j ≡ Some w
    → r.repeat v.position ≡ r.repeat w.position
    → (plan.exact ≡ true → r.counter v.position ≡ r.counter w.position) → i ≡ j

-- node 0 is the root's; it may still be without edges, with a rank that none reaches
pub record IsSound (r : Game Position Repeat Move) (barred : Repeat → Bool) (plan : StrategyPlan)
    (s : List Node) : Type 0 where
  pub root : HasRoot r plan s
  pub done : (i : ℕ) (v : Node) → slice_get s (suc i) ≡ Some v → v.rank ≤ most
  pub rows : (i : ℕ) (v : Node) → slice_get s i ≡ Some v → v.rank ≤ most → IsRow r plan s v
  pub free : AreFree r barred s
  pub ongoing : (i : ℕ) (v : Node) → slice_get s (suc i) ≡ Some v → r.own plan.root ≡ None
  pub lines : AreOnLines r barred plan s
  pub apart : AreApart r plan s

-- nodes stay, and their ranks do not rise
abbrev pub Grows : Game Position Repeat Move → Bool → List Node → List Node → Type 0
Grows r exact s t =
    (i : ℕ) (v : Node) → slice_get s i ≡ Some v → v.rank ≤ most → Stands r exact t v.position v.rank i
