-- The text of a strategy, version 1.
use Rattle.std.specs.Prelude.{◌≡◌, ℕ, suc, ◌<◌, ◌≤◌, List, [], ◌∷◌, ◌++◌, length, map, codes, All}
use Rattle.std.specs.Fmt.{decimal}
use Rattle.std.specs.List.{flat_map}
use Rattle.rules_model.specs.declared.board.Position.{Position}
use Rattle.rules_model.specs.declared.board.Side.{Side}
use Rattle.rules_model.specs.declared.board.Side.TheVariants.{White, Black}
use Rattle.rules_model.specs.declared.rules.Rules.{Rules}
use Rattle.rules_model.specs.MoveText.{text_of}
use Rattle.fen_model.specs.Printing.{fen_text}
use Rattle.move_text.specs.Names.{Names}
use Rattle.strategy.specs.declared.nodes.Edge.{Edge}
use Rattle.strategy.specs.declared.nodes.Node.{Node}
use Rattle.strategy.specs.declared.nodes.Strategy.{Strategy}

abbrev pub attacker_text : Side → List ℕ
attacker_text White = codes "attacker white"
attacker_text Black = codes "attacker black"

-- `nodes N`
abbrev pub count_text : ℕ → List ℕ
count_text count = codes "nodes " ++ decimal count

-- `edge MOVE TO`
unfoldable pub edge_text : Edge → List ℕ
edge_text e = codes "edge " ++ text_of e.chosen ++ codes " " ++ decimal e.to

-- `node I RANK FEN`
unfoldable pub node_text : Rules → ℕ → Node → List ℕ
node_text rules number v =
    codes "node " ++ decimal number ++ codes " " ++ decimal v.rank ++ codes " " ++ fen_text rules v.position

-- a node and its edges
abbrev pub node_texts : Rules → ℕ → Node → List (List ℕ)
node_texts rules number v = node_text rules number v ∷ map edge_text v.edges

-- the nodes, the first with this number
unfoldable pub nodes_texts : Rules → ℕ → List Node → List (List ℕ)
nodes_texts rules number [] = []
nodes_texts rules number (v ∷ vs) = node_texts rules number v ++ nodes_texts rules (suc number) vs

abbrev pub header_texts : Strategy → List (List ℕ)
header_texts s = codes "strategy 1" ∷ attacker_text s.attacker ∷ count_text (length s.nodes) ∷ []

-- the lines of a strategy
unfoldable pub strategy_texts : Rules → Strategy → List (List ℕ)
strategy_texts rules s = header_texts s ++ nodes_texts rules 0 s.nodes ++ codes "end" ∷ []

abbrev pub ended_line : List ℕ → List ℕ
ended_line text = text ++ codes "\n"

-- texts as lines, each with its end
unfoldable pub ended_lines : List (List ℕ) → List ℕ
ended_lines texts = flat_map ended_line texts

unfoldable pub strategy_text : Rules → Strategy → List ℕ
strategy_text rules s = ended_lines (strategy_texts rules s)

-- ---- which strategies are read back

-- the edge leads to one of so many nodes, and its move is read back as itself
pub record IsReadBack (rules : Rules) (count : ℕ) (p : Position) (e : Edge) : Type 0 where
  pub leads : e.to < count
  pub named : Names rules p (text_of e.chosen) e.chosen

-- the number of the position is 1, the rank is one of 16 bits, and the edges are read back
pub record IsReadable (rules : Rules) (count : ℕ) (v : Node) : Type 0 where
  pub number : v.position.number ≡ 1
  pub rank : v.rank ≤ 65535
  pub edges : All (IsReadBack rules count v.position) v.edges

-- each node is read back
abbrev pub AreReadable : Rules → List Node → Type 0
AreReadable rules nodes = All (IsReadable rules (length nodes)) nodes
