-- The strategy of the mate in two of king and rook against king, read line by line.
use Rattle.std.proofs.Common.{◌≡◌, ℕ, ◌+◌, ◌-◌, ◌*◌, List, [], ◌∷◌, ◌++◌, None, Ok, Err, refl, map, take, set}
use Rattle.std.specs.Prelude.{codes}
use Rattle.io_ports.specs.Lines.{Line, Text, TooLong}
use Rattle.rules_model.specs.declared.board.Position.{Position}
use Rattle.rules_model.specs.declared.board.Side.{Side}
use Rattle.rules_model.specs.declared.board.Side.TheVariants.{White, Black}
use Rattle.rules_model.specs.declared.moves.Move.TheVariants.{Go}
use Rattle.rules_model.specs.declared.moves.Promo.TheVariants.{Stays}
use Rattle.sample_rules.specs.Base.{empty}
use Rattle.sample_rules.specs.Chess.{chess}
use Rattle.sample_rules.specs.Positions.{man}
use Rattle.sample_rules.proofs.Fits.{opened}
use Rattle.fen_model.specs.declared.fault.FenFault.TheVariants.{Length}
use Rattle.strategy.specs.declared.fault.StrategyFault.TheVariants.{Header, BadLine, BadPosition, BadMove, BadNumber, Ended}
use Rattle.strategy.specs.declared.nodes.Edge.{Edge}
use Rattle.strategy.specs.declared.nodes.Node.{Node}
use Rattle.strategy.specs.declared.nodes.Strategy.{Strategy}
use Rattle.foundation.specs.Cuts.{cut}
use Rattle.strategy.specs.Said.{attacker_said, count_said, node_said, edge_said, said}
use Rattle.strategy.specs.Reading.{with_node, with_edge, with_said, with_text, step, taken, strategy_of, with_last_edge}
use Rattle.fen_model.specs.Board.{squares_of, row_of, rows_of, cells_from, cells_of}
use Rattle.fen_model.specs.Counts.{side_of, checks_of, count_of}
use Rattle.fen_model.specs.Fields.{pocket_place, fields_of}
use Rattle.fen_model.specs.Held.{has, are_letters, gate_said, bits_of, may_hold, held_of}
use Rattle.foundation.specs.Numbers.{are_digits, value_after, is_number, number_of}
use Rattle.fen_model.specs.Passed.{is_passed, passed_of}
use Rattle.fen_model.specs.Pocket.{no_hands, hands_of}
use Rattle.fen_model.specs.Reading.{judged, said_by, fen_of}
use Rattle.fen_model.specs.Tokens.{tokens_of}
use Rattle.move_text.specs.Read.{castle_to, castle_said, drop_said, move_said}
use Rattle.move_text.specs.Squares.{square_front, squares_front}

unfoldable reading_opened : Unit {0}
unfolding opened chess cut attacker_said count_said node_said edge_said said with_node with_edge with_said with_text step taken strategy_of with_last_edge squares_of row_of rows_of cells_from cells_of side_of checks_of count_of pocket_place fields_of has are_letters gate_said bits_of may_hold held_of are_digits value_after is_number number_of is_passed passed_of no_hands hands_of judged said_by fen_of tokens_of castle_to castle_said drop_said move_said square_front squares_front
reading_opened = tt

abbrev sample : List (List ℕ)
sample =
    codes "strategy 1"
    ∷ codes "attacker white"
    ∷ codes "nodes 4"
    ∷ codes "node 0 2 7k/R7/5K2/8/8/8/8/8 w - - 0 1"
    ∷ codes "edge f6g6 1"
    ∷ codes "node 1 1 7k/R7/6K1/8/8/8/8/8 b - - 1 1"
    ∷ codes "edge h8g8 2"
    ∷ codes "node 2 1 6k1/R7/6K1/8/8/8/8/8 w - - 2 1"
    ∷ codes "edge a7a8 3"
    ∷ codes "node 3 0 R5k1/8/6K1/8/8/8/8/8 b - - 3 1"
    ∷ codes "end"
    ∷ []

abbrev lines : List (List ℕ) → List Line
lines texts = map Text texts

abbrev at : ℕ → ℕ → ℕ
at file rank = 12 * rank + file

-- the kings and the rook
abbrev board : ℕ → ℕ → ℕ → ℕ → Side → Position
board rook white black counter side = record empty { cells = set (set (set empty.cells rook (man White 17)) white (man White 10)) black (man Black 10); counter = counter; side = side }

abbrev go : ℕ → ℕ → ℕ → List Edge
go from to node = record { chosen = Go (record { 0 = from }) (record { 0 = to }) Stays None; to = node } ∷ []

abbrev node : Position → ℕ → List Edge → Node
node p rank edges = record { position = p; rank = rank; edges = edges }

-- a7, f6 and h8; g6; g8; a8
abbrev mate : Strategy
mate = record {
  attacker = White;
  nodes =
      node (board 72 65 91 0 White) 2 (go 65 66 1)
      ∷ node (board 72 66 91 1 Black) 1 (go 91 90 2)
      ∷ node (board 72 66 90 2 White) 1 (go 72 84 3)
      ∷ node (board 84 66 90 3 Black) 0 []
      ∷ [];
}

read : strategy_of chess (lines sample) ≡ Ok mate
unfolding reading_opened
read = refl

-- without its last line, at a place where a line is missing
no_end : strategy_of chess (lines (take 10 sample)) ≡ Err (Ended 11)
unfolding reading_opened
no_end = refl

-- a line more
after_end : strategy_of chess (lines (sample ++ codes "end" ∷ [])) ≡ Err (Ended 12)
unfolding reading_opened
after_end = refl

abbrev faulty : ℕ → List ℕ → List Line
faulty line text = lines (set sample (line - 1) text)

-- an edge to the node after the last
to_no_node : strategy_of chess (faulty 9 (codes "edge a7a8 4")) ≡ Err (BadNumber 9)
unfolding reading_opened
to_no_node = refl

-- the number of a node comes before what its FEN says, and that number's form before both
number_first : strategy_of chess (faulty 6 (codes "node 2 1 7k w - - 1 1")) ≡ Err (BadNumber 6)
unfolding reading_opened
number_first = refl

form_first : strategy_of chess (faulty 6 (codes "node 02 1 7k w - - 1 1")) ≡ Err (BadLine 6)
unfolding reading_opened
form_first = refl

no_fen : strategy_of chess (faulty 6 (codes "node 1 1 ")) ≡ Err (BadPosition 6 Length)
unfolding reading_opened
no_fen = refl

-- the place comes before the move, and the empty text names none
place_first : strategy_of chess (faulty 5 (codes "edge f6 4")) ≡ Err (BadNumber 5)
unfolding reading_opened
place_first = refl

no_move : strategy_of chess (faulty 5 (codes "edge  1")) ≡ Err (BadMove 5)
unfolding reading_opened
no_move = refl

-- an edge before any node
edge_first : strategy_of chess (faulty 4 (codes "edge f6g6 1")) ≡ Err (BadLine 4)
unfolding reading_opened
edge_first = refl

header : strategy_of chess (faulty 2 (codes "attacker White")) ≡ Err (Header 2)
unfolding reading_opened
header = refl

long_header : strategy_of chess (TooLong ∷ []) ≡ Err (Header 1)
unfolding reading_opened
long_header = refl
