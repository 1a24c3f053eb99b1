-- The strategy that the lines of a text say, or their first fault.
use Rattle.std.specs.Prelude.{◌≡◌, ℕ, ◌+◌, ◌-◌, ◌==◌, ◌&&◌, nat_lt, nat_le, Bool, true, false, List, [], ◌∷◌, ◌++◌, length, slice_get, slice_set, Option, None, Some, Result, Ok, Err, bytes_eq, codes, if◌then◌else◌, All, MatchResult}
use Rattle.io_ports.specs.Lines.{Line, Text, TooLong}
use Rattle.rules_model.specs.declared.board.Position.{Position}
use Rattle.rules_model.specs.declared.board.Side.{Side}
use Rattle.rules_model.specs.declared.board.Side.TheVariants.{White}
use Rattle.rules_model.specs.declared.moves.Move.{Move}
use Rattle.rules_model.specs.declared.rules.Rules.{Rules}
use Rattle.rules_model.specs.Sound.{is_sound}
use Rattle.foundation.specs.Numbers.{capped}
use Rattle.fen_model.specs.declared.fault.FenFault.{FenFault}
use Rattle.fen_model.specs.Reading.{fen_of}
use Rattle.move_text.specs.Read.{move_said}
use Rattle.strategy.specs.declared.fault.StrategyFault.{StrategyFault}
use Rattle.strategy.specs.declared.fault.StrategyFault.TheVariants.{Header, BadLine, BadPosition, BadMove, BadNumber, Ended}
use Rattle.strategy.specs.declared.nodes.Edge.{Edge}
use Rattle.strategy.specs.declared.nodes.Node.{Node}
use Rattle.strategy.specs.declared.nodes.Strategy.{Strategy}
use Rattle.strategy.specs.declared.reader.Reader.{Reader}
use Rattle.strategy.specs.Fault.{IsFaultOrMemory}
use Rattle.strategy.specs.Said.{Said, node_line, edge_line, end_line, attacker_said, count_said, said}

-- steps of which the first fault is the answer
infixl 10 ◌>>=◌
abbrev pub ◌>>=◌ : {A B : Type 0} → Result A StrategyFault → (A → Result B StrategyFault) → Result B StrategyFault
Ok x >>= f = f x
Err fault >>= f = Err fault

-- before the first line
abbrev pub begun : Reader
begun = record { line = 1; attacker = White; announced = 0; nodes = []; is_ended = false }

-- ---- the header

abbrev pub with_version : Reader → List ℕ → Result Reader StrategyFault
with_version b text = if bytes_eq text (codes "strategy 1") then Ok b else Err (Header b.line)

abbrev pub with_attacker : Reader → Option Side → Result Reader StrategyFault
with_attacker b None = Err (Header b.line)
with_attacker b (Some side) = Ok (record b { attacker = side })

-- no list has more than 2^64 - 1 nodes, so a greater number counts as that one
abbrev pub with_count : Reader → Option ℕ → Result Reader StrategyFault
with_count b None = Err (Header b.line)
with_count b (Some count) = Ok (record b { announced = capped count })

-- ---- nodes

-- the number is the next one, and announced; the rank is one of 16 bits
abbrev pub is_next : Reader → ℕ → ℕ → Bool
is_next b number rank = (number == length b.nodes) && nat_lt (length b.nodes) b.announced && nat_le rank 65535

-- a position without edges; its number is 1, whatever the FEN says
abbrev pub bare_node : Position → ℕ → Node
bare_node p rank = record { position = record p { number = 1 }; rank = rank; edges = [] }

abbrev pub with_position : Reader → ℕ → Result Position FenFault → Result Reader StrategyFault
with_position b rank (Err fault) = Err (BadPosition b.line fault)
with_position b rank (Ok p) = Ok (record b { nodes = b.nodes ++ bare_node p rank ∷ [] })

unfoldable pub with_node : Rules → Reader → ℕ → ℕ → List ℕ → Result Reader StrategyFault
with_node rules b number rank fen =
    if is_next b number rank then with_position b rank (fen_of rules fen) else Err (BadNumber b.line)

-- ---- edges

abbrev pub edge : Move → ℕ → Edge
edge chosen to = record { chosen = chosen; to = to }

abbrev pub more_edges : Node → Edge → Node
more_edges v e = record v { edges = v.edges ++ e ∷ [] }

abbrev pub edge_at : List Node → ℕ → Edge → Option Node → List Node
edge_at nodes place e None = nodes
edge_at nodes place e (Some v) = slice_set nodes place (more_edges v e)

-- one more edge of the last node
unfoldable pub with_last_edge : List Node → Edge → List Node
with_last_edge nodes e = edge_at nodes (length nodes - 1) e (slice_get nodes (length nodes - 1))

abbrev pub with_move : Reader → ℕ → Option Move → Result Reader StrategyFault
with_move b to None = Err (BadMove b.line)
with_move b to (Some m) = Ok (record b { nodes = with_last_edge b.nodes (edge m to) })

abbrev pub edge_from : Rules → Reader → List ℕ → ℕ → Option Node → Result Reader StrategyFault
edge_from rules b chosen to None = Err (BadLine b.line)
edge_from rules b chosen to (Some v) =
    if nat_lt to b.announced then with_move b to (move_said rules v.position chosen) else Err (BadNumber b.line)

-- an edge belongs to the node above it
unfoldable pub with_edge : Rules → Reader → List ℕ → ℕ → Result Reader StrategyFault
with_edge rules b chosen to = edge_from rules b chosen to (slice_get b.nodes (length b.nodes - 1))

-- ---- lines

abbrev pub with_end : Reader → Result Reader StrategyFault
with_end b = if length b.nodes == b.announced then Ok (record b { is_ended = true }) else Err (BadNumber b.line)

unfoldable pub with_said : Rules → Reader → Option Said → Result Reader StrategyFault
with_said rules b None = Err (BadLine b.line)
with_said rules b (Some (node_line number rank fen)) = with_node rules b number rank fen
with_said rules b (Some (edge_line chosen to)) = with_edge rules b chosen to
with_said rules b (Some end_line) = with_end b

-- the fault of a line with more than 2,048 bytes
abbrev pub long_fault : Reader → StrategyFault
long_fault b = if b.is_ended then Ended b.line else if nat_le b.line 3 then Header b.line else BadLine b.line

unfoldable pub with_text : Rules → Reader → List ℕ → Result Reader StrategyFault
with_text rules b text =
    if nat_lt 2048 (length text) then Err (long_fault b)
    else if b.is_ended then Err (Ended b.line)
    else if b.line == 1 then with_version b text
    else if b.line == 2 then with_attacker b (attacker_said text)
    else if b.line == 3 then with_count b (count_said text)
    else with_said rules b (said text)

abbrev pub with_line : Rules → Reader → Line → Result Reader StrategyFault
with_line rules b TooLong = Err (long_fault b)
with_line rules b (Text text) = with_text rules b text

abbrev pub counted : Reader → Result Reader StrategyFault
counted b = Ok (record b { line = b.line + 1 })

-- after one more line
unfoldable pub step : Rules → Reader → Line → Result Reader StrategyFault
step rules b line = with_line rules b line >>= counted

-- after more lines
unfoldable pub taken : Rules → Reader → List Line → Result Reader StrategyFault
taken rules b [] = Ok b
taken rules b (line ∷ lines) = step rules b line >>= λ next. taken rules next lines

-- where the text ends
abbrev pub finished : Reader → Result Strategy StrategyFault
finished b = if b.is_ended then Ok (record { attacker = b.attacker; nodes = b.nodes }) else Err (Ended b.line)

unfoldable pub strategy_of : Rules → List Line → Result Strategy StrategyFault
strategy_of rules lines = taken rules begun lines >>= finished

-- ---- what calls do

-- a call took what was said: it did as the definition says, or the reader is as before and the answer is the first
-- fault, or out of memory
abbrev pub Takes : Result Reader StrategyFault → Reader → Reader → Result (Unit {0}) StrategyFault → Type 0
Takes said old new answer = MatchResult answer (λ _. said ≡ Ok new) (λ fault. (new ≡ old) × IsFaultOrMemory said fault)

-- the edge that is said, or the fault of its line
abbrev pub GivesEdge : Result Reader StrategyFault → Reader → Result Edge StrategyFault → Type 0
GivesEdge said b answer =
    MatchResult answer (λ e. said ≡ Ok (record b { nodes = with_last_edge b.nodes e })) (λ fault. said ≡ Err fault)

-- the strategy that is said, or else its first fault, or out of memory
abbrev pub Answers : Result Strategy StrategyFault → Result Strategy StrategyFault → Type 0
Answers said answer = MatchResult answer (λ s. said ≡ Ok s) (IsFaultOrMemory said)

-- the positions of the nodes are sound
abbrev pub AreSound : Rules → List Node → Type 0
AreSound rules nodes = All (λ v. is_sound rules v.position ≡ true) nodes
