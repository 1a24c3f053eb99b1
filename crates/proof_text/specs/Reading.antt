-- What a proof text says: a game, a goal and a strategy, or the first fault; and how many of its lines tell it. Each
-- definition takes the lines from one of them on, from the last part to the first.
use Rattle.std.specs.Prelude.{◌≡◌, ℕ, zero, suc, ◌+◌, ◌-◌, Bool, false, List, [], ◌∷◌, ◌++◌, drop, take, length, codes, Option, None, Some, option_and_then, Result, Ok, Err, MatchResult, if◌then◌else◌}
use Rattle.io_ports.specs.Lines.{Line, Text}
use Rattle.rules_model.specs.declared.board.Position.{Position}
use Rattle.rules_model.specs.declared.rules.Rules.{Rules}
use Rattle.fen_model.specs.declared.fault.FenFault.{FenFault}
use Rattle.fen_model.specs.Reading.{fen_of}
use Rattle.variant_ini.specs.declared.key_line.KeyLine.{KeyLine}
use Rattle.variant_ini.specs.Lone.{lone_section}
use Rattle.variant_model.specs.declared.fault.SectionFault.{SectionFault}
use Rattle.variant_model.specs.Entry.{entry}
use Rattle.game_play.specs.Played.{Played}
use Rattle.game_text.specs.declared.fault.GameFault.{GameFault}
use Rattle.game_text.specs.declared.goal.Goal.{Goal}
use Rattle.game_text.specs.GameText.{started}
use Rattle.game_text.specs.Playing.{play}
use Rattle.strategy.specs.declared.fault.StrategyFault.{StrategyFault}
use Rattle.strategy.specs.declared.nodes.Strategy.{Strategy}
use Rattle.strategy.specs.Needed.{lines_of_strategy}
use Rattle.strategy.specs.Reading.{strategy_of}
use Rattle.proof_text.specs.declared.fault.ProofFault.{ProofFault}
use Rattle.proof_text.specs.declared.fault.ProofFault.TheVariants.{Header, BadRules, RefusedRules, BadStart, BadHistory, BadBody}
use Rattle.proof_text.specs.declared.proof.Proof.{Proof}
use Rattle.proof_text.specs.Fault.{IsFaultOrMemory, moved_down}
use Rattle.proof_text.specs.Lines.{first_text}
use Rattle.proof_text.specs.Pairs.{pair_said}
use Rattle.proof_text.specs.Words.{is_version, rules_said, start_said, history_said, goal_said}

-- how the lines from one of them on are read
pub record Reading : Type 0 where
  -- what they say
  pub says : List Line → Result Proof ProofFault
  -- how many of them tell it: all of them, or those up to the first faulty one
  pub needs : List Line → ℕ

-- ---- one line, and those after it

abbrev pub said_or : {A : Type 0} → ProofFault → Option A → (A → Result Proof ProofFault) → Result Proof ProofFault
said_or fault None rest = Err fault
said_or fault (Some x) rest = rest x

abbrev pub if_said : {A : Type 0} → Option A → (A → ℕ) → ℕ
if_said None more = 0
if_said (Some x) more = more x

-- the first line says something, by which those after it are read; or it is missing, too long or says nothing, and has
-- this fault
unfoldable pub line_on : {A : Type 0} → ProofFault → (List ℕ → Option A) → (A → Reading) → Reading
line_on fault said rest = record {
  says = λ lines. said_or fault (option_and_then said (first_text lines)) (λ x. (rest x).says (drop 1 lines));
  needs = λ lines. length (take 1 lines) + if_said (option_and_then said (first_text lines))
      (λ x. (rest x).needs (drop 1 lines));
}

-- a fault that the lines before tell
abbrev pub fault_on : ProofFault → Reading
fault_on fault = record { says = λ lines. Err fault; needs = λ lines. 0 }

-- ---- the strategy: a text of version 1 from its second line on

abbrev pub with_strategy : ℕ → Played → Goal → Result Strategy StrategyFault → Result Proof ProofFault
with_strategy number g goal (Ok s) = Ok (record { game = g; attacker = goal.attacker; n = goal.moves; strategy = s })
with_strategy number g goal (Err fault) = Err (BadBody (moved_down (number - 2) fault))

-- the strategy that lines say after a first line `strategy 1`
abbrev pub body_of : Rules → List Line → Result Strategy StrategyFault
body_of rules lines = strategy_of rules (Text (codes "strategy 1") ∷ lines)

abbrev pub lines_of_body : Rules → List Line → ℕ
lines_of_body rules lines = lines_of_strategy rules (Text (codes "strategy 1") ∷ lines) - 1

-- the lines from this number on
unfoldable pub body_on : ℕ → Played → Goal → Reading
body_on number g goal =
    record { says = λ lines. with_strategy number g goal (body_of g.rules lines); needs = lines_of_body g.rules }

-- ---- `goal SIDE N`

unfoldable pub goal_on : ℕ → Played → Reading
goal_on number g = line_on (Header number) goal_said (body_on (number + 1) g)

-- ---- `history N`, and N lines of one move each

abbrev pub game_in : Result Played GameFault → Option Played
game_in (Ok g) = Some g
game_in (Err fault) = None

-- the game after the move that the text names
abbrev pub played_by : Played → List ℕ → Option Played
played_by g text = game_in (play g text)

-- the moves of this many lines, and the goal after them
unfoldable pub moves_on : ℕ → ℕ → Played → Reading
moves_on zero number g = goal_on number g
moves_on (suc count) number g = line_on (BadHistory number) (played_by g) (moves_on count (number + 1))

unfoldable pub history_on : ℕ → Played → Reading
history_on number g = line_on (Header number) history_said (λ count. moves_on count (number + 1) g)

-- ---- `start FEN`

abbrev pub with_start : ℕ → Rules → Result Position FenFault → Reading
with_start number rules (Ok p) = history_on (number + 1) (started rules p)
with_start number rules (Err why) = fault_on (BadStart number why)

unfoldable pub start_on : ℕ → Rules → Reading
start_on number rules = line_on (Header number) start_said (λ fen. with_start number rules (fen_of rules fen))

-- ---- `rules K`, and K lines of a pair each

-- the rules of a section `proof` without a parent that has these pairs, or its first fault
unfoldable pub rules_of : List KeyLine → Result Rules SectionFault
rules_of pairs = entry (lone_section (codes "proof") pairs ∷ []) 0

abbrev pub with_rules : ℕ → Result Rules SectionFault → Reading
with_rules number (Ok rules) = start_on number rules
with_rules number (Err why) = fault_on (RefusedRules why)

-- the pairs of this many lines after these pairs, and the game after them
unfoldable pub pairs_on : ℕ → ℕ → List KeyLine → Reading
pairs_on zero number pairs = with_rules number (rules_of pairs)
pairs_on (suc count) number pairs =
    line_on (BadRules number) pair_said (λ pair. pairs_on count (number + 1) (pairs ++ pair ∷ []))

unfoldable pub rules_on : Reading
rules_on = line_on (Header 2) rules_said (λ count. pairs_on count 3 [])

-- ---- `strategy 2`

abbrev pub version_said : List ℕ → Option (Unit {0})
version_said text = if is_version text then Some tt else None

-- the whole text
unfoldable pub proof_on : Reading
proof_on = line_on (Header 1) version_said (λ version. rules_on)

abbrev pub is_version_in : Option (List ℕ) → Bool
is_version_in None = false
is_version_in (Some text) = is_version text

-- the lines are those of a proof text, whatever its faults
abbrev pub is_proof_text : List Line → Bool
is_proof_text lines = is_version_in (first_text lines)

-- what lines say: a proof, or the first fault
abbrev pub proof_of : List Line → Result Proof ProofFault
proof_of lines = proof_on.says lines

-- how many lines tell it: all of them, or those up to the first faulty one
abbrev pub lines_of_proof : List Line → ℕ
lines_of_proof lines = proof_on.needs lines

-- ---- what calls answer

-- what is said, or else its fault, or out of memory
abbrev pub Answers : {A : Type 0} → Result A ProofFault → Result A ProofFault → Type 0
Answers said answer = MatchResult answer (λ x. said ≡ Ok x) (IsFaultOrMemory said)
