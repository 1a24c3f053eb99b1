-- What a CECP session keeps between lines, what its lines set and what they answer, but for thinking.
use Rattle.std.specs.Prelude.{ℕ, ◌-◌, nat_le, nat_lt, Bool, true, false, not, ◌&&◌, List, [], ◌++◌, length, take, filter, map, Option, Some, None, Result, Ok, Err, bytes_eq, codes, if◌then◌else◌}
use Rattle.std.specs.Option.{option_map}
use Rattle.std.specs.List.{join_with_byte}
use Rattle.foundation.specs.Tests.{is_nil}
use Rattle.io_ports.specs.declared.dialect.Dialect.TheVariants.{Cecp}
use Rattle.io_ports.specs.Lines as lines
use Rattle.io_ports.specs.Lines.{Line, Text}
use Rattle.rules_model.specs.declared.board.Position.{Position}
use Rattle.rules_model.specs.declared.board.Side.{Side}
use Rattle.rules_model.specs.declared.board.Side.TheVariants.{White, Black}
use Rattle.rules_model.specs.declared.moves.Move.{Move}
use Rattle.rules_model.specs.declared.moves.Outcome.{Outcome}
use Rattle.rules_model.specs.declared.moves.Outcome.TheVariants.{Ongoing, Won, Drawn}
use Rattle.rules_model.specs.declared.rules.Rules.{Rules}
use Rattle.rules_model.specs.Ends.{is_ongoing}
use Rattle.rules_model.specs.Games.{result}
use Rattle.rules_model.specs.Sides.{other, same_side}
use Rattle.fen_model.specs.declared.fault.FenFault.{FenFault}
use Rattle.fen_model.specs.Reading.{fen_of}
use Rattle.variant_ini.specs.Section.{Section}
use Rattle.variant_model.specs.declared.fault.SectionFault.{SectionFault}
use Rattle.variant_rules.specs.Entries.{Named, entries, found, is_accepted}
use Rattle.game_play.specs.Played.{Played, legal_in, longer, story}
use Rattle.game_text.specs.GameText.{started}
use Rattle.game_text.specs.Playing.{move_of, most_plies}
use Rattle.session_model.specs.Begins.{rules_said}
use Rattle.session_model.specs.CecpLines.{Command, Idle, Protover, New, Variant, Force, Go, PlayOther, UserMove, SetBoard, Ping, TakeBack, Post, St, Sd, Level, Time, Quit, BadNumber, Unknown, TooLong}
use Rattle.io_ports.specs.Heard.{too_long}
use Rattle.session_model.specs.Mates.{mover}
use Rattle.game_text.specs.OutcomeText.{cause_name}

pub record State : Type 0 where
  pub sections : List Section
  pub game : Played
  -- the side that the engine plays, if any
  pub plays : Option Side
  -- thinking output is on
  pub posts : Bool
  -- the depth, the seconds a move, the moves of a session and the increment in seconds, the centiseconds left: where
  -- each was given
  pub sd : Option ℕ
  pub st : Option ℕ
  pub level : Option (ℕ × ℕ)
  pub time : Option ℕ
  -- a move ended the game, which has not changed since but by moves
  pub is_over : Bool

-- what a line leaves, and the text that it answers
pub record Answer : Type 0 where
  pub state : State
  pub text : List ℕ

abbrev pub silent : State → Answer
silent state = record { state = state; text = [] }

abbrev pub says : State → List ℕ → Answer
says state text = record { state = state; text = text }

-- ---- errors

abbrev pub line_text : Line → List ℕ
line_text (Text text) = text
line_text lines.TooLong = []

-- `Error (WHY): LINE`
abbrev pub error : List ℕ → Line → List ℕ
error why line = codes "Error (" ++ (why ++ (codes "): " ++ (line_text line ++ codes "\n")))

-- ---- games

-- a game that has changed otherwise than by a move
abbrev pub with_game : State → Played → State
with_game state g = record state { game = g; is_over = false }

-- the line of a result
abbrev pub result_line : Outcome → List ℕ
result_line Ongoing = []
result_line (Won White cause) = codes "1-0 {White wins by " ++ (cause_name cause ++ codes "}\n")
result_line (Won Black cause) = codes "0-1 {Black wins by " ++ (cause_name cause ++ codes "}\n")
result_line (Drawn cause) = codes "1/2-1/2 {Draw by " ++ (cause_name cause ++ codes "}\n")

abbrev pub result_of : Played → Outcome
result_of g = result g.rules (story g)

-- the game is over where a move ended it
abbrev pub with_played : State → Played → State
with_played state g = record state { game = g; is_over = if is_ongoing (result_of g) then state.is_over else true }

-- a move is played
abbrev pub played : State → Move → Answer
played state m = says (with_played state (longer state.game m)) (result_line (result_of (longer state.game m)))

abbrev pub illegal : List ℕ → List ℕ
illegal text = codes "Illegal move: " ++ (text ++ codes "\n")

abbrev pub user_move : State → Line → List ℕ → Option Move → Answer
user_move state line text None = says state (illegal text)
user_move state line text (Some m) =
    if nat_lt (length state.game.moves) most_plies then played state m
    else says state (error (codes "too many moves") line)

-- so many plies back
abbrev pub without_last : ℕ → Played → Played
without_last plies g = record { rules = g.rules; start = g.start; moves = take (length g.moves - plies) g.moves }

abbrev pub taken_back : State → Line → ℕ → Answer
taken_back state line plies =
    if nat_le plies (length state.game.moves) then silent (with_game state (without_last plies state.game))
    else says state (error (codes "nothing played") line)

abbrev pub set_board : State → Line → Result Position FenFault → Answer
set_board state line (Ok p) = silent (with_game state (started state.game.rules p))
set_board state line (Err fault) = says state (error (codes "illegal position") line)

-- ---- variants

-- `normal` is chess
abbrev pub section_name : List ℕ → List ℕ
section_name name = if bytes_eq name (codes "normal") then codes "chess" else name

abbrev pub shown_name : Named → List ℕ
shown_name named = if bytes_eq named.name (codes "chess") then codes "normal" else named.name

abbrev pub rules_named : State → List ℕ → Option (Result Rules SectionFault)
rules_named state name = found (entries state.sections) name

-- The start of a variant, in this state as it is changed. A variant that is not there, or is refused, is unknown and
-- changes nothing.
abbrev pub set_variant : State → (State → State) → Line → Option (Result Rules SectionFault) → Answer
set_variant state changed line None = says state (error (codes "unknown variant") line)
set_variant state changed line (Some (Err fault)) = says state (error (codes "unknown variant") line)
set_variant state changed line (Some (Ok rules)) = silent (with_game (changed state) (started rules rules.start))

-- what `new` sets besides the game
abbrev pub renewed : State → State
renewed state = record state { plays = Some Black; sd = None }

-- the names of those that are accepted, separated by commas
abbrev pub names_text : List Named → List ℕ
names_text sections = join_with_byte 44 (map shown_name (filter is_accepted sections))

abbrev pub variant_names : List Section → List ℕ
variant_names sections = names_text (entries sections)

abbrev pub feature_line : List Section → List ℕ
feature_line sections =
    codes "feature ping=1 setboard=1 usermove=1 colors=0 sigint=0 sigterm=0 myname=\"vengine\" variants=\""
    ++ (variant_names sections ++ codes "\" done=1\n")

-- ---- any line

-- what it leaves and answers before the engine thinks
abbrev pub answer_to : State → Line → Command → Answer
answer_to state line Idle = silent state
answer_to state line Protover = says state (feature_line state.sections)
answer_to state line New = set_variant state renewed line (rules_named state (codes "chess"))
answer_to state line (Variant name) = set_variant state (λ state. state) line (rules_named state (section_name name))
answer_to state line Force = silent (record state { plays = None })
answer_to state line Go = silent (record state { plays = Some (mover state.game) })
answer_to state line PlayOther = silent (record state { plays = Some (other (mover state.game)) })
answer_to state line (UserMove text) = user_move state line text (move_of state.game text)
answer_to state line (SetBoard text) = set_board state line (fen_of state.game.rules text)
answer_to state line (Ping digits) = says state (codes "pong " ++ (digits ++ codes "\n"))
answer_to state line (TakeBack plies) = taken_back state line plies
answer_to state line (Post on) = silent (record state { posts = on })
answer_to state line (St n) = silent (record state { st = Some n })
answer_to state line (Sd n) = silent (record state { sd = Some n })
answer_to state line (Level moves increment) = silent (record state { level = Some (moves, increment) })
answer_to state line (Time n) = silent (record state { time = Some n })
answer_to state line Quit = silent state
answer_to state line BadNumber = says state (error (codes "bad number") line)
answer_to state line Unknown = says state (error (codes "unknown command") line)
answer_to state line TooLong = says state (too_long Cecp)

-- ---- whether and how the engine thinks

abbrev pub is_turn : Option Side → Side → Bool
is_turn None side = false
is_turn (Some plays) side = same_side plays side

-- it plays the side to move, the game is not over, some move is legal, and there is room for one
unfoldable pub thinks : State → Bool
thinks state =
    is_turn state.plays (mover state.game)
    && (not state.is_over && (not (is_nil (legal_in state.game)) && nat_lt (length state.game.moves) most_plies))

-- ---- the start of a session

-- chess, its start, the engine playing Black
abbrev pub state_by : List Section → Rules → State
state_by sections rules = record {
  sections = sections;
  game = started rules rules.start;
  plays = Some Black;
  posts = false;
  sd = None;
  st = None;
  level = None;
  time = None;
  is_over = false;
}

unfoldable pub first_state : List Section → Option State
first_state sections = option_map (state_by sections) (rules_said (found (entries sections) (codes "chess")))
