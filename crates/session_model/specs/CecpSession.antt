-- What a CECP session may answer: a relation, since a search may be cut and chooses among moves.
use Rattle.std.specs.Prelude.{◌≡◌, ℕ, ◌+◌, ◌-◌, ◌/◌, min, Bool, true, false, is_some, List, [], ◌∷◌, ◌++◌, map, Option, Some, None, codes, if◌then◌else◌}
use Rattle.std.specs.Fmt.{decimal, signed_decimal}
use Rattle.io_ports.specs.declared.dialect.Dialect.TheVariants.{Cecp}
use Rattle.io_ports.specs.Lines.{Line}
use Rattle.rules_model.specs.declared.moves.Move.{Move}
use Rattle.rules_model.specs.MoveText.{text_of}
use Rattle.game_play.specs.Played.{legal_in, story}
use Rattle.evaluation.specs.Bounds.{depths_bound}
use Rattle.session_model.specs.declared.limits.TheConstants.{MOST_DEPTH, SHORT_DEPTH}
use Rattle.session_model.specs.CecpLines as line
use Rattle.session_model.specs.CecpLines.{Command, command_of, gives_up}
use Rattle.session_model.specs.CecpState.{State, Answer, answer_to, played, thinks}
use Rattle.session_model.specs.Deadlines.{allowance}
use Rattle.watching.specs.Events.{Event, Says, AreUnstopped, readings, said}
use Rattle.session_model.specs.Events.{after_reading, clocked}
use Rattle.session_model.specs.Numbers.{product_capped}
use Rattle.session_model.specs.Thinking.{Task, Report, Score, Points, Mates, Mated, Ending, Whole, InSearch, InSolve, Cause, Interrupted, OutOfNodes, OutOfTime, Deepens, last_best, reported}
use Rattle.session_model.specs.Turns.{Protocol, Turn}
use Rattle.session_model.specs.UciGo.{cut_to}

-- ---- limits

-- by the seconds a move, else by the level and the time that is left
abbrev pub time_by : Option ℕ → Option (ℕ × ℕ) → Option ℕ → Option ℕ
time_by (Some seconds) level left = Some (product_capped 1000 seconds)
time_by None (Some level) (Some left) =
    Some (allowance (product_capped 10 left) (product_capped 1000 level.1) (Some level.0))
time_by None level left = None

-- the time of a thinking, from its first reading to the deadline, in milliseconds
abbrev pub time_for : State → Option ℕ
time_for state = time_by state.st state.level state.time

abbrev pub lowered : ℕ → Option ℕ → ℕ
lowered depth None = depth
lowered depth (Some sd) = min depth (cut_to MOST_DEPTH sd)

-- 64 where there is a deadline, else 4; `sd` lowers it
abbrev pub depth_for : State → ℕ
depth_for state = lowered (if is_some (time_for state) then MOST_DEPTH else SHORT_DEPTH) state.sd

abbrev pub task_of : State → Task
task_of state = record {
  game = state.game;
  roots = legal_in state.game;
  depths = depth_for state;
  share = None;
  time = time_for state;
}

-- ---- lines

-- 100,000 and more stand for a mate
abbrev pub score_text : Score → List ℕ
score_text (Points v) = signed_decimal v
score_text (Mates n s) = decimal (100000 + n)
score_text (Mated n s) = codes "-" ++ decimal (100000 + n)

-- centiseconds from the first reading, 0 where the clock went back
abbrev pub centiseconds : ℕ → ℕ → ℕ
centiseconds first reading = (reading - first) / 10

-- `DEPTH SCORE TIME NODES M`
abbrev pub post_line : ℕ → ℕ → Report → List ℕ
post_line first depth r =
    decimal depth
    ++ (codes " " ++ (score_text r.score
    ++ (codes " " ++ (decimal (centiseconds first r.clock)
    ++ (codes " " ++ (decimal r.nodes ++ (codes " " ++ (text_of r.best ++ codes "\n"))))))))

abbrev pub post_lines : ℕ → ℕ → List Report → List (List ℕ)
post_lines first depth [] = []
post_lines first depth (report ∷ reports) = post_line first depth report ∷ post_lines first (depth + 1) reports

abbrev pub move_line : Move → List ℕ
move_line m = codes "move " ++ (text_of m ++ codes "\n")

-- ---- thinking

abbrev pub first_reading : List ℕ → ℕ
first_reading [] = 0
first_reading (reading ∷ taken) = reading

-- With thinking output a line for each depth, after a reading of the clock that is not the first; without it none.
abbrev pub Posts : Bool → List Event → List Report → Type 0
Posts false before reports = said before ≡ []
Posts true before reports =
    (said before ≡ post_lines (first_reading (readings before)) 1 reports)
    × (clocked None (after_reading before) ≡ map (λ report. Some report.clock) reports)

-- the next line is one at which a search gives up
abbrev pub is_given_up : List Line → Bool
is_given_up [] = false
is_given_up (line ∷ lines) = gives_up (command_of line)

abbrev pub gives_up_by : Cause → List Line → Bool
gives_up_by Interrupted following = is_given_up following
gives_up_by OutOfNodes following = false
gives_up_by OutOfTime following = false

-- a search that ended so makes no move
abbrev pub is_moveless : Ending → List Line → Bool
is_moveless Whole following = false
is_moveless (InSearch cause) following = gives_up_by cause following
is_moveless (InSolve report n cause) following = gives_up_by cause following

-- the events and the state after a search: nothing more; or a move, and the result where it ends the game
abbrev pub Concludes : Bool → Turn State → List Event → State → Move → Type 0
Concludes true turn events state best = (turn.events ≡ events) × (turn.after ≡ state)
Concludes false turn events state best =
    (turn.events ≡ events ++ Says (move_line best ++ (played state best).text) ∷ [])
    × (turn.after ≡ (played state best).state)

-- depth after depth from a state, after these events
pub record Thinks (Interrupts : Type 0) (state : State) (first : Move) (answered : List Event) (turn : Turn State)
    (following : List Line) : Type 0 where
  pub before : List Event
  pub reports : List Report
  pub ending : Ending
  pub unstopped : AreUnstopped Cecp before
  pub deepens : Deepens Cecp Interrupts (task_of state) reports ending (readings before) following
  pub posts : Posts state.posts before (reported reports ending)
  pub concludes : Concludes (is_moveless ending following) turn (answered ++ before) state
      (last_best first (reported reports ending))

-- ---- any line

-- a text, where there is one
abbrev pub saying : List ℕ → List Event
saying [] = []
saying (byte ∷ bytes) = Says (byte ∷ bytes) ∷ []

abbrev pub ThinksFrom : Bool → List Move → Type 0 → Answer → Turn State → List Line → Type 0
ThinksFrom true (first ∷ moves) Interrupts answer turn following =
    Thinks Interrupts answer.state first (saying answer.text) turn following
ThinksFrom thinking moves Interrupts answer turn following =
    (turn.events ≡ saying answer.text) × (turn.after ≡ answer.state)

-- the line is answered, and then the engine thinks, where it plays the side to move
abbrev pub Answers : Type 0 → State → Turn State → List Line → Answer → Type 0
Answers Interrupts state turn following answer =
    ThinksFrom (thinks answer.state) (legal_in answer.state.game) Interrupts answer turn following

abbrev pub bound_from : Bool → State → ℕ
bound_from false state = 0
bound_from true state = depths_bound state.game.rules (depth_for state) (story state.game)

-- the bound of the thinking after a line
unfoldable pub bound_of : State → ℕ
bound_of state = bound_from (thinks state) state

abbrev pub is_quit : Command → Bool
is_quit line.Quit = true
is_quit command = false

abbrev pub answer_of : State → Line → Answer
answer_of state line = answer_to state line (command_of line)

-- the CECP protocol
abbrev pub cecp : Protocol State
cecp = record {
  dialect = Cecp;
  quits = λ line. is_quit (command_of line);
  bound = λ state line. bound_of (answer_of state line).state;
  answers = λ Interrupts state turn following. Answers Interrupts state turn following (answer_of state turn.line);
}
