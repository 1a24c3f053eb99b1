-- What a UCI session may answer: a relation, since a search may be cut and chooses among moves.
use Rattle.std.specs.Prelude.{◌≡◌, ℕ, ◌+◌, ◌-◌, ◌*◌, ◌≤◌, ◌<◌, Bool, true, false, List, [], ◌∷◌, ◌++◌, Option, Some, None, Ok, Err, codes}
use Rattle.io_ports.specs.declared.dialect.Dialect.TheVariants.{Uci}
use Rattle.io_ports.specs.Files.{Found}
use Rattle.io_ports.specs.Lines.{Line}
use Rattle.rules_model.specs.declared.moves.Move.{Move}
use Rattle.game_play.specs.Played.{Played, legal_in, story}
use Rattle.strategy.specs.declared.nodes.Strategy.{Strategy}
use Rattle.evaluation.specs.Bounds.{depths_bound, mates_bound, solve_bound}
use Rattle.io_ports.specs.Heard.{too_long}
use Rattle.watching.specs.Events.{Event, Says, Opens, AreUnstopped, readings, said}
use Rattle.session_model.specs.Events.{IsStopped}
use Rattle.checkers.specs.CheckersText.{checkers_of}
use Rattle.game_text.specs.GameTexts.{moves_of, status_of}
use Rattle.session_model.specs.Mates.{Announced, Evidence, HasNoShorter, IsEvidence, IsShown, mover, root_move}
use Rattle.session_model.specs.Thinking.{Task, Report, Ending, Cause, Mates, Deepens, MayCut, last_announced, last_best, reported}
use Rattle.session_model.specs.Turns.{Protocol, Turn}
use Rattle.session_model.specs.UciGo.{Go, is_held, last_depth, last_mate, roots_of, share_of, time_for}
use Rattle.session_model.specs.UciLines as line
use Rattle.session_model.specs.UciLines.{Command, Setting, command_of}
use Rattle.session_model.specs.UciState.{State, Outcome, file_named, load, new_game, place, set}
use Rattle.session_model.specs.UciTexts.{best_line, depth_line, depth_lines, error_line, no_best_line, no_mate_line, perft_line, stopped_line, strategy_text, uci_text, unsettled_line}

-- ---- plain answers

-- these events, and this state after them
pub record IsPlain (turn : Turn State) (after : State) (events : List Event) : Type 0 where
  pub after_is : turn.after ≡ after
  pub events_are : turn.events ≡ events

-- a text is said, and the state stays
abbrev pub JustSays : Turn State → State → List ℕ → Type 0
JustSays turn state text = IsPlain turn state (Says text ∷ [])

-- after these events a new state, or a fault that leaves the state as it was
abbrev pub Sets : Turn State → State → List Event → Outcome → Type 0
Sets turn state events (Ok after) = IsPlain turn after events
Sets turn state events (Err fault) = IsPlain turn state (events ++ Says (error_line fault) ∷ [])

-- a file was read, if one is named
pub record Loads (turn : Turn State) (state : State) (name : List ℕ) : Type 0 where
  pub found : Found
  pub sets : Sets turn state (Opens (record { name = name; found = found }) ∷ []) (load state found)

abbrev pub LoadsFrom : Turn State → State → Setting → Option (List ℕ) → Type 0
LoadsFrom turn state setting None = Sets turn state [] (set state setting)
LoadsFrom turn state setting (Some name) = Loads turn state name

abbrev pub SetsOption : Turn State → State → Setting → Type 0
SetsOption turn state (line.VariantPath value) = LoadsFrom turn state (line.VariantPath value) (file_named value)
SetsOption turn state setting = Sets turn state [] (set state setting)

-- ---- `go`

-- a search forgets the mate before it
abbrev pub forgotten : State → State
forgotten state = record state { kept = None }

abbrev pub announced : State → Option Announced → State
announced state kept = record state { kept = kept }

-- The best move comes last, and before it stand these lines, with answers to lines heard at any places. It is held
-- back where the words ask it or set no limit.
pub record Concludes (state : State) (go : Go) (turn : Turn State) (following : List Line)
    (texts : List (List ℕ)) (best : Move) (kept : Option Announced) : Type 0 where
  pub before : List Event
  pub events_are : turn.events ≡ before ++ Says (best_line best) ∷ []
  pub unstopped : AreUnstopped Uci before
  pub lines_are : said before ≡ texts
  pub held : is_held go (mover state.game) ≡ true → IsStopped Uci following
  pub after_is : turn.after ≡ announced state kept

-- what is searched: the root moves, to the last depth, with the limits
abbrev pub task_of : State → Go → Task
task_of state go = record {
  game = state.game;
  roots = roots_of go (legal_in state.game);
  depths = last_depth go;
  share = share_of go state.threads;
  time = time_for go (mover state.game);
}

-- all legal moves, to depth 1, without limits
abbrev pub task_after_mate : State → Task
task_after_mate state =
    record { game = state.game; roots = legal_in state.game; depths = 1; share = None; time = None }

abbrev pub first_of : Move → List Move → Move
first_of other [] = other
first_of other (m ∷ ms) = m

-- depth after depth, after these lines
pub record Searches (Interrupts : Type 0) (state : State) (go : Go) (t : Task) (first : Move) (turn : Turn State)
    (following : List Line) (texts : List (List ℕ)) : Type 0 where
  pub reports : List Report
  pub ending : Ending
  pub deepens : Deepens Uci Interrupts t reports ending (readings turn.events) following
  pub concludes : Concludes state go turn following
      (texts ++ depth_lines state.game.rules 1 (reported reports ending))
      (last_best first (reported reports ending)) (last_announced None (reported reports ending))

-- ---- `go mate`

-- the first answer within 1, 2, .. moves that is not `no mate`, and its number of moves; or that there is none
pub data MateAnswer : Type 0 where
  Shown : ℕ → Strategy → Move → MateAnswer
  Unsettled : ℕ → Evidence → MateAnswer
  Stopped : ℕ → Cause → MateAnswer
  NoMate : MateAnswer

-- this number decides: it is from 1 to the last, and the mover has no win within fewer moves
pub record Decides (g : Played) (last n : ℕ) : Type 0 where
  pub some : 0 < n
  pub few : n ≤ last
  pub first : HasNoShorter g n

abbrev pub AnswersMate : Type 0 → State → Go → ℕ → Move → Turn State → List Line → MateAnswer → Type 0
AnswersMate Interrupts state go last first turn following (Shown n s best) =
    Decides state.game last n
    × IsShown state.game n (mover state.game) s
    × (root_move s ≡ Some best)
    × Concludes state go turn following (depth_line (2 * n - 1) (Mates n s) best ∷ []) best
    (Some (record { strategy = s; moves = n }))
AnswersMate Interrupts state go last first turn following (Unsettled n e) =
    Decides state.game last n
    × IsEvidence state.game n (mover state.game) e
    × Searches Interrupts state go (task_after_mate state) first turn following (unsettled_line state.game.rules e ∷ [])
AnswersMate Interrupts state go last first turn following (Stopped n cause) =
    Decides state.game last n
    × MayCut Uci Interrupts (share_of go state.threads) (time_for go (mover state.game))
    (solve_bound state.game.rules n (story state.game)) (readings turn.events) following cause
    × Concludes state go turn following (stopped_line ∷ []) first None
AnswersMate Interrupts state go last first turn following NoMate =
    HasNoShorter state.game (last + 1)
    × Searches Interrupts state go (task_after_mate state) first turn following (no_mate_line last ∷ [])

-- ---- any `go`

-- No move is legal, and that is held back as a best move is: before it lines are heard, and the clock may be read.
pub record HoldsNone (state : State) (turn : Turn State) (following : List Line) : Type 0 where
  pub before : List Event
  pub events_are : turn.events ≡ before ++ Says no_best_line ∷ []
  pub unstopped : AreUnstopped Uci before
  pub lines_are : said before ≡ []
  pub stopped : IsStopped Uci following
  pub after_is : turn.after ≡ forgotten state

-- no move is legal: held, or at once
abbrev pub GoesNowhere : Bool → State → Turn State → List Line → Type 0
GoesNowhere true state turn following = HoldsNone state turn following
GoesNowhere false state turn following = IsPlain turn (forgotten state) (Says no_best_line ∷ [])

-- by `perft`, `mate` and the legal moves
abbrev pub GoesBy : Option ℕ → Option ℕ → List Move → Type 0 → State → Go → Turn State → List Line → Type 0
GoesBy (Some plies) mate legal Interrupts state go turn following =
    IsPlain turn (forgotten state) (Says (perft_line plies state.game) ∷ [])
GoesBy None mate [] Interrupts state go turn following =
    GoesNowhere (is_held go (mover state.game)) state turn following
GoesBy None (Some n) (first ∷ legal) Interrupts state go turn following =
    (answer : MateAnswer) × AnswersMate Interrupts state go (last_mate n) first turn following answer
GoesBy None None (first ∷ legal) Interrupts state go turn following =
    Searches Interrupts state go (task_of state go) (first_of first (task_of state go).roots) turn following []

abbrev pub Goes : Type 0 → State → Go → Turn State → List Line → Type 0
Goes Interrupts state go turn following =
    GoesBy go.perft go.mate (legal_in state.game) Interrupts state go turn following

abbrev pub bound_by : Option ℕ → Option ℕ → List Move → State → Go → ℕ
bound_by (Some plies) mate legal state go = 0
bound_by None mate [] state go = 0
bound_by None (Some n) (first ∷ legal) state go = mates_bound state.game.rules (last_mate n) (story state.game)
bound_by None None (first ∷ legal) state go = depths_bound state.game.rules (last_depth go) (story state.game)

-- the bound of a `go` that searches
unfoldable pub go_bound : State → Go → ℕ
go_bound state go = bound_by go.perft go.mate (legal_in state.game) state go

-- ---- any line

abbrev pub Answers : Type 0 → State → Turn State → List Line → Command → Type 0
Answers Interrupts state turn following line.Uci = JustSays turn state (uci_text state.sections)
Answers Interrupts state turn following line.IsReady = JustSays turn state (codes "readyok\n")
Answers Interrupts state turn following line.NewGame = IsPlain turn (new_game state) []
Answers Interrupts state turn following (line.SetOption setting) = SetsOption turn state setting
Answers Interrupts state turn following (line.Position placing) = Sets turn state [] (place state placing)
Answers Interrupts state turn following (line.Go go) = Goes Interrupts state go turn following
Answers Interrupts state turn following line.Stop = IsPlain turn state []
Answers Interrupts state turn following line.Idle = IsPlain turn state []
Answers Interrupts state turn following line.Moves = JustSays turn state (moves_of state.game)
Answers Interrupts state turn following line.Status = JustSays turn state (status_of state.game)
Answers Interrupts state turn following line.Checkers = JustSays turn state (checkers_of state.game)
Answers Interrupts state turn following line.Strategy = JustSays turn state (strategy_text state state.kept)
Answers Interrupts state turn following line.Quit = ⊥
Answers Interrupts state turn following line.TooLong = JustSays turn state (too_long Uci)

abbrev pub bound_of : State → Command → ℕ
bound_of state (line.Go go) = go_bound state go
bound_of state command = 0

abbrev pub is_quit : Command → Bool
is_quit line.Quit = true
is_quit command = false

-- the UCI protocol
abbrev pub uci : Protocol State
uci = record {
  dialect = Uci;
  quits = λ line. is_quit (command_of line);
  bound = λ state line. bound_of state (command_of line);
  answers = λ Interrupts state turn following. Answers Interrupts state turn following (command_of turn.line);
}
