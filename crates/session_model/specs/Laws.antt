-- What is proved of sessions.
use Rattle.std.specs.List.{AllByRecursion}
use Rattle.std.specs.Prelude.{◌≡◌, ◌⊎◌, ℕ, ◌+◌, ◌-◌, ◌*◌, ◌≤◌, ◌<◌, Bool, true, false, List, [], ◌∷◌, ◌++◌, length, Option, Some, None, Ok, codes}
use Rattle.io_ports.specs.declared.dialect.Dialect.{Dialect}
use Rattle.io_ports.specs.declared.dialect.Heard.{Heard}
use Rattle.io_ports.specs.declared.dialect.Heard.TheVariants as heard
use Rattle.io_ports.specs.Files.{Bytes, Contents, Read, found_of}
use Rattle.io_ports.specs.Trace.{faults_in}
use Rattle.io_ports.specs.declared.dialect.Dialect.TheVariants.{Uci, Cecp}
use Rattle.io_ports.specs.Heard.{heard as heard_in, reply_to, stops}
use Rattle.io_ports.specs.Lines.{Line, Text}
use Rattle.io_ports.specs.Source.{Owed, Untold, Endless}
use Rattle.forced_wins.specs.Wins.{IsInLimit, wins}
use Rattle.rules_model.specs.declared.moves.Move.{Move}
use Rattle.rules_model.specs.Sides.{other}
use Rattle.rules_model.specs.Sound.{is_sound}
use Rattle.foundation.specs.Member.{Member}
use Rattle.evaluation.specs.Bounds.{asked_bound}
use Rattle.game_play.specs.Played.{Played, IsPlayed, legal_in, story}
use Rattle.variant_rules.specs.Loading.{found_fault}
use Rattle.session_model.specs.Mates.{Evidence, HasNoShorter, IsEvidence, IsShown, IsWin, mover, position_at, root_move}
use Rattle.io_ports.specs.Owing.{Covers, Lacks}
use Rattle.session_model.specs.Thinking.{Task, Report, Score, Points, Mates, Mated, Ending, Whole, Deepens, IsReport, AreReports, last_best, mate_sought, solve_within}
use Rattle.session_model.specs.Turns.{Protocol, Turn, Turns, IsOver, Session, bound_in, ending_lines, lines_in, lines_wanted}
use Rattle.session_model.specs.UciGo.{Go, last_depth, last_mate, share_of, time_for}
use Rattle.session_model.specs.UciLines as line
use Rattle.session_model.specs.UciLines.{Command, command_of}
use Rattle.session_model.specs.UciSession as UciSession
use Rattle.session_model.specs.UciSession.{uci, MateAnswer, Shown, Unsettled, Stopped, NoMate, AnswersMate, Decides, first_of, task_after_mate}
use Rattle.session_model.specs.UciState.{State, first_state}
use Rattle.session_model.specs.UciTexts.{best_line, depth_line, depth_lines, no_mate_line}
use Rattle.session_model.specs.CecpSession as CecpSession
use Rattle.session_model.specs.CecpSession.{cecp}
use Rattle.session_model.specs.CecpState as CecpState
use Rattle.watching.specs.Events.{Event, heard_lines, said}
use Rattle.strategy.specs.declared.nodes.Strategy.{Strategy}
use Rattle.rules_model.specs.declared.rules.Rules.{Rules}
use Rattle.variant_ini.specs.OptionValue.{first_named}
use Rattle.variant_ini.specs.Section.{Section}
use Rattle.variant_model.specs.Builtin.{builtin_sections}
use Rattle.variant_model.specs.Entry.{entry}
use Rattle.variant_rules.specs.Entries.{entries, found}
use Rattle.rules_model.specs.declared.board.Side.{Side}

-- ---- polls

-- an answer stays one where a search may be interrupted more often
abbrev pub IsWider : {S : Type 0} → Protocol S → Type 1
IsWider {S = S} p =
    (A B : Type 0) → (A → B) → (state : S) (turn : Turn S) (following : List Line) → p.answers A state turn following
    → p.answers B state turn following

-- A session in which the polls owed cover the bounds of all its searches is one whose polls are without end: nothing
-- interrupts it.
abbrev pub EnoughPolls : {S : Type 0} → Protocol S → Type 0
EnoughPolls {S = S} p =
    (owed : Owed) (state : S) (files : Option Contents) (reads : List Read) (lines : List Line) (taken output : List ℕ)
    (session : Session S p owed state files reads lines taken output)
    → Covers owed (bound_in p 0 state session.turns) → Session S p Endless state files reads lines taken output

-- Where polls are untold, so that the next line or the end may cut any search, some output is allowed for any lines,
-- without a reading of the clock and without a failed read of a file.
abbrev pub HasOutput : {S : Type 0} → Protocol S → Type 0
HasOutput {S = S} p =
    (state : S) (files : Contents) (lines : List Line)
    → (reads : List Read) × (output : List ℕ)
    × Session S p Untold state (Some files) reads lines [] output
    × (faults_in reads ≡ 0)

-- ---- searches that nothing cuts

-- where nothing may interrupt it, and there is neither a share of nodes nor a time, all depths are done
abbrev pub RunsWhole : Type 0
RunsWhole =
    (dialect : Dialect) (t : Task) (reports : List Report) (ending : Ending) (taken : List ℕ) (following : List Line)
    → Deepens dialect ⊥ t reports ending taken following → t.share ≡ None → t.time ≡ None
    → (ending ≡ Whole) × (length reports ≡ t.depths)

-- the mover wins within the number that is shown and within no lesser one, or within none up to the last
abbrev pub IsDecided : Played → ℕ → MateAnswer → Type 0
IsDecided g last (Shown n s best) = IsWin g n (mover g) × HasNoShorter g n
IsDecided g last (Unsettled n e) = ⊥
IsDecided g last (Stopped n cause) = ⊥
IsDecided g last NoMate = HasNoShorter g (last + 1)

-- Where nothing may cut `go mate`, and the counter cannot run out, it shows a mate exactly where the mover has one,
-- at the least number.
abbrev pub MatesAreShown : Type 0
MatesAreShown =
    (state : State) (go : Go) (last : ℕ) (first : Move) (turn : Turn State) (following : List Line)
    (answer : MateAnswer)
    → AnswersMate ⊥ state go last first turn following answer
    → share_of go state.threads ≡ None → time_for go (mover state.game) ≡ None
    → IsInLimit state.game.rules last (story state.game) → IsDecided state.game last answer

-- the answer shows a mate
abbrev pub shows : MateAnswer → Bool
shows (Shown n s best) = true
shows (Unsettled n e) = false
shows (Stopped n cause) = false
shows NoMate = false

-- it does so exactly where the mover wins within the last number
abbrev pub ShowsWhereWon : Type 0
ShowsWhereWon =
    (state : State) (go : Go) (last : ℕ) (first : Move) (turn : Turn State) (following : List Line)
    (answer : MateAnswer)
    → AnswersMate ⊥ state go last first turn following answer
    → share_of go state.threads ≡ None → time_for go (mover state.game) ≡ None
    → IsInLimit state.game.rules last (story state.game) → 0 < last
    → shows answer ≡ wins state.game.rules last (story state.game) (mover state.game)

-- a turn says a line for each depth up to the last, and the best move of the last of them
pub record PrintsAll (state : State) (go : Go) (first : Move) (turn : Turn State) : Type 0 where
  pub reports : List Report
  pub number : length reports ≡ last_depth go
  pub valued : AreReports (UciSession.task_of state go) 1 reports
  pub texts : said turn.events
      ≡ depth_lines state.game.rules 1 reports
      ++ best_line (last_best (first_of first (UciSession.task_of state go).roots) reports) ∷ []

-- Where polls are without end, a `go` with no other limit than a depth does so, where some move is legal.
abbrev pub DepthsArePrinted : Type 0
DepthsArePrinted =
    (used : ℕ) (state : State) (turn : Turn State) (turns : List (Turn State)) (following : List Line) (go : Go)
    (first : Move) (legal : List Move)
    → Turns uci Endless used state (turn ∷ turns) following → command_of turn.line ≡ line.Go go
    → legal_in state.game ≡ first ∷ legal → go.perft ≡ None → go.mate ≡ None
    → share_of go state.threads ≡ None → time_for go (mover state.game) ≡ None → PrintsAll state go first turn

-- after the answer to its line a turn has true reports of all depths, with their lines if they are posted, and plays
-- the move of the last one
pub record PlaysWhole (answer : CecpState.Answer) (turn : Turn CecpState.State) : Type 0 where
  pub first : Move
  pub before : List Event
  pub reports : List Report
  pub number : length reports ≡ CecpSession.depth_for answer.state
  pub valued : AreReports (CecpSession.task_of answer.state) 1 reports
  pub posts : CecpSession.Posts answer.state.posts before reports
  pub plays : CecpSession.Concludes false turn (CecpSession.saying answer.text ++ before) answer.state
      (last_best first reports)

-- Where polls are without end, a thinking without a time does so.
abbrev pub ThinksWhole : Type 0
ThinksWhole =
    (used : ℕ) (state : CecpState.State) (turn : Turn CecpState.State) (turns : List (Turn CecpState.State))
    (following : List Line)
    → Turns cecp Endless used state (turn ∷ turns) following
    → CecpState.thinks (CecpSession.answer_of state turn.line).state ≡ true
    → CecpSession.time_for (CecpSession.answer_of state turn.line).state ≡ None
    → PlaysWhole (CecpSession.answer_of state turn.line) turn

-- a turn says the mate at the least number of moves, which is one, and its first move
pub record PrintsMate (state : State) (last : ℕ) (turn : Turn State) : Type 0 where
  pub number : ℕ
  pub strategy : Strategy
  pub best : Move
  pub decides : Decides state.game last number
  pub won : IsWin state.game number (mover state.game)
  pub first : root_move strategy ≡ Some best
  pub texts : said turn.events ≡ depth_line (2 * number - 1) (Mates number strategy) best ∷ best_line best ∷ []

-- it says that there is none, and then depth 1 with its best move
pub record PrintsNoMate (state : State) (last : ℕ) (first : Move) (turn : Turn State) : Type 0 where
  pub none : HasNoShorter state.game (last + 1)
  pub reports : List Report
  pub number : length reports ≡ 1
  pub valued : AreReports (task_after_mate state) 1 reports
  pub texts : said turn.events
      ≡ no_mate_line last ∷ depth_lines state.game.rules 1 reports ++ best_line (last_best first reports) ∷ []

-- Where polls are without end, `go mate n` with no other limit says one of the two, where some move is legal and the
-- counter cannot run out.
abbrev pub MatesArePrinted : Type 0
MatesArePrinted =
    (used : ℕ) (state : State) (turn : Turn State) (turns : List (Turn State)) (following : List Line) (go : Go) (n : ℕ)
    (first : Move) (legal : List Move)
    → Turns uci Endless used state (turn ∷ turns) following → command_of turn.line ≡ line.Go go
    → legal_in state.game ≡ first ∷ legal → go.perft ≡ None → go.mate ≡ Some n
    → share_of go state.threads ≡ None → time_for go (mover state.game) ≡ None
    → IsInLimit state.game.rules (last_mate n) (story state.game)
    → PrintsMate state (last_mate n) turn ⊎ PrintsNoMate state (last_mate n) first turn

-- ---- announced mates

-- what is shown for a side is a win of that side
abbrev pub ShownWins : Type 0
ShownWins = (g : Played) (n : ℕ) (side : Side) (s : Strategy) → IsShown g n side s → IsWin g n side

-- so each mate that `go mate` shows, at the least number, whatever may cut it
abbrev pub AnsweredMatesAreWon : Type 0
AnsweredMatesAreWon =
    (owed : Owed) (bound : ℕ) (state : State) (go : Go) (last n : ℕ) (s : Strategy) (first best : Move)
    (turn : Turn State) (following : List Line)
    → AnswersMate (Lacks owed bound) state go last first turn following (Shown n s best)
    → IsWin state.game n (mover state.game) × HasNoShorter state.game n

-- the side that a score announces as mating wins
abbrev pub IsMateWon : Played → Score → Type 0
IsMateWon g (Points points) = Unit {0}
IsMateWon g (Mates n s) = IsWin g n (mover g)
IsMateWon g (Mated n s) = IsWin g n (other (mover g))

-- each announced mate is a win against every legal defence
abbrev pub MatesAreWon : Type 0
MatesAreWon = (t : Task) (depth : ℕ) (report : Report) → IsReport t depth report → IsMateWon t.game report.score

-- ---- bounds

-- a solve for the mate that a depth finds stays within what the depth allows
abbrev pub SoughtIsNear : Type 0
SoughtIsNear =
    (t : Task) (depth n : ℕ) (first : Move) (roots : List Move) → t.roots ≡ first ∷ roots → 0 < depth
    → mate_sought t depth ≡ Some n → solve_within t n ≤ asked_bound t.game.rules depth (story t.game)

-- ---- shown strategies

-- where a move is legal, the root move of a strategy that is shown for the mover is a legal move
abbrev pub RootsOfShown : Type 0
RootsOfShown =
    (g : Played) (n : ℕ) (s : Strategy) (first : Move) (legal : List Move)
    → IsShown g n (mover g) s → legal_in g ≡ first ∷ legal
    → (best : Move) × (root_move s ≡ Some best) × Member best (legal_in g)

-- the position that a line on an unsettled mate prints is sound
abbrev pub EvidenceIsSound : Type 0
EvidenceIsSound =
    (g : Played) (n : ℕ) (side : Side) (e : Evidence) → IsPlayed g → IsEvidence g n side e
    → is_sound g.rules (position_at e.repeat e.first) ≡ true

-- ---- lines

-- what a search makes of a command that it hears
abbrev pub heard_as : Command → Heard
heard_as line.IsReady = heard.Reply (codes "readyok")
heard_as line.Idle = heard.Skip
heard_as command = heard.Stop

-- a session reads a line's command as a search that hears it does
abbrev pub HearsAsRead : Type 0
HearsAsRead = (text : List ℕ) → heard_in Uci text ≡ heard_as (command_of (Text text))

-- and what it answers to a line that does not stop a search is what a search answers to it
abbrev pub AnswersAsHeard : Type 0
AnswersAsHeard =
    (state : CecpState.State) (line : Line) → stops Cecp line ≡ false
    → CecpSession.answer_of state line ≡ CecpState.says state (reply_to Cecp line)

-- a line that ends a session stops a search
abbrev pub QuitsStop : {S : Type 0} → Protocol S → Type 0
QuitsStop p = (line : Line) → p.quits line ≡ true → stops p.dialect line ≡ true

-- no line stops a search that is heard while another is answered
abbrev pub HearsUnstopping : {S : Type 0} → Protocol S → Type 1
HearsUnstopping {S = S} p =
    (A : Type 0) (state : S) (turn : Turn S) (following : List Line) → p.answers A state turn following
    → AllByRecursion (λ line. stops p.dialect line ≡ false) (heard_lines turn.events)

-- the lines that are wanted are those of the turns, and the one that ends the session
abbrev pub LinesAreWanted : {S : Type 0} → Protocol S → Type 0
LinesAreWanted {S = S} p =
    (owed : Owed) (used : ℕ) (state : S) (turns : List (Turn S)) (rest : List Line)
    → Turns p owed used state turns rest → IsOver p rest
    → lines_wanted p (lines_in turns ++ rest) ≡ length (lines_in turns) + ending_lines rest

-- ---- variants

-- the variant of a name is that at the place of the first section of the name
abbrev pub VariantPlaces : Type 0
VariantPlaces =
    (sections : List Section) (name : List ℕ) (rules : Rules) → found (entries sections) name ≡ Some (Ok rules)
    → (place : ℕ) × (first_named sections name ≡ Some place) × (place < length sections)
    × (entry sections place ≡ Ok rules)

-- whatever sections follow those that are built in, the first is chess, and it is accepted
abbrev pub ChessIsFirst : Type 0
ChessIsFirst =
    (more : List Section)
    → (rules : Rules) × (found (entries (builtin_sections ++ more)) (codes "chess") ≡ Some (Ok rules))
    × (first_named (builtin_sections ++ more) (codes "chess") ≡ Some 0)
    × (entry (builtin_sections ++ more) 0 ≡ Ok rules)

-- so both sessions begin
abbrev pub SessionsBegin : Type 0
SessionsBegin =
    (more : List Section) (threads : ℕ)
    → (uci_state : State) × (cecp_state : CecpState.State)
    × (first_state (builtin_sections ++ more) threads ≡ Some uci_state)
    × (CecpState.first_state (builtin_sections ++ more) ≡ Some cecp_state)

-- ---- files

-- the bytes of a file are refused as the file is
abbrev pub BytesAreRefusedAsFiles : Type 0
BytesAreRefusedAsFiles = (bytes : List ℕ) → found_fault (Bytes bytes) ≡ found_fault (found_of (Some bytes))
