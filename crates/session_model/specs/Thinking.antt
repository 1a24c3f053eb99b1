-- What both protocols share of a search: depth after depth, mates that scores stand for, and what may cut it.
use Rattle.std.specs.Prelude.{◌≡◌, ℕ, ◌+◌, ◌^◌, ◌≤◌, ◌<◌, List, [], ◌∷◌, ◌++◌, length, Option, Some, None, ◌==◌, if◌then◌else◌, ℤ, pos, negsuc}
use Rattle.io_ports.specs.declared.dialect.Dialect.{Dialect}
use Rattle.io_ports.specs.Lines.{Line}
use Rattle.rules_model.specs.declared.moves.Move.{Move}
use Rattle.rules_model.specs.Sides.{other}
use Rattle.game_play.specs.Played.{Played, legal_in, story}
use Rattle.strategy.specs.declared.nodes.Strategy.{Strategy}
use Rattle.evaluation.specs.Bounds.{search_bound, searches_bound, solve_bound}
use Rattle.session_model.specs.Deadlines.{IsReached, deadline_of}
use Rattle.session_model.specs.Events.{IsStopped}
use Rattle.session_model.specs.Mates.{Announced, Evidence, IsEvidence, IsNoWin, IsShown, favoured, mate_in, mover, root_move}
use Rattle.evaluation.specs.Values.{Attains, value_of}

-- ---- what is searched

-- a game, its root moves, the last depth, the nodes that each worker may enter, and the time from the first reading
-- to the deadline
pub record Task : Type 0 where
  pub game : Played
  pub roots : List Move
  pub depths : ℕ
  pub share : Option ℕ
  pub time : Option ℕ

abbrev pub value_at : Task → ℕ → ℤ
value_at t depth = value_of t.game.rules depth (story t.game) t.roots

abbrev pub AttainsAt : Task → ℕ → Move → Type 0
AttainsAt t depth m = Attains t.game.rules depth (story t.game) t.roots (value_at t depth) m

-- within how many moves a mate is looked for after this depth: all legal moves are root moves, and the value stands
-- for a mate
abbrev pub mate_sought : Task → ℕ → Option ℕ
mate_sought t depth = if length t.roots == length (legal_in t.game) then mate_in (value_at t depth) else None

-- ---- what is reported of a depth

-- points, a mate by the mover, or one by the other side, each with its number of moves and a strategy
pub data Score : Type 0 where
  Points : ℤ → Score
  Mates : ℕ → Strategy → Score
  Mated : ℕ → Strategy → Score

pub record Report : Type 0 where
  pub score : Score
  pub best : Move
  -- why a mate that was looked for stays unsettled
  pub unsettled : Option Evidence
  -- what CECP prints besides: the nodes that a worker entered, and the reading of the clock after the depth
  pub nodes : ℕ
  pub clock : ℕ

-- the value favours the mover
abbrev pub IsAhead : ℤ → Type 0
IsAhead (pos v) = Unit {0}
IsAhead (negsuc v) = ⊥

abbrev pub IsBehind : ℤ → Type 0
IsBehind (pos v) = ⊥
IsBehind (negsuc v) = Unit {0}

-- nothing is looked for; or there is no win within that number; or there is evidence
abbrev pub IsSettled : Task → ℕ → Option ℕ → Option Evidence → Type 0
IsSettled t depth None None = Unit {0}
IsSettled t depth None (Some e) = ⊥
IsSettled t depth (Some n) None = IsNoWin t.game n (favoured (mover t.game) (value_at t depth))
IsSettled t depth (Some n) (Some e) = IsEvidence t.game n (favoured (mover t.game) (value_at t depth)) e

-- The score is the value, and the move attains it, and any mate is settled; or the mate is shown that the value
-- stands for. The move is then that of the strategy's root where the mover mates.
abbrev pub IsScore : Task → ℕ → Score → Move → Option Evidence → Type 0
IsScore t depth (Points points) best unsettled =
    (points ≡ value_at t depth) × AttainsAt t depth best × IsSettled t depth (mate_sought t depth) unsettled
IsScore t depth (Mates n s) best unsettled =
    (mate_sought t depth ≡ Some n) × IsAhead (value_at t depth) × IsShown t.game n (mover t.game) s
    × (root_move s ≡ Some best)
    × (unsettled ≡ None)
IsScore t depth (Mated n s) best unsettled =
    (mate_sought t depth ≡ Some n) × IsBehind (value_at t depth) × IsShown t.game n (other (mover t.game)) s
    × AttainsAt t depth best
    × (unsettled ≡ None)

pub record IsReport (t : Task) (depth : ℕ) (report : Report) : Type 0 where
  pub scored : IsScore t depth report.score report.best report.unsettled
  pub few : report.nodes ≤ search_bound t.game.rules depth (story t.game)
  pub counted : report.nodes < 2 ^ 64

-- true reports, of one depth after another without a gap
abbrev pub AreReports : Task → ℕ → List Report → Type 0
AreReports t depth [] = Unit {0}
AreReports t depth (report ∷ reports) = IsReport t depth report × AreReports t (depth + 1) reports

-- a report whose mate was looked for within n moves, and not settled, since that was cut
pub record IsOpen (t : Task) (depth n : ℕ) (report : Report) : Type 0 where
  pub score : report.score ≡ Points (value_at t depth)
  pub best : AttainsAt t depth report.best
  pub sought : mate_sought t depth ≡ Some n
  pub unsettled : report.unsettled ≡ None
  pub few : report.nodes ≤ search_bound t.game.rules depth (story t.game)
  pub counted : report.nodes < 2 ^ 64

-- ---- what may cut a search

-- the next line or the end of the lines, the share of nodes, the clock
pub data Cause : Type 0 where
  Interrupted : Cause
  OutOfNodes : Cause
  OutOfTime : Cause

-- a number is given, and it is below the bound
abbrev pub IsShort : Option ℕ → ℕ → Type 0
IsShort None bound = ⊥
IsShort (Some number) bound = number < bound

-- The next line stops the search, or no line is left, where that may interrupt it; the share is below the bounds of
-- the searches so far and of what is cut; a reading stood at the deadline or after it.
abbrev pub MayCut : Dialect → Type 0 → Option ℕ → Option ℕ → ℕ → List ℕ → List Line → Cause → Type 0
MayCut dialect Interrupts share time bound taken following Interrupted = Interrupts × IsStopped dialect following
MayCut dialect Interrupts share time bound taken following OutOfNodes = IsShort share bound
MayCut dialect Interrupts share time bound taken following OutOfTime = IsReached (deadline_of time taken) taken

-- the bounds of the searches up to a depth, and of a solve within n moves
abbrev pub searches_upto : Task → ℕ → ℕ
searches_upto t depth = searches_bound t.game.rules depth (story t.game)

abbrev pub solve_within : Task → ℕ → ℕ
solve_within t n = solve_bound t.game.rules n (story t.game)

-- ---- depth after depth

-- all depths were done; or the next depth was cut; or what was cut was the solve after it, which leaves its report open
pub data Ending : Type 0 where
  Whole : Ending
  InSearch : Cause → Ending
  InSolve : Report → ℕ → Cause → Ending

-- the report that was left open
abbrev pub open_report : Ending → List Report
open_report Whole = []
open_report (InSearch cause) = []
open_report (InSolve report n cause) = report ∷ []

-- so it may end, after this number of depths
abbrev pub MayEnd : Dialect → Type 0 → Task → ℕ → List ℕ → List Line → Ending → Type 0
MayEnd dialect Interrupts t done taken following Whole = done ≡ t.depths
MayEnd dialect Interrupts t done taken following (InSearch cause) =
    (done < t.depths)
    × MayCut dialect Interrupts t.share t.time (searches_upto t (done + 1)) taken following cause
MayEnd dialect Interrupts t done taken following (InSolve report n cause) =
    (done < t.depths)
    × IsOpen t (done + 1) n report
    × MayCut dialect Interrupts t.share t.time (searches_upto t (done + 1) + solve_within t n) taken following cause

-- a search of one depth after another, with these readings, and these lines after it
pub record Deepens (dialect : Dialect) (Interrupts : Type 0) (t : Task) (reports : List Report) (ending : Ending)
    (taken : List ℕ) (following : List Line) : Type 0 where
  pub valued : AreReports t 1 reports
  pub ended : MayEnd dialect Interrupts t (length reports) taken following ending

-- all reports
abbrev pub reported : List Report → Ending → List Report
reported reports ending = reports ++ open_report ending

-- ---- what is left of it

-- the move of the last report, else the first root move
abbrev pub last_best : Move → List Report → Move
last_best first [] = first
last_best first (report ∷ reports) = last_best report.best reports

abbrev pub announced_by : Score → Option Announced → Option Announced
announced_by (Points points) before = before
announced_by (Mates n s) before = Some (record { strategy = s; moves = n })
announced_by (Mated n s) before = Some (record { strategy = s; moves = n })

-- the last mate that was announced, after one before
abbrev pub last_announced : Option Announced → List Report → Option Announced
last_announced before [] = before
last_announced before (report ∷ reports) = last_announced (announced_by report.score before) reports
