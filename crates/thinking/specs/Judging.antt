-- What is found at a depth: a search, and the mate that its value stands for.
use Rattle.std.specs.Prelude.{ℕ, ◌+◌, List, Option, Some, None, IfSome}
use Rattle.io_ports.specs.declared.dialect.Dialect.{Dialect}
use Rattle.io_ports.specs.declared.limits.Limits.{Limits}
use Rattle.io_ports.specs.Owing.{Spends}
use Rattle.io_ports.specs.Source.{Owed}
use Rattle.game_play.specs.Played.{story}
use Rattle.evaluation.specs.Bounds.{asked_bound, search_bound}
use Rattle.watching.specs.declared.halt.Cut.{Cut}
use Rattle.watching.specs.Events.{Listens, readings}
use Rattle.watching.specs.Looks.{Moved, Ran, held}
use Rattle.session_model.specs.Thinking.{Task, IsOpen, IsReport, solve_within}
use Rattle.thinking.specs.Cuts.{CutsBy}
use Rattle.thinking.specs.Views.{report_of}
use Rattle.thinking.specs.declared.depth_result.CutSolve.{CutSolve}
use Rattle.thinking.specs.declared.depth_result.DepthResult.{DepthResult}
use Rattle.thinking.specs.declared.judging.DepthSearched.{DepthSearched}
use Rattle.thinking.specs.declared.judging.DepthSearched.TheVariants as explored
use Rattle.thinking.specs.declared.judging.DepthJudged.{DepthJudged}

-- ---- bounds

abbrev pub search_at : Task → ℕ → ℕ
search_at t depth = search_bound t.game.rules depth (story t.game)

abbrev pub asked_at : Task → ℕ → ℕ
asked_at t depth = asked_bound t.game.rules depth (story t.game)

-- a search, and a solve after it
abbrev pub bound_at : Task → ℕ → ℕ
bound_at t depth = search_at t depth + asked_at t depth

-- ---- the mate that a value stands for

-- a report, whatever the clock says after it; or one that a cut solve leaves open
abbrev pub IsFinding : Task → ℕ → DepthResult → Option CutSolve → Type 0
IsFinding t depth found None = (clock : ℕ) → IsReport t depth (report_of found clock)
IsFinding t depth found (Some cut) = (clock : ℕ) → IsOpen t depth cut.moves (report_of found clock)

abbrev pub solve_cut : Option CutSolve → Option Cut
solve_cut None = None
solve_cut (Some cut) = Some cut.why

abbrev pub solve_reach : Task → Option CutSolve → ℕ
solve_reach t None = 0
solve_reach t (Some cut) = solve_within t cut.moves

pub record IsJudged (dialect : Dialect) (moved : Moved) (owed owed' : Owed) (t : Task) (depth : ℕ) (limits : Limits)
    (text : List ℕ) (judged : DepthJudged) : Type 0 where
  pub ran : Ran dialect moved (held (solve_cut judged.cut) text) (λ events.
      Listens dialect events
      × IfSome (solve_cut judged.cut) (CutsBy dialect owed (asked_at t depth) limits.quota limits.deadline
      (solve_reach t judged.cut) (readings events) text))
  pub is : IsFinding t depth judged.found judged.cut
  pub spends : Spends owed owed' (asked_at t depth)

-- ---- a search, and then that

abbrev pub explored_cut : DepthSearched → Option Cut
explored_cut (explored.Found judged) = solve_cut judged.cut
explored_cut (explored.Off why) = Some why

-- the nodes that may be reached in what is cut
abbrev pub explored_reach : Task → ℕ → DepthSearched → ℕ
explored_reach t depth (explored.Found judged) = search_at t depth + solve_reach t judged.cut
explored_reach t depth (explored.Off why) = search_at t depth

abbrev pub IsExploration : Task → ℕ → DepthSearched → Type 0
IsExploration t depth (explored.Found judged) = IsFinding t depth judged.found judged.cut
IsExploration t depth (explored.Off why) = Unit {0}

pub record IsExplored (dialect : Dialect) (moved : Moved) (owed owed' : Owed) (t : Task) (depth : ℕ) (limits : Limits)
    (text : List ℕ) (e : DepthSearched) : Type 0 where
  pub ran : Ran dialect moved (held (explored_cut e) text) (λ events.
      Listens dialect events
      × IfSome (explored_cut e) (CutsBy dialect owed (bound_at t depth) limits.quota limits.deadline
      (explored_reach t depth e) (readings events) text))
  pub is : IsExploration t depth e
  pub spends : Spends owed owed' (bound_at t depth)
