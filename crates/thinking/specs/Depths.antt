-- One depth after another.
use Rattle.std.specs.Prelude.{◌≡◌, ℕ, ◌+◌, ◌≤◌, List, [], ◌∷◌, length, Option, Some, None, IfSome, ⊤}
use Rattle.io_ports.specs.declared.dialect.Dialect.{Dialect}
use Rattle.io_ports.specs.declared.limits.Limits.{Limits}
use Rattle.io_ports.specs.Lines.{Line}
use Rattle.io_ports.specs.Owing.{Lacks, Spends}
use Rattle.io_ports.specs.Source.{Owed, Untold}
use Rattle.rules_model.specs.declared.moves.Move.{Move}
use Rattle.game_play.specs.Played.{story}
use Rattle.evaluation.specs.Bounds.{depths_bound}
use Rattle.watching.specs.declared.halt.Cut.{Cut}
use Rattle.watching.specs.Events.{readings}
use Rattle.watching.specs.Looks.{Moved, Ran, held}
use Rattle.session_model.specs.Events.{IsStopped}
use Rattle.session_model.specs.Mates.{Announced}
use Rattle.session_model.specs.Thinking.{Task, Report, Ending, AreReports, Deepens, IsOpen, IsReport, last_announced, last_best, reported, searches_upto}
use Rattle.session_model.specs.Lines.{Follows, Held}
use Rattle.session_model.specs.Turned.{RanPart}
use Rattle.thinking.specs.Cuts.{CutsBy, IsEndedBy}
use Rattle.thinking.specs.Judging.{bound_at, search_at, solve_cut, solve_reach}
use Rattle.thinking.specs.Tells.{Tells}
use Rattle.thinking.specs.Views.{announced_seen, report_of}
use Rattle.thinking.specs.declared.deepening.Depths.{Depths}
use Rattle.thinking.specs.declared.depth.Depth.{Depth}
use Rattle.thinking.specs.declared.depth.Depth.TheVariants.{Done, Off}
use Rattle.thinking.specs.declared.style.Style.{Style}

-- ---- one depth

abbrev pub cut_in : Depth → Option Cut
cut_in (Done found clock cut) = solve_cut cut
cut_in (Off why) = Some why

abbrev pub reports_in : Depth → List Report
reports_in (Done found clock cut) = report_of found clock ∷ []
reports_in (Off why) = []

abbrev pub IsDepth : Task → ℕ → Depth → Type 0
IsDepth t depth (Done found clock None) = IsReport t depth (report_of found clock)
IsDepth t depth (Done found clock (Some cut)) = IsOpen t depth cut.moves (report_of found clock)
IsDepth t depth (Off why) = Unit {0}

-- the nodes that may be reached in what is cut
abbrev pub reach_at : Task → ℕ → Depth → ℕ
reach_at t depth (Done found clock cut) = search_at t depth + solve_reach t cut
reach_at t depth (Off why) = search_at t depth

-- a depth, with its lines
pub record Deeper (dialect : Dialect) (style : Style) (moved : Moved) (owed owed' : Owed) (t : Task) (first depth : ℕ)
    (limits : Limits) (text : List ℕ) (d : Depth) : Type 0 where
  pub ran : Ran dialect moved (held (cut_in d) text) (λ events.
      Tells dialect style t.game.rules first depth (reports_in d) events
      × IfSome (cut_in d) (CutsBy dialect owed (bound_at t depth) limits.quota limits.deadline (reach_at t depth d)
      (readings events) text))
  pub is : IsDepth t depth d
  pub spends : Spends owed owed' (bound_at t depth)

-- The same where a fault came: what was not written of its lines is the back. Where the fault came before its lines,
-- none is told, and it is as if the end of the lines had cut it.
pub record BrokeDepth (dialect : Dialect) (style : Style) (moved : Moved) (t : Task) (first depth : ℕ)
    (limits : Limits) : Type 0 where
  pub text : List ℕ
  pub d : Depth
  pub broke : RanPart dialect moved (held (cut_in d) text) (λ events.
      Tells dialect style t.game.rules first depth (reports_in d) events
      × IfSome (cut_in d) (CutsBy dialect Untold (bound_at t depth) limits.quota limits.deadline (reach_at t depth d)
      (readings events) text))
  pub is : IsDepth t depth d

-- ---- one depth after another

-- these depths are done, none was cut, and a worker entered at most so many nodes in their searches
pub record Deepening (dialect : Dialect) (style : Style) (moved : Moved) (owed owed' : Owed) (t : Task) (root : Move)
    (first done entered : ℕ) (best : Move) (kept : Option Announced) : Type 0 where
  pub reports : List Report
  pub ran : Ran dialect moved [] (Tells dialect style t.game.rules first 1 reports)
  pub valued : AreReports t 1 reports
  pub counted : length reports ≡ done
  pub best_is : best ≡ last_best root reports
  pub kept_is : kept ≡ last_announced None reports
  pub spends : Spends owed owed' (depths_bound t.game.rules done (story t.game))
  pub few : entered ≤ searches_upto t done

-- All depths are done, or one was cut. The root is the first root move; a first reading was taken before. What follows
-- begins with the line that cut it, where one did.
pub record Deepened (dialect : Dialect) (style : Style) (moved : Moved) (owed owed' : Owed) (t : Task) (root : Move)
    (first : ℕ) (text : List ℕ) (depths : Depths) : Type 0 where
  pub reports : List Report
  pub ending : Ending
  pub ran : Ran dialect moved (held depths.why text) (λ events.
      Tells dialect style t.game.rules first 1 (reported reports ending) events
      × ((following : List Line) → Follows depths.why text following
      → Deepens dialect (Lacks owed (depths_bound t.game.rules t.depths (story t.game))) t reports ending
      (first ∷ readings events) following))
  pub ended : IsEndedBy depths.why ending
  pub best_is : depths.best ≡ last_best root (reported reports ending)
  pub kept_is : announced_seen depths.kept ≡ last_announced None (reported reports ending)
  pub spends : Spends owed owed' (depths_bound t.game.rules t.depths (story t.game))

-- A fault came, completed: no line is left, unless one that stops a search cut what was being told.
pub record BrokeOff (dialect : Dialect) (style : Style) (moved : Moved) (t : Task) (first : ℕ) : Type 0 where
  pub reports : List Report
  pub ending : Ending
  pub behind : List Line
  pub is_held : Held behind
  pub stopped : IsStopped dialect behind
  pub broke : RanPart dialect moved behind (λ events.
      Tells dialect style t.game.rules first 1 (reported reports ending) events
      × Deepens dialect ⊤ t reports ending (first ∷ readings events) behind)
