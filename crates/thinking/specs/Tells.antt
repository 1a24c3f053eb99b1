-- The lines of depths, by the protocol.
use Rattle.std.specs.Prelude.{◌≡◌, ℕ, List, [], ◌∷◌, map, Option, Some}
use Rattle.io_ports.specs.declared.dialect.Dialect.{Dialect}
use Rattle.rules_model.specs.declared.rules.Rules.{Rules}
use Rattle.watching.specs.Events.{Event, AreUnstopped, said}
use Rattle.session_model.specs.CecpSession.{post_lines}
use Rattle.session_model.specs.Events.{clocked}
use Rattle.session_model.specs.Thinking.{Report}
use Rattle.session_model.specs.UciTexts.{depth_lines}
use Rattle.thinking.specs.declared.style.Style.{Style}
use Rattle.thinking.specs.declared.style.Style.TheVariants as style

-- the lines of reports, from this depth on, after this first reading
abbrev pub lines_by : Style → Rules → ℕ → ℕ → List Report → List (List ℕ)
lines_by style.Uci rules first depth reports = depth_lines rules depth reports
lines_by style.Post rules first depth reports = post_lines first depth reports
lines_by style.Silent rules first depth reports = []

-- where lines have times, each line comes after the reading of its report, whatever was read before
abbrev pub AreClocked : Style → List Event → List Report → Type 0
AreClocked style.Uci events reports = Unit {0}
AreClocked style.Post events reports =
    (last : Option ℕ) → clocked last events ≡ map (λ report. Some report.clock) reports
AreClocked style.Silent events reports = Unit {0}

-- the lines of these reports are said, and nothing else; no line that is heard stops
pub record Tells (dialect : Dialect) (style : Style) (rules : Rules) (first depth : ℕ) (reports : List Report)
    (events : List Event) : Type 0 where
  pub unstopped : AreUnstopped dialect events
  pub lines_are : said events ≡ lines_by style rules first depth reports
  pub clocks_are : AreClocked style events reports

-- the clock is read where lines have times
abbrev pub reads_by : Style → ℕ → List ℕ
reads_by style.Uci reading = []
reads_by style.Post reading = reading ∷ []
reads_by style.Silent reading = []
