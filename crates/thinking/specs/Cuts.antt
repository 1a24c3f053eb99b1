-- What cuts a search or a solve.
use Rattle.std.specs.Prelude.{◌≡◌, ℕ, List, true, Option, Some, None}
use Rattle.io_ports.specs.declared.dialect.Dialect.{Dialect}
use Rattle.io_ports.specs.Heard.{stops}
use Rattle.io_ports.specs.Lines.{Text}
use Rattle.io_ports.specs.Owing.{Lacks}
use Rattle.io_ports.specs.Source.{Owed}
use Rattle.watching.specs.declared.halt.Cut.{Cut}
use Rattle.watching.specs.declared.halt.Cut.TheVariants as cut
use Rattle.session_model.specs.Deadlines.{IsReached}
use Rattle.session_model.specs.Thinking.{Cause, Interrupted, OutOfNodes, OutOfTime, Ending, Whole, InSearch, InSolve, IsShort}

abbrev pub cause_of : Cut → Cause
cause_of cut.Line = Interrupted
cause_of cut.End = Interrupted
cause_of (cut.Quota quota) = OutOfNodes
cause_of (cut.Deadline reading) = OutOfTime

-- A line that stops a search, or the end of the lines, where fewer polls are owed than the bound; a share below the
-- nodes that may be reached; a reading at the deadline or after it.
abbrev pub CutsBy : Dialect → Owed → ℕ → Option ℕ → Option ℕ → ℕ → List ℕ → List ℕ → Cut → Type 0
CutsBy dialect owed bound share deadline reach taken text cut.Line =
    Lacks owed bound × (stops dialect (Text text) ≡ true)
CutsBy dialect owed bound share deadline reach taken text cut.End = Lacks owed bound
CutsBy dialect owed bound share deadline reach taken text (cut.Quota quota) = IsShort share reach
CutsBy dialect owed bound share deadline reach taken text (cut.Deadline reading) = IsReached deadline taken

-- nothing cut what came to its end, and this cut what did not
abbrev pub IsEndedBy : Option Cut → Ending → Type 0
IsEndedBy None Whole = Unit {0}
IsEndedBy None (InSearch cause) = ⊥
IsEndedBy None (InSolve report n cause) = ⊥
IsEndedBy (Some why) Whole = ⊥
IsEndedBy (Some why) (InSearch cause) = cause ≡ cause_of why
IsEndedBy (Some why) (InSolve report n cause) = cause ≡ cause_of why
