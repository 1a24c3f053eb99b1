-- What the events of a search say of the lines that follow, and of the times of its lines.
use Rattle.std.specs.Prelude.{◌≡◌, ℕ, List, [], ◌∷◌, true, Option, Some, None}
use Rattle.io_ports.specs.declared.dialect.Dialect.{Dialect}
use Rattle.io_ports.specs.Heard.{stops}
use Rattle.io_ports.specs.Lines.{Line}
use Rattle.watching.specs.Events.{Event, Hears, Says, Reads, Opens}

-- the next line stops a search, or none is left
abbrev pub IsStopped : Dialect → List Line → Type 0
IsStopped dialect [] = Unit {0}
IsStopped dialect (line ∷ lines) = stops dialect line ≡ true

-- the last reading before each text that is said, since the text before it and since the last line that was heard
unfoldable pub clocked : Option ℕ → List Event → List (Option ℕ)
clocked last [] = []
clocked last (Hears line ∷ events) = clocked None events
clocked last (Says text ∷ events) = last ∷ clocked None events
clocked last (Reads reading ∷ events) = clocked (Some reading) events
clocked last (Opens read ∷ events) = clocked last events

-- what comes after the first reading
unfoldable pub after_reading : List Event → List Event
after_reading [] = []
after_reading (Hears line ∷ events) = after_reading events
after_reading (Says text ∷ events) = after_reading events
after_reading (Reads reading ∷ events) = events
after_reading (Opens read ∷ events) = after_reading events
