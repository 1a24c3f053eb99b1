-- How many lines tell a certificate: all of them, or those up to the first faulty one. A line after the end is faulty.
use Rattle.std.specs.Prelude.{ℕ, ◌+◌, List, [], ◌∷◌, Result, Ok, Err}
use Rattle.io_ports.specs.Lines.{Line}
use Rattle.rules_model.specs.declared.rules.Rules.{Rules}
use Rattle.rules_model.specs.Games.{Story}
use Rattle.cert_text.specs.declared.fault.CertFault.{CertFault}
use Rattle.cert_text.specs.Reading.{SoFar, begun, step}

abbrev pub unless_faulty : Result SoFar CertFault → (SoFar → ℕ) → ℕ
unless_faulty (Ok b) more = more b
unless_faulty (Err fault) more = 0

-- of the lines that come next
unfoldable pub lines_on : Rules → Story → SoFar → List Line → ℕ
lines_on rules g b [] = 0
lines_on rules g b (line ∷ lines) = 1 + unless_faulty (step rules g b line) (λ next. lines_on rules g next lines)

-- of all lines
abbrev pub lines_of_cert : Rules → Story → List Line → ℕ
lines_of_cert rules g lines = lines_on rules g begun lines
