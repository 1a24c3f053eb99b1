-- What `suite` says: the report on the mate problems of the input, or their first fault.
use Rattle.std.specs.Prelude.{◌≡◌, ℕ, List, Result, Ok, Err}
use Rattle.io_ports.specs.Lines.{Line}
use Rattle.variant_rules.specs.Entries.{Named}
use Rattle.suite.specs.declared.fault.SuiteFault.{SuiteFault}
use Rattle.suite.specs.Fault as suite
use Rattle.suite.specs.Report.{suite_report}
use Rattle.one_shot_checks.specs.Fault.{error_line}

-- a report, or the fault of lines that ask for none
abbrev pub SaysReport : Result (List ℕ) SuiteFault → ℕ → List ℕ → Type 0
SaysReport (Ok report) status text = (status ≡ 0) × (text ≡ report)
SaysReport (Err fault) status text = (status ≡ 3) × (text ≡ error_line (suite.fault_text fault))

-- the answer to an input with these lines, where there are these variants
abbrev pub SaysSuite : List Named → List Line → ℕ → List ℕ → Type 0
SaysSuite variants input status text = SaysReport (suite_report variants input) status text
