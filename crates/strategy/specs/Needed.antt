-- How many lines tell a strategy: all of them, or those up to the first faulty one. A line after the end is faulty.
use Rattle.std.specs.Prelude.{ℕ, ◌+◌, List, [], ◌∷◌, Result, Ok, Err}
use Rattle.io_ports.specs.Lines.{Line}
use Rattle.rules_model.specs.declared.rules.Rules.{Rules}
use Rattle.strategy.specs.declared.fault.StrategyFault.{StrategyFault}
use Rattle.strategy.specs.declared.reader.Reader.{Reader}
use Rattle.strategy.specs.Reading.{begun, step}

abbrev pub unless_faulty : Result Reader StrategyFault → (Reader → ℕ) → ℕ
unless_faulty (Ok b) more = more b
unless_faulty (Err fault) more = 0

-- of the lines that the reader takes next
unfoldable pub lines_on : Rules → Reader → List Line → ℕ
lines_on rules b [] = 0
lines_on rules b (line ∷ lines) = 1 + unless_faulty (step rules b line) (λ next. lines_on rules next lines)

-- of all lines
abbrev pub lines_of_strategy : Rules → List Line → ℕ
lines_of_strategy rules lines = lines_on rules begun lines
