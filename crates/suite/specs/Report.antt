-- What is told of a suite: a line for each problem, and how many of them are won.
use Rattle.std.specs.Prelude.{ℕ, List, [], ◌∷◌, ◌++◌, Option, Some, None, Result, Ok, codes, count_by, is_some, length, map}
use Rattle.std.specs.Fmt.{decimal}
use Rattle.io_ports.specs.Lines.{Line}
use Rattle.variant_rules.specs.Entries.{Named}
use Rattle.suite.specs.declared.fault.SuiteFault.{SuiteFault}
use Rattle.suite.specs.Problems.{least_of}
use Rattle.suite.specs.Suite.{Listed, and_then, suite_of}

-- the problem of the line is won within k moves and no fewer, or it is not won within its number
abbrev pub told_of : ℕ → Option ℕ → List ℕ
told_of line (Some k) = decimal line ++ codes " mate " ++ decimal k ++ codes "\n"
told_of line None = decimal line ++ codes " none\n"

-- a line for each problem, by the numbers of their lines and within how many moves they are won
abbrev pub told_of_all : List ℕ → List (Option ℕ) → List ℕ
told_of_all (line ∷ lines) (k ∷ ks) = told_of line k ++ told_of_all lines ks
told_of_all (line ∷ lines) [] = []
told_of_all [] ks = []

-- how many are won
abbrev pub solved_of : List (Option ℕ) → ℕ
solved_of ks = count_by is_some ks

abbrev pub sum_line : List (Option ℕ) → List ℕ
sum_line ks = codes "solved " ++ decimal (solved_of ks) ++ codes " of " ++ decimal (length ks) ++ codes "\n"

unfoldable pub report : List ℕ → List (Option ℕ) → List ℕ
report lines ks = told_of_all lines ks ++ sum_line ks

-- the report on problems
abbrev pub report_of : Listed → List ℕ
report_of listed = report listed.lines (map least_of listed.problems)

-- the report that lines of a suite ask for, or their first fault
abbrev pub suite_report : List Named → List Line → Result (List ℕ) SuiteFault
suite_report variants lines = and_then (suite_of variants lines) (λ listed. Ok (report_of listed))
