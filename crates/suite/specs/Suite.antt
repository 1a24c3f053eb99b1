-- What the lines of a suite say. Each has a problem: the name of a variant, the most moves that are asked for, and a
-- position. Empty lines and those that begin with `#` are skipped.
use Rattle.std.specs.Prelude.{◌≡◌, ◌≤◌, ℕ, ◌+◌, nat_lt, Bool, true, false, not, ◌==◌, List, [], ◌∷◌, ◌++◌, Option, Some, None, Result, Ok, Err, length, if◌then◌else◌}
use Rattle.std.specs.List.{All}
use Rattle.io_ports.specs.Lines.{Line, Text, TooLong}
use Rattle.foundation.specs.Cuts.{cut}
use Rattle.foundation.specs.Numbers.{number_within}
use Rattle.foundation.specs.Tests.{is_nil}
use Rattle.rules_model.specs.declared.board.Position.{Position}
use Rattle.rules_model.specs.declared.rules.Rules.{Rules}
use Rattle.fen_model.specs.declared.fault.FenFault.{FenFault}
use Rattle.variant_model.specs.declared.fault.SectionFault.{SectionFault}
use Rattle.variant_rules.specs.Entries.{Named, found}
use Rattle.game_text.specs.GameText.{position_of}
use Rattle.mate_search.specs.Least.{is_counted}
use Rattle.suite.specs.declared.fault.SuiteFault.{SuiteFault}
use Rattle.suite.specs.declared.fault.SuiteFault.TheVariants.{BadLine, UnknownVariant, RefusedVariant, BadPosition, NearCount, TooMany, LineTooLong}
use Rattle.suite.specs.declared.problem.Problem.{Problem}
use Rattle.suite.specs.Problems.{IsFair}

-- ---- the form of a line

-- the bytes of `#` and of a space
abbrev pub hash : ℕ
hash = 35

abbrev pub space : ℕ
space = 32

-- it is skipped
abbrev pub is_skipped : List ℕ → Bool
is_skipped [] = true
is_skipped (first ∷ text) = first == hash

-- what stands on the line of a problem
pub record Asked : Type 0 where
  pub name : List ℕ
  pub moves : ℕ
  pub position : List ℕ

abbrev pub row_within : List ℕ → List ℕ → Option ℕ → Option Asked
row_within name position None = None
row_within name position (Some moves) = Some (record { name = name; moves = moves; position = position })

-- the position is there, and there is one space before it
abbrev pub is_apart : List ℕ → Bool
is_apart [] = false
is_apart (first ∷ text) = not (first == space)

-- the position stands after the number
abbrev pub row_after : List ℕ → List ℕ × Option (List ℕ) → Option Asked
row_after name (number, None) = None
row_after name (number, Some position) =
    if is_apart position then row_within name position (number_within 1 20 number) else None

-- and the number after the name, which is not empty
abbrev pub row_from : List ℕ × Option (List ℕ) → Option Asked
row_from (name, None) = None
row_from (name, Some rest) = if is_nil name then None else row_after name (cut space rest)

-- a name, a number from 1 to 20 and a position, separated by single spaces
unfoldable pub row_of : List ℕ → Option Asked
row_of text = row_from (cut space text)

-- ---- the problem of a line

abbrev pub problem_from : ℕ → Rules → ℕ → Result Position FenFault → Result Problem SuiteFault
problem_from line rules n (Err why) = Err (BadPosition line why)
problem_from line rules n (Ok p) =
    if is_counted rules n p then Err (NearCount line) else Ok (record { rules = rules; position = p; n = n })

abbrev pub problem_by : ℕ → Asked → Option (Result Rules SectionFault) → Result Problem SuiteFault
problem_by line row None = Err (UnknownVariant line)
problem_by line row (Some (Err why)) = Err (RefusedVariant line why)
problem_by line row (Some (Ok rules)) = problem_from line rules row.moves (position_of rules row.position)

abbrev pub problem_in : List Named → ℕ → Option Asked → Result Problem SuiteFault
problem_in variants line None = Err (BadLine line)
problem_in variants line (Some row) = problem_by line row (found variants row.name)

-- the problem that the text of a line says, or the line's first fault
unfoldable pub problem_of : List Named → ℕ → List ℕ → Result Problem SuiteFault
problem_of variants line text = problem_in variants line (row_of text)

-- ---- the suite

-- problems, and the numbers of their lines
pub record Listed : Type 0 where
  pub lines : List ℕ
  pub problems : List Problem

abbrev pub nothing_listed : Listed
nothing_listed = record { lines = []; problems = [] }

-- the most problems of a suite
abbrev pub most_problems : ℕ
most_problems = 1000

-- a problem more, where there is room for it
abbrev pub with_problem : Listed → ℕ → Result Problem SuiteFault → Result Listed SuiteFault
with_problem listed line (Err fault) = Err fault
with_problem listed line (Ok p) =
    if nat_lt (length listed.problems) most_problems
    then Ok (record { lines = listed.lines ++ line ∷ []; problems = listed.problems ++ p ∷ [] })
    else Err (TooMany line)

-- what was listed, and what the text of a line adds
unfoldable pub with_line : List Named → Listed → ℕ → List ℕ → Result Listed SuiteFault
with_line variants listed line text =
    if is_skipped text then Ok listed else with_problem listed line (problem_of variants line text)

abbrev pub and_then : {A B : Type 0} → Result A SuiteFault → (A → Result B SuiteFault) → Result B SuiteFault
and_then (Ok x) next = next x
and_then (Err fault) next = Err fault

-- what was listed, and what the lines from this number on add, up to the first faulty one
unfoldable pub suite_on : List Named → ℕ → Listed → List Line → Result Listed SuiteFault
suite_on variants number listed [] = Ok listed
suite_on variants number listed (TooLong ∷ lines) = Err (LineTooLong number)
suite_on variants number listed (Text text ∷ lines) =
    and_then (with_line variants listed number text) (λ more. suite_on variants (number + 1) more lines)

-- what holds of all that is listed: each problem may be asked, and there are not too many
pub record IsListed (listed : Listed) : Type 0 where
  pub fair : All IsFair listed.problems
  pub few : length listed.problems ≤ most_problems
  pub numbered : length listed.lines ≡ length listed.problems

-- the problems of the variants that the lines say, or their first fault
abbrev pub suite_of : List Named → List Line → Result Listed SuiteFault
suite_of variants lines = suite_on variants 1 nothing_listed lines

-- ---- how many lines tell it: all of them, or those up to the first faulty one

abbrev pub unless_faulty : Result Listed SuiteFault → (Listed → ℕ) → ℕ
unless_faulty (Ok listed) more = more listed
unless_faulty (Err fault) more = 0

unfoldable pub lines_on : List Named → ℕ → Listed → List Line → ℕ
lines_on variants number listed [] = 0
lines_on variants number listed (TooLong ∷ lines) = 1
lines_on variants number listed (Text text ∷ lines) =
    1 + unless_faulty (with_line variants listed number text) (λ more. lines_on variants (number + 1) more lines)

abbrev pub lines_of_suite : List Named → List Line → ℕ
lines_of_suite variants lines = lines_on variants 1 nothing_listed lines
