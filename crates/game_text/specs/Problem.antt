-- What the lines of a problem say: a game, whose moves stand on line 3 alone, and on line 4 the goal. What line 4 may
-- say is given.
use Rattle.std.specs.Prelude.{ℕ, ◌+◌, ◌-◌, List, [], ◌∷◌, length, take, drop, Option, Some, None, Result, Ok, Err}
use Rattle.io_ports.specs.Lines.{Line, Text, TooLong}
use Rattle.variant_rules.specs.Entries.{Named}
use Rattle.game_play.specs.Played.{Played}
use Rattle.game_text.specs.declared.fault.GameFault.{GameFault}
use Rattle.game_text.specs.declared.fault.GameFault.TheVariants.{Missing, BadGoal, LineTooLong}
use Rattle.game_text.specs.declared.problem.Problem.{Problem}
use Rattle.game_text.specs.GameText.{game_of, lines_of_game, unless_faulty}
use Rattle.game_text.specs.Playing.{and_then, play_all, words_of}

-- ---- line 4

abbrev pub or_bad : {A : Type 0} → Option A → Result A GameFault
or_bad None = Err (BadGoal 4)
or_bad (Some goal) = Ok goal

-- the goal that the lines from line 4 on say
unfoldable pub goal_on : {A : Type 0} → (List ℕ → Option A) → List Line → Result A GameFault
goal_on said [] = Err (Missing 4)
goal_on said (TooLong ∷ lines) = Err (LineTooLong 4)
goal_on said (Text text ∷ lines) = or_bad (said text)

-- ---- from line 3 on

-- the game after the moves of line 3 alone
unfoldable pub moves_on : Played → List Line → Result Played GameFault
moves_on g [] = Err (Missing 3)
moves_on g (TooLong ∷ lines) = Err (LineTooLong 3)
moves_on g (Text text ∷ lines) = play_all g (words_of text)

abbrev pub with_goal : {A : Type 0} → Played → Result A GameFault → Result (Problem A) GameFault
with_goal g (Ok goal) = Ok (record { game = g; goal = goal })
with_goal g (Err fault) = Err fault

-- the game goes on with the moves of line 3, and has the goal of line 4
unfoldable pub problem_on : {A : Type 0} → (List ℕ → Option A) → Played → List Line → Result (Problem A) GameFault
problem_on said g lines = and_then (moves_on g lines) (λ h. with_goal h (goal_on said (drop 1 lines)))

-- ---- from line 1 on

-- the problem of one of these variants that lines say, or their first fault: lines 1 and 2 are those of any game text
unfoldable pub problem_of : {A : Type 0} → (List ℕ → Option A) → List Named → List Line → Result (Problem A) GameFault
problem_of said variants lines = and_then (game_of variants (take 2 lines)) (λ g. problem_on said g (drop 2 lines))

-- ---- how many lines tell it: the first four, or those up to the first faulty one

-- of the lines from line 3 on
unfoldable pub lines_on_problem : Played → List Line → ℕ
lines_on_problem g lines =
    length (take 1 lines) + unless_faulty (moves_on g lines) (λ h. length (take 1 (drop 1 lines)))

unfoldable pub lines_of_problem : List Named → List Line → ℕ
lines_of_problem variants lines =
    lines_of_game variants (take 2 lines) + unless_faulty (game_of variants (take 2 lines))
    (λ g. lines_on_problem g (drop 2 lines))

-- ---- after line 1, which is this text

-- the problem, or its first fault
abbrev pub problem_after : {A : Type 0} → (List ℕ → Option A) → List Named → List ℕ → List Line
    → Result (Problem A) GameFault
problem_after said variants first lines = problem_of said variants (Text first ∷ lines)

-- how many more lines tell it
abbrev pub lines_of_problem_after : List Named → List ℕ → List Line → ℕ
lines_of_problem_after variants first lines = lines_of_problem variants (Text first ∷ lines) - 1
