-- What `check` says: whether the strategy of the input wins the game of the input, by its goal. The input is a proof
-- text where line 1 is `strategy 2`, and otherwise a problem and a strategy after it.
use Rattle.std.specs.Prelude.{◌≡◌, ℕ, ◌+◌, ◌-◌, Bool, List, ◌∷◌, drop, Result, Ok, Err, codes, true, false}
use Rattle.io_ports.specs.Lines.{Line, Text}
use Rattle.forced_wins.specs.Strategies.{IsGood}
use Rattle.forced_wins.specs.Wins.{wins}
use Rattle.variant_rules.specs.Entries.{Named}
use Rattle.game_play.specs.Played.{story}
use Rattle.game_text.specs.declared.fault.GameFault.{GameFault}
use Rattle.game_text.specs.declared.goal.Goal.{Goal}
use Rattle.game_text.specs.declared.problem.Problem.{Problem}
use Rattle.game_text.specs.Goal.{goal_said}
use Rattle.game_text.specs.Problem.{lines_of_problem, problem_of}
use Rattle.strategy.specs.declared.fault.StrategyFault.{StrategyFault}
use Rattle.strategy.specs.declared.nodes.Strategy.{Strategy}
use Rattle.strategy.specs.Needed.{lines_of_strategy}
use Rattle.strategy.specs.Reading.{strategy_of}
use Rattle.strategy_check.specs.declared.verdict.Verdict.{Verdict}
use Rattle.strategy_check.specs.declared.verdict.Verdict.TheVariants.{Wins}
use Rattle.strategy_check.specs.Rows.{kept}
use Rattle.strategy_check.specs.Verdicts.{verdict_of, verdict_text}
use Rattle.proof_text.specs.declared.fault.ProofFault.{ProofFault}
use Rattle.proof_text.specs.declared.proof.Proof.{Proof}
use Rattle.proof_text.specs.Reading.{is_proof_text, lines_of_proof, proof_of}
use Rattle.one_shot_checks.specs.declared.fault.Fault.{Fault}
use Rattle.one_shot_checks.specs.declared.fault.Fault.TheVariants as fault
use Rattle.one_shot_checks.specs.Fault.{error_line, fault_text}

-- ---- what the input states: a game, the goal of a side and a strategy

-- the game and the goal of a problem with a strategy
abbrev pub stated : Problem Goal → Strategy → Proof
stated p s = record { game = p.game; attacker = p.goal.attacker; n = p.goal.moves; strategy = s }

abbrev pub with_strategy : Problem Goal → Result Strategy StrategyFault → Result Proof Fault
with_strategy p (Ok s) = Ok (stated p s)
with_strategy p (Err why) = Err (fault.Strategy why)

-- a problem, and the strategy that the lines after its four say
abbrev pub by_problem : Result (Problem Goal) GameFault → List Line → Result Proof Fault
by_problem (Ok p) input = with_strategy p (strategy_of p.game.rules (drop 4 input))
by_problem (Err why) input = Err (fault.Game why)

abbrev pub by_proof : Result Proof ProofFault → Result Proof Fault
by_proof (Ok p) = Ok p
by_proof (Err why) = Err (fault.Proof why)

abbrev pub stated_by : Bool → List Named → List Line → Result Proof Fault
stated_by true variants input = by_proof (proof_of input)
stated_by false variants input = by_problem (problem_of goal_said variants input) input

-- what the input states where there are these variants, or its first fault
abbrev pub stated_in : List Named → List Line → Result Proof Fault
stated_in variants input = stated_by (is_proof_text input) variants input

-- ---- the answer

-- The strategy is good for the game and the goal: no fault of the table of verdicts stands in it. A law says that the
-- side then wins the game within the moves of the goal, whatever the other side does.
abbrev pub Good : Proof → Type 0
Good p = IsGood p.game.rules kept (story p.game) p.attacker p.n p.strategy.attacker p.strategy.nodes

-- the table's verdict on the strategy
abbrev pub verdict_in : Proof → Verdict
verdict_in p = verdict_of p.game p.attacker p.n p.strategy

-- that the strategy is good, or the first fault of the table in it
pub data SaysVerdict (p : Proof) : ℕ → List ℕ → Type 0 where
  good : Good p → SaysVerdict p 0 (codes "wins\n")
  faulty : (v : Verdict) → verdict_in p ≡ v → (v ≡ Wins → ⊥) → SaysVerdict p 3 (error_line (verdict_text v))

-- the fault of the input, or else of its strategy
abbrev pub SaysStated : Result Proof Fault → ℕ → List ℕ → Type 0
SaysStated (Ok p) status text = SaysVerdict p status text
SaysStated (Err why) status text = (status ≡ 3) × (text ≡ error_line (fault_text why))

-- the answer to an input with these lines, where there are these variants
abbrev pub SaysCheck : List Named → List Line → ℕ → List ℕ → Type 0
SaysCheck variants input status text = SaysStated (stated_in variants input) status text

-- the side of the goal wins the game that the input states, within the moves of the goal
pub record IsWon (variants : List Named) (input : List Line) : Type 0 where
  pub proof : Proof
  pub states : stated_in variants input ≡ Ok proof
  pub won : wins proof.game.rules proof.n (story proof.game) proof.attacker ≡ true

-- ---- how many lines tell it: all of them, or those up to the first faulty one

abbrev pub lines_after : Result (Problem Goal) GameFault → List Line → ℕ
lines_after (Ok p) lines = lines_of_strategy p.game.rules lines
lines_after (Err fault) lines = 0

unfoldable pub lines_of_stated : List Named → List Line → ℕ
lines_of_stated variants input =
    lines_of_problem variants input + lines_after (problem_of goal_said variants input) (drop 4 input)

abbrev pub lines_by : Bool → List Named → List Line → ℕ
lines_by true variants input = lines_of_proof input
lines_by false variants input = lines_of_stated variants input

abbrev pub lines_of_check : List Named → List Line → ℕ
lines_of_check variants input = lines_by (is_proof_text input) variants input

-- ---- a problem after line 1, which is this text

-- what it and the strategy after it state
abbrev pub stated_after : List Named → List ℕ → List Line → Result Proof Fault
stated_after variants first lines = stated_by false variants (Text first ∷ lines)

-- how many more lines tell it
abbrev pub lines_stated_after : List Named → List ℕ → List Line → ℕ
lines_stated_after variants first lines = lines_of_stated variants (Text first ∷ lines) - 1
