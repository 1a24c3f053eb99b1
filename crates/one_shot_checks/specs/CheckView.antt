-- What the code answers of what the input of `check` and of `stipulate check` states, as the definitions have it.
use Rattle.std.specs.Prelude.{◌≡◌, ℕ, List, Result, Ok, Err, codes, ⊤}
use Rattle.strategy_check.specs.declared.verdict.Verdict.{Verdict}
use Rattle.strategy_check.specs.declared.verdict.Verdict.TheVariants.{Wins}
use Rattle.strategy_check.specs.Verdicts.{verdict_text}
use Rattle.one_shot_checks.specs.declared.fault.Fault.{Fault}
use Rattle.one_shot_checks.specs.declared.no_answer.NoAnswer.{NoAnswer}
use Rattle.one_shot_checks.specs.declared.no_answer.NoAnswer.TheVariants as no_answer
use Rattle.one_shot_checks.specs.declared.stop.Stop.TheVariants as stop
use Rattle.one_shot_checks.specs.Fault.{error_line}

-- the lines state this, or have this fault; where the run was cut short nothing is known of them
abbrev pub States : {A : Type 0} → Result A Fault → Result A NoAnswer → Type 0
States said (Ok stated) = said ≡ Ok stated
States said (Err no_answer.Usage) = ⊥
States said (Err (no_answer.Fault fault)) = said ≡ Err fault
States said (Err (no_answer.Stop stop.Source)) = ⊤
States said (Err (no_answer.Stop stop.Sink)) = ⊥
States said (Err (no_answer.Stop stop.Memory)) = ⊤

-- what is printed of a verdict
pub data Prints : Verdict → ℕ → List ℕ → Type 0 where
  winning : Prints Wins 0 (codes "wins\n")
  losing : (v : Verdict) → (v ≡ Wins → ⊥) → Prints v 3 (error_line (verdict_text v))
