-- What the code answers of an outcome, and what it writes of an answer.
use Rattle.std.specs.Prelude.{◌≡◌, ◌⊎◌, ℕ, List, [], Option, Result, Ok, Err}
use Rattle.std.specs.Io.KnownBytes.{Appends}
use Rattle.io_ports.specs.Cause.{Rose}
use Rattle.io_ports.specs.Sink.{AppendsFront}
use Rattle.one_shot_checks.specs.declared.no_answer.NoAnswer.{NoAnswer}
use Rattle.one_shot_checks.specs.declared.no_answer.NoAnswer.TheVariants as no_answer
use Rattle.one_shot_checks.specs.declared.stop.Stop.{Stop}
use Rattle.one_shot_checks.specs.declared.stop.Stop.TheVariants as stop
use Rattle.one_shot_checks.specs.Fault.{error_line, fault_status, fault_text, usage_line}
use Rattle.one_shots.specs.declared.answers.Answer.{Answer}

-- the answer has the status and the text of the outcome. A run that was cut short stays so, and any other may be out
-- of memory
abbrev pub OutcomeOf : Result (List ℕ) NoAnswer → Result Answer Stop → Type 0
OutcomeOf (Ok said) (Ok answer) = (answer.status ≡ 0) × (answer.text ≡ said)
OutcomeOf (Err no_answer.Usage) (Ok answer) = (answer.status ≡ 2) × (answer.text ≡ usage_line)
OutcomeOf (Err (no_answer.Fault fault)) (Ok answer) =
    (answer.status ≡ fault_status fault) × (answer.text ≡ error_line (fault_text fault))
OutcomeOf (Err (no_answer.Stop why)) (Ok answer) = ⊥
OutcomeOf (Err (no_answer.Stop why)) (Err why') = why' ≡ why
OutcomeOf (Ok said) (Err why') = why' ≡ stop.Memory
OutcomeOf (Err no_answer.Usage) (Err why') = why' ≡ stop.Memory
OutcomeOf (Err (no_answer.Fault fault)) (Err why') = why' ≡ stop.Memory

-- The text of an answer is written, or a front part of it where the sink fails. A run that was cut short writes
-- nothing. `old` and `new` are what the sink had taken before and has now, and `before` and `now` its counts of faults.
abbrev pub Finishes : Result Answer Stop → Option (List ℕ) → Option (List ℕ) → ℕ → ℕ → ℕ → Type 0
Finishes (Ok answer) old new before now status =
    ((status ≡ answer.status) × Appends old new answer.text)
    ⊎ ((status ≡ 5) × AppendsFront old new answer.text × Rose before now)
Finishes (Err stop.Source) old new before now status = (status ≡ 4) × Appends old new []
Finishes (Err stop.Sink) old new before now status = (status ≡ 5) × Appends old new []
Finishes (Err stop.Memory) old new before now status = (status ≡ 7) × Appends old new []
