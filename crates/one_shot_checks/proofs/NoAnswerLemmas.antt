-- What follows of the outcome of a command.
use Rattle.std.proofs.Common.{◌≡◌, ℕ, List, sym, subst, Ok, Err}
use Rattle.std.specs.declared.result.Result.{Result}
use Rattle.one_shot_checks.specs.declared.no_answer.NoAnswer.{NoAnswer}
use Rattle.one_shot_checks.specs.declared.no_answer.NoAnswer.TheVariants.{Usage, Fault, Stop}
use Rattle.one_shot_checks.specs.declared.stop.Stop.TheVariants as stop
use Rattle.one_shot_checks.specs.Fault.{fault_status}
use Rattle.one_shot_checks.specs.NoAnswerView.{Answers}

-- the same status and the same text
pub says_at : (Says : ℕ → List ℕ → Type 0) (status status' : ℕ) (text text' : List ℕ) → status' ≡ status → text' ≡ text → Says status text → Says status' text'
says_at Says status status' text text' p q says = subst (λ (x : ℕ). Says x text') (sym p) (subst (λ (x : List ℕ). Says status x) (sym q) says)

-- what follows of a status and a text follows of an outcome
pub answers_so : (o : Result (List ℕ) NoAnswer) (P Q : ℕ → List ℕ → Type 0) → ((status : ℕ) (text : List ℕ) → P status text → Q status text) → Answers o P → Answers o Q
answers_so (Ok said) P Q so answers = so 0 said answers
answers_so (Err Usage) P Q so answers = so 2 _ answers
answers_so (Err (Fault why)) P Q so answers = so (fault_status why) _ answers
answers_so (Err (Stop stop.Source)) P Q so answers = tt
answers_so (Err (Stop stop.Sink)) P Q so answers = answers
answers_so (Err (Stop stop.Memory)) P Q so answers = tt
