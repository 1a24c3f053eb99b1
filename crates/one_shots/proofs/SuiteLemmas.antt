-- What `suite` says of its input.
use Rattle.std.proofs.Common.{◌≡◌, ◌⊎◌, ℕ, List, inl, inr, refl, sym, subst, ◌∙◌, Option, Ok, Err}
use Rattle.std.specs.declared.result.Result.{Result}
use Rattle.io_ports.specs.Lines.{Line}
use Rattle.variant_rules.specs.Entries.{Named}
use Rattle.game_text.specs.HeardLines.{HeardLines}
use Rattle.suite.specs.ReadView.{NoSuite}
use Rattle.game_text.specs.declared.unmade.Unmade.TheVariants.{Faulty, Unread, Memory}
use Rattle.suite.specs.declared.fault.SuiteFault.{SuiteFault}
use Rattle.suite.specs.Fault.{fault_text}
use Rattle.game_text.specs.ReadView as read
use Rattle.suite.specs.Report.{suite_report}
use Rattle.suite.specs.Suite.{lines_of_suite}
use Rattle.one_shot_checks.specs.Fault.{error_line}
use Rattle.one_shot_checks.specs.NoAnswerView.{Answers, IsUnheard, suite_no_answer}
use Rattle.one_shots.specs.Suites.{SaysReport, SaysSuite}

-- ---- what was read, where it gives no answer

pub report_answers : (said : Result (List ℕ) SuiteFault) (text : List ℕ) → said ≡ Ok text → SaysReport said 0 text
report_answers said text is = subst (λ (x : Result (List ℕ) SuiteFault). SaysReport x 0 text) (sym is) (refl, refl)

pub no_suite_answers : (said : Result (List ℕ) SuiteFault) (why : NoSuite) → read.Tells {A = List ℕ} said (Err why) → Answers (Err (suite_no_answer why)) (SaysReport said)
no_suite_answers said (Faulty fault) is = subst (λ (x : Result (List ℕ) SuiteFault). SaysReport x 3 (error_line (fault_text fault))) (sym is) (refl, refl)
no_suite_answers said Unread is = tt
no_suite_answers said Memory is = tt

pub no_suite_unheard : (why : NoSuite) → IsUnheard {A = List ℕ} (Err (suite_no_answer why)) → read.IsUnread {A = List ℕ} (Err why)
no_suite_unheard (Faulty fault) unheard = absurd unheard
no_suite_unheard Unread unheard = tt
no_suite_unheard Memory unheard = absurd unheard

-- a suite of the variants of sections
pub suite_heard : (l l' : Option (List ℕ)) (variants variants' : List Named) (r : Result (List ℕ) NoSuite) → variants ≡ variants'
    → HeardLines l l' (lines_of_suite variants) (λ lines. read.Tells (suite_report variants lines) r)
    → HeardLines l l' (lines_of_suite variants') (λ lines. read.Tells (suite_report variants' lines) r)
suite_heard l l' variants variants' r is heard =
    subst (λ (x : List Named). HeardLines l l' (lines_of_suite x) (λ lines. read.Tells (suite_report x lines) r)) is heard

-- ---- exactly one answer

report_some : (said : Result (List ℕ) SuiteFault) → (status : ℕ) × (text : List ℕ) × SaysReport said status text
report_some (Ok report) = (0, report, (refl, refl))
report_some (Err fault) = (3, error_line (fault_text fault), (refl, refl))

report_done : (said : Result (List ℕ) SuiteFault) (status : ℕ) (text : List ℕ) → SaysReport said status text → (status ≡ 0) ⊎ (status ≡ 3)
report_done (Ok report) status text says = inl says.0
report_done (Err fault) status text says = inr says.0

report_once : (said : Result (List ℕ) SuiteFault) (s s' : ℕ) (t t' : List ℕ) → SaysReport said s t → SaysReport said s' t' → (s ≡ s') × (t ≡ t')
report_once (Ok report) s s' t t' a b = (a.0 ∙ sym b.0, a.1 ∙ sym b.1)
report_once (Err fault) s s' t t' a b = (a.0 ∙ sym b.0, a.1 ∙ sym b.1)

module _ (variants : List Named) (input : List Line) where
  pub suite_some : (status : ℕ) × (text : List ℕ) × SaysSuite variants input status text
  suite_some = report_some (suite_report variants input)

  pub suite_done : (status : ℕ) (text : List ℕ) → SaysSuite variants input status text → (status ≡ 0) ⊎ (status ≡ 3)
  suite_done status text says = report_done (suite_report variants input) status text says

  pub suite_once : (s s' : ℕ) (t t' : List ℕ) → SaysSuite variants input s t → SaysSuite variants input s' t' → (s ≡ s') × (t ≡ t')
  suite_once s s' t t' a b = report_once (suite_report variants input) s s' t t' a b
