-- Reports, line by line.
use Rattle.std.proofs.Common.{◌≡◌, ◌<◌, ℕ, zero, suc, ◌+◌, add-one, arith, List, [], ◌∷◌, ◌++◌, length, take, map, get_or, Option, Result, Ok, Err, IfOk, is_some, count_by, refl, sym, ap, subst, ◌∙◌, append_assoc}
use Rattle.std.proofs.lemmas.List.{append-nil}
use Rattle.foundation.specs.Tests.{one_if}
use Rattle.foundation.proofs.SetLemmas.{count_by-cons}
use Rattle.game_text.specs.HeardLines.{HeardLines}
use Rattle.game_text.proofs.HeardLemmas.{heard_so, same_needed}
use Rattle.variant_rules.specs.Entries.{Named}
use Rattle.game_text.specs.declared.unmade.Unmade.TheVariants.{Faulty, Unread, Memory}
use Rattle.suite.specs.declared.fault.SuiteFault.{SuiteFault}
use Rattle.suite.specs.declared.problem.Answer.{Answer}
use Rattle.suite.specs.declared.problem.Problem.{Problem}
use Rattle.suite.specs.Answers.{AreAnswers}
use Rattle.suite.specs.Leasts.{leasts}
use Rattle.suite.specs.Problems.{least_of}
use Rattle.game_text.specs.ReadView.{Tells}
use Rattle.suite.specs.ReadView.{NoSuite}
use Rattle.suite.specs.Report.{report, report_of, solved_of, suite_report, told_of, told_of_all}
use Rattle.suite.specs.Suite.{Listed, and_then, lines_of_suite, suite_of}
use Rattle.suite.proofs.SlotLaws.{answers-length, leasts-are}

told-suc : (i : ℕ) (lines : List ℕ) (answers : List Answer) (a : Answer) → i < length lines → i < length answers → a ≡ get_or answers i a
    → told_of_all (take (suc i) lines) (take (suc i) (leasts answers)) ≡ told_of_all (take i lines) (take i (leasts answers)) ++ told_of (get_or lines i 0) a.least
told-suc i [] answers a low high is = absurd (omega (arith, low))
told-suc i (l ∷ ls) [] a low high is = absurd (omega (arith, high))
told-suc zero (l ∷ ls) (b ∷ bs) a low high is = append-nil (told_of l b.least) ∙ ap (λ (x : Answer). told_of l x.least) (sym is)
told-suc (suc i) (l ∷ ls) (b ∷ bs) a low high is =
    ap (λ rest. told_of l b.least ++ rest) (told-suc i ls bs a (omega (arith, low)) (omega (arith, high)) is)
    ∙ sym (append_assoc (told_of l b.least) (told_of_all (take i ls) (take i (leasts bs))) (told_of (get_or ls i 0) a.least))

-- one line more
pub told-next : (i : ℕ) (lines : List ℕ) (answers : List Answer) (a : Answer) → i < length lines → i < length answers → a ≡ get_or answers i a
    → told_of_all (take (i + 1) lines) (take (i + 1) (leasts answers)) ≡ told_of_all (take i lines) (take i (leasts answers)) ++ told_of (get_or lines i 0) a.least
told-next i lines answers a low high is = rw add-one (told-suc i lines answers a low high is)

-- how many are won, answer by answer
pub solved-won : (answers : List Answer) → solved_of (leasts answers) ≡ count_by (λ (a : Answer). is_some a.least) answers
solved-won [] = refl
solved-won (x ∷ xs) =
    count_by-cons is_some x.least (leasts xs) ∙ ap (λ n. one_if (is_some x.least) + n) (solved-won xs)
    ∙ sym (count_by-cons (λ (a : Answer). is_some a.least) x xs)

-- ---- the report on what is listed

module _ (s : Listed) (lines : List ℕ) (ps : List Problem) (given answers : List Answer) where
  pub report-length : length s.lines ≡ length s.problems → lines ≡ s.lines → ps ≡ s.problems → given ≡ answers → AreAnswers ps answers → length given ≡ length lines
  report-length numbered lines_are ps_are given_are so =
      ap length given_are ∙ answers-length ps answers so ∙ ap length ps_are ∙ sym numbered ∙ ap length (sym lines_are)

  pub report-is : lines ≡ s.lines → ps ≡ s.problems → given ≡ answers → AreAnswers ps answers → report lines (leasts given) ≡ report_of s
  report-is lines_are ps_are given_are so =
      ap (λ ls. report ls (leasts given)) lines_are ∙ ap (λ (xs : List Answer). report s.lines (leasts xs)) given_are
      ∙ ap (report s.lines) (leasts-are ps answers so) ∙ ap (λ (qs : List Problem). report s.lines (map least_of qs)) ps_are

pub told-same : {E : Type 0} (r : Result (List ℕ) E) (text said : List ℕ) → text ≡ said → IfOk r (λ t. t ≡ text) → IfOk r (λ t. t ≡ said)
told-same r text said is told = subst (λ (x : List ℕ). IfOk r (λ t. t ≡ x)) is told

-- a suite that was not read has no report
tells-fault : (said : Result Listed SuiteFault) (why : NoSuite) → Tells {A = Listed} said (Err why) → Tells {A = List ℕ} (and_then said (λ listed. Ok (report_of listed))) (Err why)
tells-fault said (Faulty fault) tells = ap (λ (r : Result Listed SuiteFault). and_then r (λ listed. Ok (report_of listed))) tells
tells-fault said Unread tells = tt
tells-fault said Memory tells = tt

pub report-failed : (v : List Named) (a b : Option (List ℕ)) (why : NoSuite) → HeardLines a b (lines_of_suite v) (λ lines. Tells {A = Listed} (suite_of v lines) (Err why))
    → HeardLines a b (lines_of_suite v) (λ lines. Tells {A = List ℕ} (suite_report v lines) (Err why))
report-failed v a b why heard = heard_so _ _ _ _ _ _ heard (same_needed (lines_of_suite v)) (λ lines tells. tells-fault (suite_of v lines) why tells)
