-- Answers in their places.
use Rattle.std.proofs.Common.{◌≡◌, ◌⊎◌, ◌<◌, ℕ, zero, suc, ◌+◌, add-one, arith, List, [], ◌∷◌, ◌++◌, length, take, map, get_or, Option, Some, None, refl, ap, subst, sym, ◌∙◌, inl, inr, slice_get, slice_set}
use Rattle.std.specs.List.{All}
use Rattle.std.proofs.lemmas.List.Elements.{All-nil, All-same, All-weaker}
use Rattle.std.proofs.lemmas.Option.{get_or_from_slice_get, slice_get-get_or, slice_get_within}
use Rattle.suite.specs.declared.problem.Answer.{Answer}
use Rattle.suite.specs.declared.problem.Problem.{Problem}
use Rattle.suite.specs.declared.work.Job.{Job}
use Rattle.suite.specs.Answers.{AreAnswers, IsAnswer}
use Rattle.suite.specs.Leasts.{leasts}
use Rattle.suite.specs.Problems.{least_of}
use Rattle.suite.specs.Workers.{AreSlots, HasFound, HasNone, HaveFound, IsAnswerAt, IsFound}

-- ---- places

-- a place that is set has what it was set to, and the others stay
slot-set : (slots : List (Option Answer)) (at i : ℕ) (o : Option Answer) (b : Answer) → slice_get (slice_set slots at o) i ≡ Some (Some b)
    → ((i ≡ at) × (o ≡ Some b)) ⊎ (slice_get slots i ≡ Some (Some b))
slot-set [] at i o b is = inr is
slot-set (x ∷ xs) zero zero o b is = inl (refl, cc)
slot-set (x ∷ xs) zero (suc i) o b is = inr is
slot-set (x ∷ xs) (suc at) zero o b is = inr is
slot-set (x ∷ xs) (suc at) (suc i) o b is = elim (slot-set xs at i o b is) [
  | inl (same, gives) ↦ inl (ap suc same, gives)
  | inr old ↦ inr old
]

set-length : (slots : List (Option Answer)) (at : ℕ) (o : Option Answer) → length (slice_set slots at o) ≡ length slots
set-length [] at o = refl
set-length (x ∷ xs) zero o = refl
set-length (x ∷ xs) (suc at) o = ap suc (set-length xs at o)

-- no place has an answer yet
pub slots-empty : (ps : List Problem) (slots : List (Option Answer)) → length slots ≡ length ps → All (λ (o : Option Answer). o ≡ None) slots → AreSlots ps slots
slots-empty ps slots count none = record {
  count = count;
  each = λ at a is.
      let there : get_or slots at None ≡ Some a = get_or_from_slice_get slots at (Some a) None is in
      let nothing : get_or slots at None ≡ None = none at None (slice_get_within slots at (Some a) is) in
      let clash : ⊥ = cc in
      absurd clash;
}

pub slots-put : (ps : List Problem) (slots : List (Option Answer)) (at : ℕ) (a : Answer) → AreSlots ps slots → IsAnswerAt ps at a → AreSlots ps (slice_set slots at (Some a))
slots-put ps slots at a s right = record {
  count = set-length slots at (Some a) ∙ s.count;
  each = λ i b is. elim (slot-set slots at i (Some a) b is) [
    | inl (same, gives) ↦
        let one : a ≡ b = cc in
        let placed : IsAnswerAt ps i a = subst (λ (j : ℕ). IsAnswerAt ps j a) (sym same) right in
        subst (λ (x : Answer). IsAnswerAt ps i x) one placed
    | inr old ↦ s.each i b old
  ];
}

-- the answer at the place is taken away
pub slots-taken : (ps : List Problem) (slots : List (Option Answer)) (at : ℕ) → AreSlots ps slots → AreSlots ps (slice_set slots at None)
slots-taken ps slots at s = record {
  count = set-length slots at None ∙ s.count;
  each = λ i b is. elim (slot-set slots at i None b is) [
    | inl (same, gives) ↦ let clash : ⊥ = cc in absurd clash
    | inr old ↦ s.each i b old
  ];
}

-- the answer that is read at a place
pub slot-there : (slots : List (Option Answer)) (at : ℕ) (o : Option Answer) (a : Answer) → at < length slots → o ≡ get_or slots at o → o ≡ Some a
    → slice_get slots at ≡ Some (Some a)
slot-there slots at o a low is gives = slice_get-get_or slots at o low ∙ ap Some (sym is ∙ gives)

-- the answer to the problem that stands at the place
pub answer-at : (ps : List Problem) (at : ℕ) (q : Problem) (a : Answer) → q ≡ get_or ps at q → IsAnswer q a → IsAnswerAt ps at a
answer-at ps at q a is right = λ p there. let same : q ≡ p = is ∙ get_or_from_slice_get ps at p q there in subst (λ (x : Problem). IsAnswer x a) same right

-- nothing that was found is wrong
pub none-found : (ps : List Problem) (job : Job) → HasNone job → HasFound ps job
none-found ps job none = record { found = All-same (IsFound ps) job.found.items [] none (All-nil (IsFound ps)) }

pub none-found-all : (ps : List Problem) (jobs : List Job) → All HasNone jobs → HaveFound ps jobs
none-found-all ps jobs none = record { each = All-weaker HasNone (HasFound ps) (none-found ps) jobs none }

-- ---- answers in their order

more-suc : (ps : List Problem) (answers : List Answer) (at : ℕ) (a : Answer) → at < length ps → AreAnswers (take at ps) answers → IsAnswerAt ps at a
    → AreAnswers (take (suc at) ps) (answers ++ a ∷ [])
more-suc [] answers at a low so right = absurd (omega (arith, low))
more-suc (p ∷ ps) [] zero a low so right = (right p refl, tt)
more-suc (p ∷ ps) (b ∷ answers) zero a low so right = absurd so
more-suc (p ∷ ps) [] (suc at) a low so right = absurd so
more-suc (p ∷ ps) (b ∷ answers) (suc at) a low so right = (so.0, more-suc ps answers at a (omega (arith, low)) so.1 right)

-- one answer more
pub answers-more : (ps : List Problem) (answers : List Answer) (at : ℕ) (a : Answer) → at < length ps → AreAnswers (take at ps) answers → IsAnswerAt ps at a
    → AreAnswers (take (at + 1) ps) (answers ++ a ∷ [])
answers-more ps answers at a low so right = rw add-one (more-suc ps answers at a low so right)

-- what they say of the problems
pub leasts-are : (ps : List Problem) (answers : List Answer) → AreAnswers ps answers → leasts answers ≡ map least_of ps
leasts-are [] [] so = refl
leasts-are [] (a ∷ answers) so = absurd so
leasts-are (p ∷ ps) [] so = absurd so
leasts-are (p ∷ ps) (a ∷ answers) so =
    ap (λ k. k ∷ leasts answers) so.0.least ∙ ap (λ ks. least_of p ∷ ks) (leasts-are ps answers so.1)

pub answers-length : (ps : List Problem) (answers : List Answer) → AreAnswers ps answers → length answers ≡ length ps
answers-length [] [] so = refl
answers-length [] (a ∷ answers) so = absurd so
answers-length (p ∷ ps) [] so = absurd so
answers-length (p ∷ ps) (a ∷ answers) so = ap suc (answers-length ps answers so.1)
