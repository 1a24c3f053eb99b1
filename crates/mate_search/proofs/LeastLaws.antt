-- The first number that passes a test, and the least number of moves within which a game is won.
use Rattle.std.proofs.Common.{◌≡◌, ◌≤◌, ℕ, zero, suc, ◌+◌, ◌-◌, arith, Bool, true, false, Option, Some, None, refl, ap, subst, ◌∙◌, inl, inr, if◌then◌else◌}
use Rattle.std.proofs.Math.Nat.{eq-or-lt_of_le}
use Rattle.rules_model.specs.declared.rules.Rules.{Rules}
use Rattle.rules_model.specs.Games.{Story}
use Rattle.forced_wins.specs.Wins.{IsInLimit, wins}
use Rattle.mate_search.specs.Least.{IsFirstWithin, first_within, if_passes, least, mover_wins, or_later}

module _ (test : ℕ → Bool) where
  -- ---- one number more

  pub first-kept : (n k : ℕ) → first_within test n ≡ Some k → first_within test (suc n) ≡ Some k
  first-kept n k is = ap (λ o. or_later o (if_passes test (suc n))) is

  pub first-now : (n : ℕ) → first_within test n ≡ None → test (suc n) ≡ true → first_within test (suc n) ≡ Some (suc n)
  first-now n none passes = ap (λ o. or_later o (if_passes test (suc n))) none ∙ ap (λ b. if b then Some (suc n) else None) passes

  pub first-not : (n : ℕ) → first_within test n ≡ None → test (suc n) ≡ false → first_within test (suc n) ≡ None
  first-not n none fails = ap (λ o. or_later o (if_passes test (suc n))) none ∙ ap (λ b. if b then Some (suc n) else None) fails

  -- ---- what it means

  step : (n : ℕ) (o : Option ℕ) (b : Bool) → IsFirstWithin test n o → test (suc n) ≡ b → IsFirstWithin test (suc n) (or_later o (if b then Some (suc n) else None))
  step n (Some k) b is e = let within = is.within in record { some = is.some; within = omega (arith, within); passes = is.passes; first = is.first }
  step n None true is e = record { some = omega arith; within = omega arith; passes = e; first = λ j low below. is j low (omega (arith, below)) }
  step n None false is e = λ j low high. elim (eq-or-lt_of_le high) [
    | inl same ↦ ap test same ∙ e
    | inr below ↦ is j low (omega (arith, below))
  ]

  pub first-is : (n : ℕ) → IsFirstWithin test n (first_within test n)
  first-is zero = λ j low high. absurd (omega (arith, low, high))
  first-is (suc n) = step n (first_within test n) (test (suc n)) (first-is n) refl

  -- ---- as it is looked for

  pub first-stays : (n k : ℕ) → k ≤ n → first_within test k ≡ Some k → first_within test n ≡ Some k
  first-stays zero k le is = let none : k ≡ zero = omega (arith, le) in subst (λ m. first_within test m ≡ Some k) none is
  first-stays (suc n) k le is = elim (eq-or-lt_of_le le) [
    | inl same ↦ subst (λ m. first_within test m ≡ Some k) same is
    | inr below ↦ first-kept n k (first-stays n k (omega (arith, below)) is)
  ]

  -- none before k, and k passes
  pub first-found : (n k : ℕ) → 1 ≤ k → k ≤ n → first_within test (k - 1) ≡ None → test k ≡ true → first_within test n ≡ Some k
  first-found n zero some le none passes = absurd (omega (arith, some))
  first-found n (suc k) some le none passes =
      let back : suc k - 1 ≡ k = omega arith in
      first-stays n (suc k) le (first-now k (subst (λ m. first_within test m ≡ None) back none) passes)

  pub first-passed : (k : ℕ) → 1 ≤ k → first_within test (k - 1) ≡ None → test k ≡ false → first_within test ((k + 1) - 1) ≡ None
  first-passed zero some none fails = absurd (omega (arith, some))
  first-passed (suc k) some none fails =
      let back : suc k - 1 ≡ k = omega arith in
      let on : suc k ≡ (suc k + 1) - 1 = omega arith in
      subst (λ m. first_within test m ≡ None) on (first-not k (subst (λ m. first_within test m ≡ None) back none) fails)

-- ---- the least number of moves of a game

-- a smaller number is within the limit too
pub limit-within : (rules : Rules) (g : Story) (k n : ℕ) → k ≤ n → IsInLimit rules n g → IsInLimit rules k g
limit-within rules g k n le (inl off) = inl off
limit-within rules g k n le (inr low) = inr (omega (arith, le, low))

module _ (rules : Rules) (g : Story) where
  -- it is not won within fewer than k moves
  pub record NoneBefore (k : ℕ) : Type 0 where
    pub none : first_within (mover_wins rules g) (k - 1) ≡ None

  pub none-first : NoneBefore 1
  none-first = record { none = refl }

  pub none-more : (k : ℕ) → 1 ≤ k → NoneBefore k → wins rules k g g.last.side ≡ false → NoneBefore (k + 1)
  none-more k some before lost = record { none = first-passed (mover_wins rules g) k some before.none lost }

  pub least-found : (n k : ℕ) → 1 ≤ k → k ≤ n → NoneBefore k → wins rules k g g.last.side ≡ true → least rules n g ≡ Some k
  unfolding least
  least-found n k some le before won = first-found (mover_wins rules g) n k some le before.none won

  pub least-none : (n : ℕ) → NoneBefore (n + 1) → least rules n g ≡ None
  unfolding least
  least-none n before =
      let back : (n + 1) - 1 ≡ n = omega arith in
      subst (λ m. first_within (mover_wins rules g) m ≡ None) back before.none
