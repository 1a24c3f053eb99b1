-- How the parts of the moves grow.
use Rattle.std.proofs.Common.{◌≡◌, ℕ, ◌+◌, ◌<◌, ◌≤◌, ◌⊎◌, inl, inr, List, arith, subst}
use Rattle.std.proofs.Math.Nat.{eq-or-lt_of_le}
use Rattle.rules_model.specs.declared.moves.Move.{Move}
use Rattle.piece_moves.specs.Taking.{IsSink, TakesAll, TakesSome}
use Rattle.piece_moves.proofs.TakingLemmas.{all-none, all-join, some-behind, all-same, some-within}
use Rattle.special_moves.specs.Parts.{IsBelow, IsEither}

-- two parts have a move in common only where they are one
abbrev pub AreApart : (ℕ → Move → Type 0) → Type 0
AreApart Part = (i j : ℕ) (m : Move) → Part i m → Part j m → i ≡ j

cases : (k n : ℕ) → k < n + 1 → (k < n) ⊎ (k ≡ n)
cases k n l = elim (eq-or-lt_of_le (let h : k ≤ n = omega arith in h)) as (λ _. (k < n) ⊎ (k ≡ n)) [ inl e ↦ inr e | inr s ↦ inl s ]

module _ (Part : ℕ → Move → Type 0) where
  grows : (n k : ℕ) → n ≤ k → (m : Move) → IsBelow Part n m → IsBelow Part k m
  grows n k l m h = record { number = h.number; below = omega (arith, l, h.below); is = h.is }

  gains : (n k : ℕ) → n < k → (m : Move) → Part n m → IsBelow Part k m
  gains n k l m h = record { number = n; below = l; is = h }

  split : (n : ℕ) (m : Move) → IsBelow Part (n + 1) m → IsBelow Part n m ⊎ Part n m
  split n m h =
      elim (cases h.number n h.below) as (λ _. IsBelow Part n m ⊎ Part n m) [
        | inl l ↦ inl (record { number = h.number; below = l; is = h.is })
        | inr e ↦ inr (subst (λ k. Part k m) e h.is)
      ]

  apart : AreApart Part → (n : ℕ) (m : Move) → IsBelow Part n m → Part n m → ⊥
  apart only n m h k = let e : h.number ≡ n = only h.number n m h.is k in omega (arith, e, h.below)

module _ {S : Type 0} {takes stops : S → List Move → S → Type 0} (sink : IsSink takes stops) where
  -- ---- the parts below a number

  pub below-none : (Part : ℕ → Move → Type 0) (s : S) → TakesAll takes (IsBelow Part 0) s s
  below-none Part s = all-none sink (IsBelow Part 0) s (λ m h. omega (arith, h.below))

  pub below-more : (Part : ℕ → Move → Type 0) → AreApart Part → (n : ℕ) (s t u : S) → TakesAll takes (IsBelow Part n) s t → TakesAll takes (Part n) t u → TakesAll takes (IsBelow Part (n + 1)) s u
  below-more Part only n s t u a b =
      all-join sink (IsBelow Part n) (Part n) (IsBelow Part (n + 1)) s t u a b (apart Part only n) (split Part n)
      (λ m h. elim h as (λ _. IsBelow Part (n + 1) m) [ inl k ↦ grows Part n (n + 1) (omega arith) m k | inr k ↦ gains Part n (n + 1) (omega arith) m k ])

  pub below-some : (Part : ℕ → Move → Type 0) → AreApart Part → (n end : ℕ) (s t u : S) → n < end → TakesAll takes (IsBelow Part n) s t → TakesSome stops (Part n) t u → TakesSome stops (IsBelow Part end) s u
  below-some Part only n end s t u l a b =
      some-behind sink (IsBelow Part n) (Part n) (IsBelow Part end) s t u a b (apart Part only n) (grows Part n end (omega (arith, l))) (gains Part n end l)

  -- ---- two parts

  pub either-all : (P Q : Move → Type 0) (s t u : S) → ((m : Move) → P m → Q m → ⊥) → TakesAll takes P s t → TakesAll takes Q t u → TakesAll takes (IsEither P Q) s u
  either-all P Q s t u none a b = all-join sink P Q (IsEither P Q) s t u a b none (λ m h. h) (λ m h. h)

  pub either-some : (P Q : Move → Type 0) (s t u : S) → ((m : Move) → P m → Q m → ⊥) → TakesAll takes P s t → TakesSome stops Q t u → TakesSome stops (IsEither P Q) s u
  either-some P Q s t u none a b = some-behind sink P Q (IsEither P Q) s t u a b none (λ m h. inl h) (λ m h. inr h)

module _ {S : Type 0} (takes : S → List Move → S → Type 0) where
  -- the next part has no move
  pub below-skip : (Part : ℕ → Move → Type 0) (n : ℕ) (s t : S) → TakesAll takes (IsBelow Part n) s t → ((m : Move) → Part n m → ⊥) → TakesAll takes (IsBelow Part (n + 1)) s t
  below-skip Part n s t a none =
      all-same takes (IsBelow Part n) (IsBelow Part (n + 1)) s t a (grows Part n (n + 1) (omega arith))
      (λ m h. elim (split Part n m h) as (λ _. IsBelow Part n m) [ inl k ↦ k | inr k ↦ absurd (none m k) ])

  pub below-last : (Part : ℕ → Move → Type 0) (n end : ℕ) (s t : S) → n ≡ end → TakesAll takes (IsBelow Part n) s t → TakesAll takes (IsBelow Part end) s t
  below-last Part n end s t e a = subst (λ k. TakesAll takes (IsBelow Part k) s t) e a

module _ {S : Type 0} (stops : S → List Move → S → Type 0) where
  pub either-left : (P Q : Move → Type 0) (s t : S) → TakesSome stops P s t → TakesSome stops (IsEither P Q) s t
  either-left P Q s t a = some-within stops P (IsEither P Q) s t a (λ m h. inl h)
