-- The greatest of a floor and the scores of a list.
use Rattle.std.proofs.Common.{◌≡◌, ◌⊎◌, inl, inr, List, [], ◌∷◌, Bool, true, false, refl, sym, ◌∙◌, arith}
use Rattle.std.specs.Prelude.{ℤ, ◌≤ℤ◌, int_lt}
use Rattle.std.specs.Int.{int_max}
use Rattle.std.proofs.lemmas.Int.{ints, clamps}
use Rattle.foundation.specs.Member.{Member}
use Rattle.evaluation.specs.Values.{greatest}

max_of : (v w : ℤ) → (int_max v w ≡ v) ⊎ (int_max v w ≡ w)
max_of v w = by_order (int_lt w v) refl
  where
    by_order : (b : Bool) → int_lt w v ≡ b → (int_max v w ≡ v) ⊎ (int_max v w ≡ w)
    by_order true is = inl (rw is)
    by_order false is = inr (rw is)

module _ {M : Type 0} (f : M → ℤ) where
  pub greatest-floor : (low : ℤ) (ms : List M) → low ≤ℤ greatest low f ms
  unfolding greatest
  greatest-floor low [] = omega (arith, ints)
  greatest-floor low (m ∷ ms) = let h = greatest-floor (int_max low (f m)) ms in omega (arith, ints, clamps)

  -- no element scores more
  pub greatest-member : (low : ℤ) (ms : List M) (m : M) → Member m ms → f m ≤ℤ greatest low f ms
  unfolding greatest
  greatest-member low [] m h = absurd h
  greatest-member low (n ∷ ms) m (inl e) = let h = greatest-floor (int_max low (f n)) ms in rw (← e) (omega (arith, ints, clamps))
  greatest-member low (n ∷ ms) m (inr h) = greatest-member (int_max low (f n)) ms m h

  -- it is the floor, or some element's score
  pub record Scores (ms : List M) (v : ℤ) : Type 0 where
    pub best : M
    pub member : Member best ms
    pub scored : f best ≡ v

  later : (m : M) (ms : List M) (v : ℤ) → Scores ms v → Scores (m ∷ ms) v
  later m ms v s = record { best = s.best; member = inr s.member; scored = s.scored }

  pub greatest-is : (low : ℤ) (ms : List M) → (greatest low f ms ≡ low) ⊎ Scores ms (greatest low f ms)
  unfolding greatest
  greatest-is low [] = inl refl
  greatest-is low (m ∷ ms) = by_rest (greatest-is (int_max low (f m)) ms) (max_of low (f m))
    where
      by_rest : (greatest (int_max low (f m)) f ms ≡ int_max low (f m)) ⊎ Scores ms (greatest (int_max low (f m)) f ms)
          → (int_max low (f m) ≡ low) ⊎ (int_max low (f m) ≡ f m)
          → (greatest (int_max low (f m)) f ms ≡ low) ⊎ Scores (m ∷ ms) (greatest (int_max low (f m)) f ms)
      by_rest (inr s) either = inr (later m ms _ s)
      by_rest (inl is) (inl floor) = inl (is ∙ floor)
      by_rest (inl is) (inr own) = inr (record { best = m; member = inl refl; scored = sym (is ∙ own) })

  -- what is above the floor and each score is above the greatest
  pub greatest-least : (low v : ℤ) (ms : List M) → low ≤ℤ v → ((m : M) → Member m ms → f m ≤ℤ v)
      → greatest low f ms ≤ℤ v
  greatest-least low v ms floor each = by_kind (greatest-is low ms)
    where
      by_kind : (greatest low f ms ≡ low) ⊎ Scores ms (greatest low f ms) → greatest low f ms ≤ℤ v
      by_kind (inl e) = rw e floor
      by_kind (inr s) = rw (← s.scored) (each s.best s.member)

  part : (low : ℤ) (ms ns : List M) → ((m : M) → Member m ms → Member m ns) → greatest low f ms ≤ℤ greatest low f ns
  part low ms ns within =
      greatest-least low (greatest low f ns) ms (greatest-floor low ns) (λ m h. greatest-member low ns m (within m h))

  -- only the elements matter
  pub greatest-set : (low : ℤ) (ms ns : List M) → ((m : M) → Member m ms → Member m ns)
      → ((m : M) → Member m ns → Member m ms) → greatest low f ms ≡ greatest low f ns
  greatest-set low ms ns to from = let h = part low ms ns to in let k = part low ns ms from in omega (arith, ints, h, k)
