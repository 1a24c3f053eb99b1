-- What lines and jumps reach, by sets.
use Rattle.std.proofs.Common.{◌≡◌, ℕ, zero, suc, ◌-◌, ◌<◌, Bool, true, false, ◌&&◌, not, ◌==◌, refl, ap, ◌∙◌, arith}
use Rattle.std.proofs.lemmas.Bool.{ne_eqb}
use Rattle.square_set.specs.declared.Set.{Set}
use Rattle.square_set.specs.Members.{has, before}
use Rattle.square_set.proofs.CountLaws.{before-same, before-rest}
use Rattle.move_tables.specs.Lines.{is_after, is_past}

and_assoc : (a b c : Bool) → ((a && b) && c) ≡ (a && (b && c))
and_assoc true b c = refl
and_assoc false b c = refl

second : (n : ℕ) → ((n - 1 == 0) && not (n == 0)) ≡ (n == 1)
second zero = refl
second (suc zero) = refl
second (suc (suc n)) =
    let a : (suc (suc n) - 1 == 0) ≡ false = ne_eqb (suc (suc n) - 1) 0 (λ e. omega (arith, e)) in
    let b : (suc (suc n) == 1) ≡ false = ne_eqb (suc (suc n)) 1 (λ e. omega (arith, e)) in
    rw (a, b) refl

-- f passes on the occupied squares of a line, g on the members of the set of them
module _ (rising : Bool) (squares near : Set) (f g : ℕ → Bool) (t : ℕ) (small : t < 128) (same : (u : ℕ) → u < 128 → g u ≡ f u) (first : (u : ℕ) → u < 128 → has near u ≡ (before rising g u == 0)) where
  near_is : (u : ℕ) → u < 128 → has near u ≡ (before rising f u == 0)
  near_is u l = first u l ∙ ap (λ x. x == 0) (before-same rising g f u l same)

  -- up to the first
  pub slides : (has squares t && has near t) ≡ (has squares t && (before rising f t == 0))
  slides = ap (λ b. has squares t && b) (near_is t small)

  -- after the first and up to the second
  pub hops : (far : Set) (rest : ℕ → Bool) → ((u : ℕ) → u < 128 → rest u ≡ (g u && not (has near u))) → (has far t ≡ (before rising rest t == 0)) → (has squares t && (has far t && not (has near t))) ≡ (has squares t && (before rising f t == 1))
  hops far rest is m =
      let tail : before rising rest t ≡ before rising f t - 1 =
      before-same rising rest (λ u. f u && not (before rising f u == 0)) t small (λ u k. is u k ∙ ap (λ b. b && not (has near u)) (same u k) ∙ ap (λ b. f u && not b) (near_is u k))
      ∙ before-rest rising f t small in
      ap (λ b. has squares t && b) (ap (λ b. b && not (has near t)) (m ∙ ap (λ x. x == 0) tail) ∙ ap (λ b. (before rising f t - 1 == 0) && not b) (near_is t small) ∙ second (before rising f t))

  -- to the first square after the first
  pub lands : (far cover : Set) → ((u : ℕ) → has far u ≡ (has squares u && not (has near u))) → (has cover t ≡ (before rising (has far) t == 0)) → (has far t && has cover t) ≡ (has squares t && (is_after rising f t && (before rising (is_past rising (has squares) f) t == 0)))
  lands far cover is m =
      let past : (u : ℕ) → u < 128 → has far u ≡ is_past rising (has squares) f u = λ u k. is u ∙ ap (λ b. has squares u && not b) (near_is u k) in
      ap (λ b. b && has cover t) (past t small)
      ∙ ap (λ b. is_past rising (has squares) f t && b) (m ∙ ap (λ x. x == 0) (before-same rising (has far) (is_past rising (has squares) f) t small past))
      ∙ and_assoc (has squares t) (is_after rising f t) (before rising (is_past rising (has squares) f) t == 0)
