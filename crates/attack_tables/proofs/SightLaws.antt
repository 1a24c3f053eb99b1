-- What is seen along a file, and the king that faces another.
use Rattle.std.proofs.Common.{◌≡◌, ◌≢◌, ℕ, ◌%◌, ◌<◌, min, max, nat_lt, Bool, true, false, ◌&&◌, not, ◌==◌, Option, List, is_some, refl, sym, ◌∙◌, arith}
use Rattle.std.proofs.lemmas.Bool.{and_parts, and_from, eq-eqb, eqb-true, false_from_ne_true, lt-ltb, ltb-true}
use Rattle.std.proofs.Math.Bool.{or-false}
use Rattle.foundation.specs.Count.{any_below}
use Rattle.foundation.proofs.CountLemmas.{any_below-some, any_below-true}
use Rattle.rules_model.specs.declared.board.Cell.{Cell}
use Rattle.rules_model.specs.Attacks.{stands_between}
use Rattle.rules_model.specs.Squares.{cell_at}
use Rattle.square_set.specs.declared.Set.{Set}
use Rattle.square_set.specs.Members.{before, has, place}
use Rattle.square_set.proofs.Cases.{by_bool, by_order}
use Rattle.square_set.proofs.CountLaws.{before-at, before-none}
use Rattle.move_tables.specs.Lines.{in_both}
use Rattle.move_tables.specs.Occupied.{IsOccupied}
use Rattle.attack_tables.specs.declared.sight.Sight.{Sight}
use Rattle.attack_tables.specs.Sights.{IsSightOf, is_above, is_below, sees}

-- none that passes comes before a square exactly where none is between it and another
clear_between : (rising : Bool) (f g : ℕ → Bool) (s : ℕ) → s < 128 → ((u : ℕ) → u < 128 → place rising u < place rising s → f u ≡ true → (u < 120) × (g u ≡ true)) → ((u : ℕ) → u < 120 → g u ≡ true → (place rising u < place rising s) × (f u ≡ true)) → (before rising f s == 0) ≡ not (any_below g 120)
clear_between rising f g s l there back =
    by_bool (any_below g 120) ((before rising f s == 0) ≡ not (any_below g 120))
    (λ e.
    let u = any_below-some g 120 e in
    let h = back u.0 u.1 u.2 in
    rw e (false_from_ne_true (before rising f s == 0) (λ z. let n = before-at rising f s u.0 z (omega (arith, u.1)) h.0 in cc)))
    (λ e. rw e (before-none rising f s l (λ u m p. false_from_ne_true (f u) (λ h. let k = there u m p h in let n = any_below-true g 120 u k.0 k.1 in cc))))

module _ (board : List (Option Cell)) (occupied : Set) (is : IsOccupied occupied board) (at : ℕ) (low : at < 120) (sight : Sight) (of : IsSightOf at sight) (s : ℕ) (small : s < 120) where
  abbrev faces : Bool
  faces = (s % 12 == at % 12) && not (any_below (stands_between board s at) 120)

  above_parts : (u : ℕ) → has sight.above u ≡ true → (u < 120) × (u % 12 ≡ at % 12) × (at < u)
  above_parts u e =
      let h = and_parts (nat_lt u 120) (is_above at u) (sym (of.above u) ∙ e) in
      let k = and_parts (u % 12 == at % 12) (nat_lt at u) h.1 in
      (ltb-true u 120 h.0, eqb-true (u % 12) (at % 12) k.0, ltb-true at u k.1)

  below_parts : (u : ℕ) → has sight.below u ≡ true → (u < 120) × (u % 12 ≡ at % 12) × (u < at)
  below_parts u e =
      let h = and_parts (nat_lt u 120) (is_below at u) (sym (of.below u) ∙ e) in
      let k = and_parts (u % 12 == at % 12) (nat_lt u at) h.1 in
      (ltb-true u 120 h.0, eqb-true (u % 12) (at % 12) k.0, ltb-true u at k.1)

  between_is : (u : ℕ) → u % 12 ≡ s % 12 → min s at < u → u < max s at → is_some (cell_at board u) ≡ true → stands_between board s at u ≡ true
  unfolding stands_between
  between_is u f l m e = rw (eq-eqb (u % 12) (s % 12) f, lt-ltb (min s at) u l, lt-ltb u (max s at) m, e) refl

  between_parts : (u : ℕ) → stands_between board s at u ≡ true → (u % 12 ≡ s % 12) × (min s at < u) × (u < max s at) × (is_some (cell_at board u) ≡ true)
  unfolding stands_between
  between_parts u e =
      let a = and_parts ((u % 12 == s % 12) && nat_lt (min s at) u && nat_lt u (max s at)) (is_some (cell_at board u)) e in
      let b = and_parts ((u % 12 == s % 12) && nat_lt (min s at) u) (nat_lt u (max s at)) a.0 in
      let c = and_parts (u % 12 == s % 12) (nat_lt (min s at) u) b.0 in
      (eqb-true (u % 12) (s % 12) c.0, ltb-true (min s at) u c.1, ltb-true u (max s at) b.1, a.1)

  in_above : (u : ℕ) → u < 120 → u % 12 ≡ at % 12 → at < u → has sight.above u ≡ true
  in_above u l f m = of.above u ∙ rw (lt-ltb u 120 l, eq-eqb (u % 12) (at % 12) f, lt-ltb at u m) refl

  in_below : (u : ℕ) → u < 120 → u % 12 ≡ at % 12 → u < at → has sight.below u ≡ true
  in_below u l f m = of.below u ∙ rw (lt-ltb u 120 l, eq-eqb (u % 12) (at % 12) f, lt-ltb u at m) refl

  up : s % 12 ≡ at % 12 → at < s → (before true (in_both sight.above occupied) s == 0) ≡ not (any_below (stands_between board s at) 120)
  up f l =
      clear_between true (in_both sight.above occupied) (stands_between board s at) s (omega (arith, small))
      (λ u m p e.
      let h = and_parts (has sight.above u) (has occupied u) e in
      let k = above_parts u h.0 in
      (k.0, between_is u (k.1 ∙ sym f) (omega (arith, k.2, l)) (omega (arith, p, l)) (sym (is u) ∙ h.1)))
      (λ u m e.
      let k = between_parts u e in
      (omega (arith, k.2, l), and_from (has sight.above u) (has occupied u) (in_above u m (k.0 ∙ f) (omega (arith, k.1, l))) (is u ∙ k.3)))

  down : s % 12 ≡ at % 12 → s < at → (before false (in_both sight.below occupied) s == 0) ≡ not (any_below (stands_between board s at) 120)
  down f l =
      clear_between false (in_both sight.below occupied) (stands_between board s at) s (omega (arith, small))
      (λ u m p e.
      let h = and_parts (has sight.below u) (has occupied u) e in
      let k = below_parts u h.0 in
      (k.0, between_is u (k.1 ∙ sym f) (omega (arith, p, l, m, small)) (omega (arith, k.2, l)) (sym (is u) ∙ h.1)))
      (λ u m e.
      let k = between_parts u e in
      (omega (arith, k.1, l, m), and_from (has sight.below u) (has occupied u) (in_below u m (k.0 ∙ f) (omega (arith, k.2, l))) (is u ∙ k.3)))

  not_above : at < s → has sight.below s ≡ false
  not_above l = false_from_ne_true (has sight.below s) (λ e. let k = below_parts s e in omega (arith, k.2, l))

  not_below : s < at → has sight.above s ≡ false
  not_below l = false_from_ne_true (has sight.above s) (λ e. let k = above_parts s e in omega (arith, k.2, l))

  same_file : (s % 12 == at % 12) ≡ true → s ≢ at → sees sight occupied s ≡ not (any_below (stands_between board s at) 120)
  same_file e other =
      let f = eqb-true (s % 12) (at % 12) e in
      by_order at s (sees sight occupied s ≡ not (any_below (stands_between board s at) 120))
      (λ l. rw (in_above s small f l, not_above l) (or-false (before true (in_both sight.above occupied) s == 0) ∙ up f l))
      (λ l. let m : s < at = omega (arith, l, other) in rw (not_below m, in_below s small f m) (down f m))

  other_file : (s % 12 == at % 12) ≡ false → sees sight occupied s ≡ false
  other_file e =
      let a : has sight.above s ≡ false = false_from_ne_true (has sight.above s) (λ h. let k = above_parts s h in let t = eq-eqb (s % 12) (at % 12) k.1 in cc) in
      let b : has sight.below s ≡ false = false_from_ne_true (has sight.below s) (λ h. let k = below_parts s h in let t = eq-eqb (s % 12) (at % 12) k.1 in cc) in
      rw (a, b) refl

  -- another square is seen exactly where it is on the file, with all squares between empty
  pub seen : s ≢ at → sees sight occupied s ≡ faces
  seen other =
      by_bool (s % 12 == at % 12) (sees sight occupied s ≡ faces)
      (λ e. same_file e other ∙ rw e refl)
      (λ e. other_file e ∙ rw e refl)
