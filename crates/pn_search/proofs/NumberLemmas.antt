-- Sums and least numbers, as loops work them out.
use Rattle.std.proofs.Common.{◌≡◌, ℕ, ◌+◌, ◌<◌, ◌≤◌, min, List, [], ◌∷◌, map, drop, length, get_or, Bool, refl, ap, sym, ◌∙◌, arith}
use Rattle.std.proofs.lemmas.Bool.Decides.{nat_tests}
use Rattle.std.proofs.lemmas.List.{at_drop_more, at_drop_all}
use Rattle.pn_search.specs.declared.numbers.Pair.{Pair}
use Rattle.pn_search.specs.Numbers.{infinite, plus, sum_of, least_of, own_number}

-- ---- sums

plus_assoc : (a b c : ℕ) → plus (plus a b) c ≡ plus a (plus b c)
unfolding plus
plus_assoc a b c = grind (arith, nat_tests)

pub plus-low : (a b : ℕ) → plus a b ≤ infinite
unfolding plus
plus-low a b = grind (arith, nat_tests)

sum-low : (xs : List ℕ) → sum_of xs ≤ infinite
unfolding sum_of
sum-low [] = omega arith
sum-low (x ∷ xs) = plus-low x (sum_of xs)

plus-zero : (s : ℕ) → s ≤ infinite → plus 0 s ≡ s
unfolding plus
plus-zero s h = grind (arith, nat_tests)

plus_zero : (a : ℕ) → a ≤ infinite → plus a 0 ≡ a
unfolding plus
plus_zero a h = grind (arith, nat_tests)

-- ---- least numbers

least-low : (xs : List ℕ) → least_of xs ≤ infinite
unfolding least_of
least-low [] = omega arith
least-low (x ∷ xs) = let h = least-low xs in omega arith

-- ---- a loop over the children

module _ (op : ℕ → ℕ → ℕ) (whole : List ℕ → ℕ) (assoc : (a b c : ℕ) → op (op a b) c ≡ op a (op b c)) (cons : (x : ℕ) (xs : List ℕ) → whole (x ∷ xs) ≡ op x (whole xs)) (a : Bool) (cs : List Pair) where
  more : (i s w : ℕ) (d : Pair) → i < length cs → op s (whole (map (own_number a) (drop i cs))) ≡ w → op (op s (own_number a (get_or cs i d))) (whole (map (own_number a) (drop (i + 1) cs))) ≡ w
  more i s w d within so =
      let rest = whole (map (own_number a) (drop (i + 1) cs)) in
      let here = at_drop_more (λ xs. whole (map (own_number a) xs)) cs i d within in
      let first = here ∙ cons (own_number a (get_or cs i d)) (map (own_number a) (drop (i + 1) cs)) in
      assoc s (own_number a (get_or cs i d)) rest ∙ ap (op s) (sym first) ∙ so

  all : (i s w : ℕ) → length cs ≤ i → op s (whole []) ≡ s → op s (whole (map (own_number a) (drop i cs))) ≡ w → s ≡ w
  all i s w past unit so = sym unit ∙ ap (op s) (sym (at_drop_all (λ xs. whole (map (own_number a) xs)) cs i past)) ∙ so

module _ (a : Bool) (cs : List Pair) where
  pub sum-none : plus 0 (sum_of (map (own_number a) cs)) ≡ sum_of (map (own_number a) cs)
  sum-none = plus-zero (sum_of (map (own_number a) cs)) (sum-low (map (own_number a) cs))

  pub sum-more : (i s w : ℕ) (d : Pair) → i < length cs → plus s (sum_of (map (own_number a) (drop i cs))) ≡ w → plus (plus s (own_number a (get_or cs i d))) (sum_of (map (own_number a) (drop (i + 1) cs))) ≡ w
  unfolding sum_of
  sum-more = more plus sum_of plus_assoc (λ x xs. refl) a cs

  pub sum-all : (i s w : ℕ) → length cs ≤ i → s ≤ infinite → plus s (sum_of (map (own_number a) (drop i cs))) ≡ w → s ≡ w
  unfolding sum_of
  sum-all i s w past low = all plus sum_of plus_assoc (λ x xs. refl) a cs i s w past (plus_zero s low)

  pub least-none : min infinite (least_of (map (own_number a) cs)) ≡ least_of (map (own_number a) cs)
  least-none = let h = least-low (map (own_number a) cs) in omega arith

  pub least-more : (i s w : ℕ) (d : Pair) → i < length cs → min s (least_of (map (own_number a) (drop i cs))) ≡ w → min (min s (own_number a (get_or cs i d))) (least_of (map (own_number a) (drop (i + 1) cs))) ≡ w
  unfolding least_of
  least-more = more min least_of (λ a b c. omega arith) (λ x xs. refl) a cs

  pub least-all : (i s w : ℕ) → length cs ≤ i → s ≤ infinite → min s (least_of (map (own_number a) (drop i cs))) ≡ w → s ≡ w
  unfolding least_of
  least-all i s w past low = all min least_of (λ a b c. omega arith) (λ x xs. refl) a cs i s w past (omega arith)
