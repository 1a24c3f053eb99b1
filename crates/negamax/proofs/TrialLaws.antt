-- A search of a list of moves, move by move.
use Rattle.std.proofs.Common.{◌≡◌, ℕ, ◌+◌, ◌≤◌, List, [], ◌∷◌, map, sum_by, refl, sym, ap, ◌∙◌, subst, arith}
use Rattle.std.specs.Prelude.{ℤ, neg_ℤ, ◌≤ℤ◌, ◌<ℤ◌}
use Rattle.std.specs.Int.{int_max}
use Rattle.std.specs.List.Sorted.{IsPermutation}
use Rattle.std.proofs.lemmas.List.Sorted.{IsPermutation-sym, sum_by-IsPermutation}
use Rattle.std.proofs.lemmas.List.Sums.{sum_by-cons}
use Rattle.foundation.specs.Member.{Lists, Member}
use Rattle.foundation.proofs.Members.{member-permutation}
use Rattle.evaluation.specs.Laws.{Within}
use Rattle.evaluation.specs.Values.{greatest}
use Rattle.evaluation.proofs.Greatest.{greatest-floor, greatest-set}
use Rattle.evaluation.proofs.TreeLaws.{sum_by-once}
use Rattle.negamax.specs.Trials.{Entered, Trial}
use Rattle.negamax.specs.Windows.{Bounds}
use Rattle.negamax.proofs.WindowLaws.{cut, flip, same, step, within_larger, within_other}

-- ---- the greatest score

module _ {C : Type 0} (score : C → ℤ) where
  greatest-permuted : (low : ℤ) (xs ys : List C) → IsPermutation xs ys → greatest low score xs ≡ greatest low score ys
  greatest-permuted low xs ys h =
      greatest-set score low xs ys (λ c m. member-permutation c xs ys h m) (λ c m. member-permutation c ys xs (IsPermutation-sym xs ys h) m)

  greatest-cons : (low : ℤ) (c : C) (rest : List C) → greatest low score (c ∷ rest) ≡ greatest (int_max low (score c)) score rest
  unfolding greatest
  greatest-cons low c rest = refl

  greatest-nil : (low : ℤ) → greatest low score [] ≡ low
  unfolding greatest
  greatest-nil low = refl

  pub greatest-map : {M : Type 0} (f : M → C) (low : ℤ) (ms : List M) → greatest low score (map f ms) ≡ greatest low (λ m. score (f m)) ms
  unfolding greatest
  greatest-map f low [] = refl
  greatest-map f low (m ∷ ms) = greatest-map f (int_max low (score (f m))) ms

-- ---- the value

module _ {C : Type 0} (a b v : ℤ) (score : C → ℤ) where
  pub trial_start : (best : ℤ) (rest : List C) → Within best → greatest best score rest ≡ v → Trial a b best v score rest
  trial_start best rest h e = record { so_far = best; bounds = same a b best; within = h; value = e }

  -- One candidate more was scored: r is what the window above the best asks of its score.
  pub trial_score : (best s r w low high : ℤ) (c : C) (rest left : List C) → Trial a b best v score rest → IsPermutation rest (c ∷ left)
      → score c ≡ w → Bounds low high r w → Within r → low ≡ int_max a best → high ≡ b → s ≡ int_max best r → Trial a b s v score left
  trial_score best s r w low high c rest left t are scored told within el eh es =
      let seen : Bounds (int_max a best) b r w = rw (← el, ← eh) told in
      let more = step a b best t.so_far r w t.bounds seen in
      let value : greatest (int_max t.so_far w) score left ≡ v =
      ap (λ z. greatest (int_max t.so_far z) score left) (sym scored)
      ∙ sym (greatest-cons score t.so_far c left) ∙ sym (greatest-permuted score t.so_far rest (c ∷ left) are) ∙ t.value in
      record {
        so_far = int_max t.so_far w;
        bounds = rw es more;
        within = rw es (within_larger best r t.within within);
        value = value;
      }

  -- One candidate more was tried: r is what the other side answers within its window.
  pub trial_next : (best s r w low high : ℤ) (c : C) (rest left : List C) → Trial a b best v score rest → IsPermutation rest (c ∷ left)
      → score c ≡ neg_ℤ w → Bounds low high r w → Within r → low ≡ neg_ℤ b → high ≡ neg_ℤ (int_max a best)
      → s ≡ int_max best (neg_ℤ r) → Trial a b s v score left
  trial_next best s r w low high c rest left t are scored told within el eh es =
      let seen : Bounds (neg_ℤ b) (neg_ℤ (int_max a best)) r w = rw (← el, ← eh) told in
      trial_score best s (neg_ℤ r) (neg_ℤ w) (int_max a best) b c rest left t are scored (flip (int_max a best) b r w seen)
      (within_other r within) refl refl es

  pub trial_cut : (best : ℤ) (rest : List C) → Trial a b best v score rest → a <ℤ b → b ≤ℤ best → Bounds a b best v
  trial_cut best rest t p q =
      let le : t.so_far ≤ℤ v = subst (λ z. t.so_far ≤ℤ z) t.value (greatest-floor score t.so_far rest) in
      cut a b best t.so_far v p q t.bounds le

  pub trial_end : (best : ℤ) (rest : List C) → Trial a b best v score rest → rest ≡ [] → Bounds a b best v
  trial_end best rest t none =
      let e : t.so_far ≡ v = sym (greatest-nil score t.so_far) ∙ ap (greatest t.so_far score) (sym none) ∙ t.value in
      rw (← e) t.bounds

-- ---- the nodes

module _ {W C : Type 0} (gone : W → W → ℕ → Type 0) (size : C → ℕ) (most : ℕ) where
  pub entered_start : (before now : W) (nodes : ℕ) (rest : List C) → gone before now nodes → nodes + sum_by size rest ≤ most
      → Entered gone before now size rest most
  entered_start before now nodes rest g le = record { nodes = nodes; went = g; fits = le }

  -- what is entered for one candidate more fits
  pub entered_fits : (before now : W) (n : ℕ) (c : C) (rest left : List C) (e : Entered gone before now size rest most)
      → IsPermutation rest (c ∷ left) → n ≤ size c → e.nodes + n + sum_by size left ≤ most
  entered_fits before now n c rest left e are le =
      let same = sum_by-IsPermutation size rest (c ∷ left) are in
      let parts = sum_by-cons size c left in
      let fits = e.fits in
      omega arith

  pub entered_next : ((a b c : W) (m n : ℕ) → gone a b m → gone b c n → gone a c (m + n))
      → (before now then : W) (n : ℕ) (c : C) (rest left : List C) → Entered gone before now size rest most → IsPermutation rest (c ∷ left)
      → n ≤ size c → gone now then n → Entered gone before then size left most
  entered_next more before now then n c rest left e are le g =
      record { nodes = e.nodes + n; went = more before now then e.nodes n e.went g; fits = entered_fits before now n c rest left e are le }

-- ---- a list of all moves, each once

module _ {M C : Type 0} (f : C → M) where
  pub lists-greatest : (score : M → ℤ) (low : ℤ) (ms : List M) (cs : List C) → Lists (λ m. Member m ms) (map f cs)
      → greatest low (λ c. score (f c)) cs ≡ greatest low score ms
  lists-greatest score low ms cs h = sym (greatest-map score f low cs) ∙ greatest-set score low (map f cs) ms h.sound h.complete

  sum_by-map : (size : M → ℕ) (cs : List C) → sum_by size (map f cs) ≡ sum_by (λ c. size (f c)) cs
  sum_by-map size [] = refl
  sum_by-map size (c ∷ cs) =
      let h = sum_by-map size cs in
      let p = sum_by-cons size (f c) (map f cs) in
      let q = sum_by-cons (λ c. size (f c)) c cs in
      omega (arith, h, p, q)

  pub lists-sum : (size : M → ℕ) (ms : List M) (cs : List C) → Lists (λ m. Member m ms) (map f cs)
      → sum_by (λ c. size (f c)) cs ≤ sum_by size ms
  lists-sum size ms cs h =
      let e = sum_by-map size cs in
      let le = sum_by-once size (map f cs) ms h.once h.sound in
      omega (arith, e, le)
