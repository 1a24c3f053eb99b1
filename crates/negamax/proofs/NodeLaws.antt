-- Values and trees of a state, by those of the states after its moves.
use Rattle.std.proofs.Common.{◌≡◌, ◌⊎◌, inl, inr, ◌∙◌, ℕ, zero, suc, ◌+◌, ◌-◌, ◌<◌, ◌≤◌, Bool, not, Option, Some, None, filter, sum_by, refl, subst, arith}
use Rattle.std.specs.Prelude.{ℤ, neg_ℤ, ◌<ℤ◌, ◌≤ℤ◌}
use Rattle.std.proofs.lemmas.Int.{ints}
use Rattle.std.proofs.lemmas.List.Filters.{sum_by-filter_both}
use Rattle.evaluation.specs.Laws.{PlayLaws, Within}
use Rattle.evaluation.specs.Values.{greatest, Play, quiet, tree, value, worst}
use Rattle.evaluation.proofs.Greatest.{greatest-floor}
use Rattle.evaluation.proofs.ScoreLaws.{quiet-ended, quiet-score, score_within, value-ended}
use Rattle.negamax.specs.Windows.{Bounds}
use Rattle.negamax.proofs.WindowLaws.{cut, same}

module _ {X M : Type 0} (g : Play X M) where
  pub quiet_zero : (ply : ℕ) (x : X) → g.ended x ply ≡ None → quiet g 0 ply x ≡ g.eval x
  unfolding quiet
  quiet_zero ply x on = rw on refl

  pub quiet_on : (limit ply : ℕ) (x : X) → g.ended x ply ≡ None → 0 < limit
      → quiet g limit ply x ≡ greatest (g.eval x) (λ m. neg_ℤ (quiet g (limit - 1) (ply + 1) (g.after x m))) (g.captures x)
  unfolding quiet
  quiet_on zero ply x on some = absurd (omega arith)
  quiet_on (suc limit) ply x on some = let e : suc limit - 1 ≡ limit = omega arith in rw (on, e) refl

  pub value_zero : (ply : ℕ) (x : X) → value g 0 ply x ≡ quiet g 4 ply x
  unfolding value
  value_zero ply x = refl

  pub value_on : (depth ply : ℕ) (x : X) → g.ended x ply ≡ None → 0 < depth
      → value g depth ply x ≡ greatest worst (λ m. neg_ℤ (value g (depth - 1) (ply + 1) (g.after x m))) (g.moves x)
  unfolding value
  value_on zero ply x on some = absurd (omega arith)
  value_on (suc depth) ply x on some = let e : suc depth - 1 ≡ depth = omega arith in rw (on, e) refl

  -- where nothing has ended, standing pat is the least
  pub quiet_floor : (limit ply : ℕ) (x : X) → g.ended x ply ≡ None → g.eval x ≤ℤ quiet g limit ply x
  quiet_floor zero ply x on = rw (quiet_zero ply x on) (omega (arith, ints))
  quiet_floor (suc limit) ply x on =
      let f = λ (m : M). neg_ℤ (quiet g (suc limit - 1) (ply + 1) (g.after x m)) in
      rw (quiet_on (suc limit) ply x on (omega arith)) (greatest-floor f (g.eval x) (g.captures x))

  -- after the last ply only captures are searched
  pub value_last : (ply : ℕ) (x : X) → g.ended x ply ≡ None
      → value g 1 ply x ≡ greatest worst (λ m. neg_ℤ (quiet g 4 (ply + 1) (g.after x m))) (g.moves x)
  unfolding value
  value_last ply x on = rw on refl

  pub tree_on : (n k : ℕ) (x : X) → n ≡ k + 1 → tree g n x ≡ 1 + sum_by (λ m. tree g k (g.after x m)) (g.moves x)
  unfolding tree
  tree_on zero k x e = absurd (omega arith)
  tree_on (suc n) k x e = let same : n ≡ k = omega arith in rw same refl

-- the lines that begin with each move, and the empty one
pub all_fit : {X M : Type 0} (g : Play X M) (n k : ℕ) (x : X) → n ≡ k + 1
    → 1 + sum_by (λ m. tree g k (g.after x m)) (g.moves x) ≤ tree g n x
all_fit g n k x e = let all = tree_on g n k x e in omega arith

-- no more lines begin with a part of the moves
pub part_fits : {X M : Type 0} (g : Play X M) (p : M → Bool) (n k : ℕ) (x : X) → n ≡ k + 1
    → 1 + sum_by (λ m. tree g k (g.after x m)) (filter p (g.moves x)) ≤ tree g n x
part_fits g p n k x e =
    let both = sum_by-filter_both p (λ m. not (p m)) (λ m. refl) (λ m. tree g k (g.after x m)) (g.moves x) in
    let all = tree_on g n k x e in
    omega arith

-- ---- numbers

pub is_none : (o : Option ℤ) → ((v : ℤ) → o ≡ Some v → ⊥) → o ≡ None
is_none None f = refl
is_none (Some v) f = absurd (f v refl)

-- ---- ends

module _ {X M : Type 0} (g : Play X M) (laws : PlayLaws g) where
  pub quiet_within : (limit ply : ℕ) (x : X) → Within (quiet g limit ply x)
  quiet_within limit ply x = score_within _ _ _ (quiet-score g laws limit ply x)

  module _ (a b r w : ℤ) (ply : ℕ) (x : X) (end : g.ended x ply ≡ Some w) where
    within_end : Within w
    within_end = subst Within (quiet-ended g 0 ply x w end) (quiet_within 0 ply x)

    -- an end has its value, whatever the window
    pub quiet_end : (limit : ℕ) → (Within w → r ≡ w) → Bounds a b r (quiet g limit ply x)
    quiet_end limit same_is = rw (quiet-ended g limit ply x w end, same_is within_end) (same a b w)

    pub value_end : (depth : ℕ) → (Within w → r ≡ w) → Bounds a b r (value g depth ply x)
    value_end depth same_is = rw (value-ended g depth ply x w end, same_is within_end) (same a b w)

-- ---- standing pat

module _ {X M : Type 0} (g : Play X M) (a b r : ℤ) (ply : ℕ) (x : X) (on : g.ended x ply ≡ None) (stands : r ≡ g.eval x) where
  pub quiet_stands : (limit : ℕ) → limit ≡ 0 → Bounds a b r (quiet g limit ply x)
  quiet_stands limit none = rw (none, quiet_zero g ply x on, stands) (same a b (g.eval x))

  pub quiet_cut : (limit : ℕ) → 0 < limit → a <ℤ b → b ≤ℤ r → Bounds a b r (quiet g limit ply x)
  quiet_cut limit some wide high =
      let f = λ (m : M). neg_ℤ (quiet g (limit - 1) (ply + 1) (g.after x m)) in
      let floor : g.eval x ≤ℤ quiet g limit ply x = rw (quiet_on g limit ply x on some) (greatest-floor f (g.eval x) (g.captures x)) in
      cut a b r r (quiet g limit ply x) wide high (same a b r) (rw stands floor)

-- no capture is looked at: there is no limit for any, or standing pat is good enough where the line goes on
module _ {X M : Type 0} (g : Play X M) (laws : PlayLaws g) (a b r : ℤ) (limit ply : ℕ) (x : X) where
  rests_by : (o : Option ℤ) → g.ended x ply ≡ o → r ≡ quiet g 0 ply x → a <ℤ b → (limit ≡ 0) ⊎ (b ≤ℤ g.eval x)
      → Bounds a b r (quiet g limit ply x)
  rests_by o end is wide (inl none) = rw (none, is) (same a b (quiet g 0 ply x))
  rests_by (Some w) end is wide (inr high) = rw (quiet-ended g limit ply x w end, is, quiet-ended g 0 ply x w end) (same a b w)
  rests_by None end is wide (inr high) =
      let stands : r ≡ g.eval x = is ∙ quiet_zero g ply x end in
      elim (some-or-none limit) as (λ _. Bounds a b r (quiet g limit ply x)) [
        | inl none ↦ quiet_stands g a b r ply x end stands limit none
        | inr some ↦ quiet_cut g a b r ply x end stands limit some wide (rw stands high)
      ]
    where
      some-or-none : (n : ℕ) → (n ≡ 0) ⊎ (0 < n)
      some-or-none zero = inl refl
      some-or-none (suc n) = inr (omega arith)

  pub quiet_rests : r ≡ quiet g 0 ply x → a <ℤ b → (limit ≡ 0) ⊎ (b ≤ℤ g.eval x) → Bounds a b r (quiet g limit ply x)
  quiet_rests = rests_by (g.ended x ply) refl

-- behind the last ply only captures are searched
pub value_resting : {X M : Type 0} (g : Play X M) (a b r : ℤ) (depth ply : ℕ) (x : X) → depth ≡ 0 → Bounds a b r (quiet g 4 ply x)
    → Bounds a b r (value g depth ply x)
value_resting g a b r depth ply x last h = rw (last, value_zero g ply x) h
