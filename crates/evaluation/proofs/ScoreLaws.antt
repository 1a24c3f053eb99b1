-- Values are scores: no mate, or the worth of an end near enough.
use Rattle.std.proofs.Common.{◌≡◌, ◌⊎◌, inl, inr, ℕ, zero, suc, ◌+◌, ◌-◌, ◌≤◌, ◌<◌, List, Option, Some, None, refl, arith}
use Rattle.std.specs.Prelude.{nat_abs, ℤ, pos, negsuc, neg_ℤ, ◌<ℤ◌}
use Rattle.std.proofs.lemmas.Int.{ints}
use Rattle.foundation.specs.Member.{Member}
use Rattle.evaluation.specs.Values.{Play, greatest, quiet, root_score, root_value, settled, value, worst}
use Rattle.evaluation.specs.Laws.{IsCalm, IsEnd, IsScore, IsWorthAt, PlayLaws, Within}
use Rattle.evaluation.proofs.Greatest.{Scores, greatest-is, greatest-member}

-- ---- scores

calm_other : (v : ℤ) → IsCalm v → IsCalm (neg_ℤ v)
calm_other v h = let p = h.least in let q = h.most in record { least = omega (arith, ints); most = omega (arith, ints) }

worth_other : (ply : ℕ) (v : ℤ) → IsWorthAt ply v → IsWorthAt ply (neg_ℤ v)
worth_other ply v (inl e) = inr (rw e refl)
worth_other ply v (inr e) = inl (omega (arith, ints, e))

pub score_other : (first last : ℕ) (v : ℤ) → IsScore first last v → IsScore first last (neg_ℤ v)
score_other first last v (inl h) = inl (calm_other v h)
score_other first last v (inr h) = inr (record { ply = h.ply; from = h.from; upto = h.upto; is = worth_other h.ply v h.is })

pub score_wider : (first last first' last' : ℕ) (v : ℤ) → first' ≤ first → last ≤ last' → IsScore first last v
    → IsScore first' last' v
score_wider first last first' last' v lower higher (inl h) = inl h
score_wider first last first' last' v lower higher (inr h) =
    let f = h.from in let u = h.upto in
    inr (record { ply = h.ply; from = omega (arith, lower, f); upto = omega (arith, higher, u); is = h.is })

above_worst : (first last : ℕ) (v : ℤ) → IsScore first last v → worst <ℤ v
above_worst first last v (inl h) = let p = h.least in omega (arith, ints)
above_worst first last v (inr h) = by_side h.is
  where
    by_side : IsWorthAt h.ply v → worst <ℤ v
    by_side (inl e) = omega (arith, ints, e)
    by_side (inr e) = omega (arith, ints, e)

pub score_within : (first last : ℕ) (v : ℤ) → IsScore first last v → Within v
score_within first last v (inl h) = let p = h.least in let q = h.most in record { least = omega (arith, ints); most = omega (arith, ints) }
score_within first last v (inr h) = by_side h.is
  where
    by_side : IsWorthAt h.ply v → Within v
    by_side (inl e) = record { least = omega (arith, ints, e); most = omega (arith, ints, e) }
    by_side (inr e) = record { least = omega (arith, ints, e); most = omega (arith, ints, e) }

calm_few : (v : ℤ) → IsCalm v → nat_abs v ≤ 30000
calm_few (pos n) h = let p = h.most in omega (arith, ints)
calm_few (negsuc n) h = let p = h.least in omega (arith, ints)

pub large_score : (first last : ℕ) (v : ℤ) → IsScore first last v → 31000 ≤ nat_abs v → IsEnd first last v
large_score first last v (inl h) large = absurd (omega (arith, calm_few v h, large))
large_score first last v (inr h) large = h

-- ---- the greatest of scores

module _ {M : Type 0} (f : M → ℤ) (first last : ℕ) where
  -- above a floor that is a score
  pub greatest_score : (low : ℤ) (ms : List M) → IsScore first last low → ((m : M) → IsScore first last (f m))
      → IsScore first last (greatest low f ms)
  greatest_score low ms floor each = by_kind (greatest-is f low ms)
    where
      by_kind : (greatest low f ms ≡ low) ⊎ Scores f ms (greatest low f ms) → IsScore first last (greatest low f ms)
      by_kind (inl e) = rw e floor
      by_kind (inr s) = rw (← s.scored) (each s.best)

  -- with some element that is above the floor
  pub attained : (ms : List M) (m : M) → Member m ms → ((m : M) → IsScore first last (f m))
      → Scores f ms (greatest worst f ms)
  attained ms m there each = by_kind (greatest-is f worst ms)
    where
      by_kind : (greatest worst f ms ≡ worst) ⊎ Scores f ms (greatest worst f ms) → Scores f ms (greatest worst f ms)
      by_kind (inl e) =
          let above = above_worst first last (f m) (each m) in
          let below = greatest-member f worst ms m there in
          absurd (omega (arith, ints, e, above, below))
      by_kind (inr s) = s

  pub some_score : (ms : List M) (m : M) → Member m ms → ((m : M) → IsScore first last (f m))
      → IsScore first last (greatest worst f ms)
  some_score ms m there each = let s = attained ms m there each in rw (← s.scored) (each s.best)

-- ---- values

module _ {X M : Type 0} (g : Play X M) where
  pub quiet-ended : (limit ply : ℕ) (x : X) (v : ℤ) → g.ended x ply ≡ Some v → quiet g limit ply x ≡ v
  unfolding quiet
  quiet-ended zero ply x v h = rw h refl
  quiet-ended (suc limit) ply x v h = rw h refl

  pub value-ended : (depth ply : ℕ) (x : X) (v : ℤ) → g.ended x ply ≡ Some v → value g depth ply x ≡ v
  unfolding value
  value-ended zero ply x v h = quiet-ended 4 ply x v h
  value-ended (suc depth) ply x v h = rw h refl

  module _ (laws : PlayLaws g) where
    end_score : (x : X) (ply last : ℕ) (v : ℤ) → ply ≤ last → g.ended x ply ≡ Some v → IsScore ply last v
    end_score x ply last v l is = by_kind (laws.ends x ply v is)
      where
        by_kind : (v ≡ pos 0) ⊎ IsWorthAt ply v → IsScore ply last v
        by_kind (inl e) = inl (record { least = omega (arith, ints, e); most = omega (arith, ints, e) })
        by_kind (inr e) = inr (record { ply = ply; from = omega arith; upto = l; is = e })

    settled_score : (x : X) (ply last : ℕ) (v : ℤ) → ply ≤ last → (g.ended x ply ≡ None → IsScore ply last v)
        → IsScore ply last (settled (g.ended x ply) v)
    settled_score x ply last v l ongoing = by_end (g.ended x ply) refl
      where
        by_end : (o : Option ℤ) → g.ended x ply ≡ o → IsScore ply last (settled o v)
        by_end None is = ongoing is
        by_end (Some w) is = end_score x ply last w l is

    pub quiet-score : (limit ply : ℕ) (x : X) → IsScore ply (ply + limit) (quiet g limit ply x)
    unfolding quiet
    quiet-score zero ply x = settled_score x ply (ply + 0) (g.eval x) (omega arith) (λ is. inl (laws.calm x))
    quiet-score (suc limit) ply x =
        settled_score x ply (ply + suc limit) _ (omega arith)
        (λ is. greatest_score (λ m. neg_ℤ (quiet g limit (ply + 1) (g.after x m))) ply (ply + suc limit) (g.eval x) (g.captures x) (inl (laws.calm x))
        (λ m. score_other _ _ _ (score_wider (ply + 1) (ply + 1 + limit) _ _ _ (omega arith) (omega arith) (quiet-score limit (ply + 1) (g.after x m)))))

    pub value-score : (depth ply : ℕ) (x : X) → IsScore ply (ply + (depth + 4)) (value g depth ply x)
    unfolding value
    value-score zero ply x = quiet-score 4 ply x
    value-score (suc depth) ply x =
        settled_score x ply (ply + (suc depth + 4)) _ (omega arith)
        (λ is. some_score (λ m. neg_ℤ (value g depth (ply + 1) (g.after x m))) ply (ply + (suc depth + 4)) (g.moves x) (laws.lively x ply is).0 (laws.lively x ply is).1
        (λ m. score_other _ _ _ (score_wider (ply + 1) (ply + 1 + (depth + 4)) _ _ _ (omega arith) (omega arith) (value-score depth (ply + 1) (g.after x m)))))

    pub root_score-score : (depth : ℕ) (x : X) (m : M) → IsScore 1 (1 + (depth - 1 + 4)) (root_score g depth x m)
    unfolding root_score
    root_score-score depth x m = score_other _ _ _ (value-score (depth - 1) 1 (g.after x m))

    pub root_value-score : (depth : ℕ) (x : X) (roots : List M) (m : M) → 0 < depth → Member m roots
        → IsScore 1 (depth + 4) (root_value g depth x roots)
    unfolding root_value
    root_value-score depth x roots m some there =
        score_wider 1 (1 + (depth - 1 + 4)) 1 (depth + 4) _ (omega arith) (omega (arith, some))
        (some_score (root_score g depth x) 1 (1 + (depth - 1 + 4)) roots m there (root_score-score depth x))

    pub roots_attain : (depth : ℕ) (x : X) (roots : List M) (m : M) → Member m roots
        → (best : M) × Member best roots × (root_score g depth x best ≡ root_value g depth x roots)
    unfolding root_value
    roots_attain depth x roots m there =
        let s = attained (root_score g depth x) 1 (1 + (depth - 1 + 4)) roots m there (root_score-score depth x) in
        (s.best, s.member, s.scored)
