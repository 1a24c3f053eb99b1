-- How many lines there are.
use Rattle.std.proofs.Common.{◌≡◌, ◌⊎◌, inl, inr, ℕ, zero, suc, ◌+◌, ◌*◌, ◌≤◌, List, [], ◌∷◌, ◌++◌, sum_by, refl, sym, ap, subst, arith, add-one}
use Rattle.std.proofs.Math.Nat.{mul-le-mul_left, mul-le-mul_right}
use Rattle.std.proofs.lemmas.List.Sums.{sum_by-append, sum_by-cons, sum_by-le-sum_by}
use Rattle.foundation.specs.Member.{Member, IsEachOnce}
use Rattle.foundation.proofs.Members.{member-append, member-left, member-right}
use Rattle.rules_model.specs.declared.rules.Rules.{Rules}
use Rattle.rules_model.specs.Games.{Story}
use Rattle.evaluation.specs.Bounds.{asked_bound, solve_bound}
use Rattle.evaluation.specs.Values.{Play, play, tree}

-- ---- lists whose elements are in another

module _ {M : Type 0} where
  -- where an element stands
  record Stands (m : M) (ms : List M) : Type 0 where
    before : List M
    after : List M
    is : ms ≡ before ++ m ∷ after

  stands : (m : M) (ms : List M) → Member m ms → Stands m ms
  stands m [] h = absurd h
  stands m (n ∷ ms) (inl e) = record { before = []; after = ms; is = ap (λ k. k ∷ ms) e }
  stands m (n ∷ ms) (inr h) =
      let s = stands m ms h in
      record { before = n ∷ s.before; after = s.after; is = ap (λ l. n ∷ l) s.is }

  -- another element is among the others
  beside : (m n : M) (before after : List M) → (n ≡ m → ⊥) → Member n (before ++ m ∷ after) → Member n (before ++ after)
  beside m n before after other h = by_side (member-append n before (m ∷ after) h)
    where
      by_side : Member n before ⊎ Member n (m ∷ after) → Member n (before ++ after)
      by_side (inl k) = member-left n before after k
      by_side (inr (inl e)) = absurd (other (sym e))
      by_side (inr (inr k)) = member-right n before after k

  pub sum_by-once : (f : M → ℕ) (roots ms : List M) → IsEachOnce roots → ((m : M) → Member m roots → Member m ms)
      → sum_by f roots ≤ sum_by f ms
  sum_by-once f [] ms once within = omega arith
  sum_by-once f (r ∷ roots) ms once within =
      let s = stands r ms (within r (inl refl)) in
      let rest = sum_by-once f roots (s.before ++ s.after) once.1
      (λ m h. beside r m s.before s.after (λ e. once.0 (subst (λ n. Member n roots) e h)) (subst (Member m) s.is (within m (inr h)))) in
      let whole = ap (sum_by f) s.is in
      omega (arith, rest, whole, sum_by-cons f r roots, sum_by-append f s.before (r ∷ s.after), sum_by-cons f r s.after, sum_by-append f s.before s.after)

-- ---- trees

module _ {X M : Type 0} (g : Play X M) where
  pub tree-some : (length : ℕ) (x : X) → 1 ≤ tree g length x
  unfolding tree
  tree-some zero x = omega arith
  tree-some (suc length) x = omega arith

  pub tree-grows : (m n : ℕ) (x : X) → m ≤ n → tree g m x ≤ tree g n x
  unfolding tree
  tree-grows zero n x l = tree-some n x
  tree-grows (suc m) zero x l = absurd (omega (arith, l))
  tree-grows (suc m) (suc n) x l =
      let h = sum_by-le-sum_by (λ k. tree g m (g.after x k)) (λ k. tree g n (g.after x k)) (g.moves x) (λ k. tree-grows m n (g.after x k) (omega (arith, l))) in
      omega (arith, h)

  tree-suc : (length : ℕ) (x : X) → tree g (length + 1) x ≡ 1 + sum_by (λ m. tree g length (g.after x m)) (g.moves x)
  unfolding tree
  tree-suc length x = rw add-one refl

  pub roots-lines : (length : ℕ) (x : X) (roots : List M) → IsEachOnce roots
      → ((m : M) → Member m roots → Member m (g.moves x))
      → 1 + sum_by (λ m. tree g length (g.after x m)) roots ≤ tree g (length + 1) x
  roots-lines length x roots once within =
      let h = sum_by-once (λ m. tree g length (g.after x m)) roots (g.moves x) once within in
      omega (arith, h, tree-suc length x)

-- ---- bounds

-- a mate that is so near
pub mates_near : (rules : Rules) (depth n ply : ℕ) (g : Story) → ply ≤ depth + 4 → 2 * n ≤ ply + 1
    → solve_bound rules n g ≤ asked_bound rules depth g
unfolding asked_bound solve_bound
mates_near rules depth n ply g near few =
    let longer = tree-grows (play rules) (2 * n + 1) (depth + 6) g (omega (arith, near, few)) in
    let fewer : 4 * (n + 1) ≤ 4 * (depth + 4) = omega (arith, near, few) in
    let a = mul-le-mul_left (4 * (n + 1)) longer in
    let b = mul-le-mul_right (tree (play rules) (depth + 6) g) fewer in
    omega (arith, a, b)
