-- Beginnings of one list.
use Rattle.std.proofs.Common.{◌≡◌, ◌<◌, ◌≤◌, ltb, List, [], ◌∷◌, ◌++◌, length, Bool, true, false, sym, refl, ap, ◌∙◌, arith, append_assoc}
use mathlib.Core.List.{IsPrefix, append-nil}
use Rattle.std.specs.Prelude.{if◌then◌else◌}
use borrow.Author.Tests.{ltb-true, ltb-false}
use Rattle.fact_lock.specs.Passes.{longer}

module _ {E : Type 0} where
  pub whole : (xs : List E) → IsPrefix xs xs
  whole xs = ([], append-nil xs)

  pub prefix_trans : (xs ys zs : List E) → IsPrefix xs ys → IsPrefix ys zs → IsPrefix xs zs
  prefix_trans xs ys zs p q = (p.0 ++ q.0, sym (append_assoc xs p.0 q.0) ∙ (ap (λ (l : List E). l ++ q.0) p.1 ∙ q.1))

  -- of two beginnings of one list the shorter begins the longer
  pub shorter_begins : (xs ys zs : List E) → IsPrefix xs zs → IsPrefix ys zs → length xs ≤ length ys → IsPrefix xs ys
  shorter_begins [] ys zs p q le = (ys, refl)
  shorter_begins (x ∷ xs) [] zs p q le = absurd (omega arith)
  shorter_begins (x ∷ xs) (y ∷ ys) [] p q le = let e = p.1 in absurd (cc)
  shorter_begins (x ∷ xs) (y ∷ ys) (z ∷ zs) p q le =
      let e = p.1 in
      let d = q.1 in
      let tail_p : xs ++ p.0 ≡ zs = cc in
      let tail_q : ys ++ q.0 ≡ zs = cc in
      let head : x ≡ y = cc in
      let r = shorter_begins xs ys zs (p.0, tail_p) (q.0, tail_q) (omega arith) in
      (r.0, λ i. head i ∷ r.1 i)

  -- the longer of two beginnings begins with both
  pub longer_begins : (xs ys zs : List E) → IsPrefix xs zs → IsPrefix ys zs → IsPrefix xs (longer xs ys) × IsPrefix ys (longer xs ys) × IsPrefix (longer xs ys) zs
  longer_begins xs ys zs p q = by_test (ltb (length xs) (length ys)) refl
    where
      by_test : (b : Bool) → ltb (length xs) (length ys) ≡ b → IsPrefix xs (if b then ys else xs) × IsPrefix ys (if b then ys else xs) × IsPrefix (if b then ys else xs) zs
      by_test true e = (shorter_begins xs ys zs p q (let l : length xs < length ys = ltb-true _ _ e in omega arith), whole ys, q)
      by_test false e = (whole xs, shorter_begins ys xs zs q p (let l : length ys ≤ length xs = ltb-false _ _ e in l), p)
