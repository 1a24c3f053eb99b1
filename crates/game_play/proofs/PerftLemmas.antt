-- How many lists of legal moves there are, ply by ply.
use Rattle.std.proofs.Common.{◌≡◌, inl, inr, ℕ, zero, suc, ◌+◌, ◌-◌, ◌<◌, ◌≤◌, min, List, [], ◌∷◌, ◌++◌, map, length, take, drop, get_or, refl, ap, sym, ◌∙◌, subst, arith}
use Rattle.std.specs.List.{sum_by}
use Rattle.std.proofs.Math.Seq.{take-append_seam, drop-append_seam, get_or-append_right}
use Rattle.std.proofs.lemmas.List.{length-map, length-append, length-drop, get_or-drop}
use Rattle.std.proofs.lemmas.List.Concat.{length-flat_map}
use Rattle.std.proofs.lemmas.List.Sums.{sum_by-cons, sum_by-append, sum_by_more}
use Rattle.foundation.specs.Member.{Member, IsEachOnce, Appends}
use Rattle.foundation.proofs.Members.{member-contains}
use Rattle.rules_model.specs.declared.board.Position.{Position}
use Rattle.rules_model.specs.declared.moves.Move.{Move}
use Rattle.rules_model.specs.declared.rules.Rules.{Rules}
use Rattle.rules_model.specs.Legal.{legal}
use Rattle.rules_model.specs.Next.{next}
use Rattle.rules_model.specs.Repeats.{repeat_of}
use Rattle.rules_model.proofs.LegalLaws.{legal-once}
use Rattle.game_play.specs.Perft.{lines, perft}

pub perft-none : (rules : Rules) (p : Position) → perft rules 0 p ≡ 1
unfolding perft lines
perft-none rules p = refl

perft-suc : (rules : Rules) (n : ℕ) (p : Position) → perft rules (suc n) p ≡ sum_by (λ m. perft rules n (next rules p m)) (legal rules (repeat_of p))
unfolding perft lines
perft-suc rules n p =
    length-flat_map (λ m. map (λ ms. m ∷ ms) (lines rules n (next rules p m))) (legal rules (repeat_of p))
    ∙ λ i. sum_by (λ m. length-map (lines rules n (next rules p m)) (λ ms. m ∷ ms) i) (legal rules (repeat_of p))

pub perft-more : (rules : Rules) (n : ℕ) (p : Position) → 0 < n → perft rules n p ≡ sum_by (λ m. perft rules (n - 1) (next rules p m)) (legal rules (repeat_of p))
perft-more rules zero p h = absurd (omega arith)
perft-more rules (suc n) p h =
    let e : n ≡ suc n - 1 = omega arith in
    perft-suc rules n p ∙ ap (λ k. sum_by (λ m. perft rules k (next rules p m)) (legal rules (repeat_of p))) e

sum-ones : {X : Type 0} (f : X → ℕ) → ((x : X) → f x ≡ 1) → (xs : List X) → sum_by f xs ≡ length xs
sum-ones f h [] = refl
sum-ones f h (x ∷ xs) =
    let e = sum_by-cons f x xs in
    let k = sum-ones f h xs in
    let l = h x in omega arith

-- one ply: as many as there are legal moves
pub perft-one : (rules : Rules) (p : Position) → perft rules 1 p ≡ length (legal rules (repeat_of p))
perft-one rules p = perft-suc rules 0 p ∙ sum-ones (λ m. perft rules 0 (next rules p m)) (λ m. perft-none rules (next rules p m)) (legal rules (repeat_of p))

-- what is counted for the last ply
pub perft-last : (rules : Rules) (plies : ℕ) (p q : Position) (n top : ℕ) → plies ≡ 1 → p ≡ q → n ≡ min (length (legal rules (repeat_of p))) top → n ≡ min (perft rules plies q) top
perft-last rules plies p q n top one same is =
    is ∙ ap (λ k. min k top) (sym (perft-one rules p) ∙ ap (λ k. perft rules k p) (sym one)) ∙ ap (λ x. min (perft rules plies x) top) same

-- ---- a sum does not depend on the order

-- a list is what stands before an element, the element and what stands behind it
pub record Cut {X : Type 0} (x : X) (xs : List X) : Type 0 where
  pub before : List X
  pub after : List X
  pub is : xs ≡ before ++ x ∷ after

cut-at : {X : Type 0} (x : X) (xs : List X) → Member x xs → Cut x xs
cut-at x [] m = absurd m
cut-at x (y ∷ ys) (inl e) = record { before = []; after = ys; is = ap (λ z. z ∷ ys) e }
cut-at x (y ∷ ys) (inr m) = let c = cut-at x ys m in record { before = y ∷ c.before; after = c.after; is = ap (λ zs. y ∷ zs) c.is }

-- without an element that stands once, the others are there
member-uncut : {X : Type 0} (x z : X) (before after : List X) → Member z (before ++ x ∷ after) → (x ≡ z → ⊥) → Member z (before ++ after)
member-uncut x z [] after (inl e) n = absurd (n e)
member-uncut x z [] after (inr m) n = m
member-uncut x z (y ∷ ys) after (inl e) n = inl e
member-uncut x z (y ∷ ys) after (inr m) n = inr (member-uncut x z ys after m n)

member-cut : {X : Type 0} (x z : X) (before after : List X) → Member z (before ++ after) → Member z (before ++ x ∷ after)
member-cut x z [] after m = inr m
member-cut x z (y ∷ ys) after (inl e) = inl e
member-cut x z (y ∷ ys) after (inr m) = inr (member-cut x z ys after m)

once-uncut : {X : Type 0} (x : X) (before after : List X) → IsEachOnce (before ++ x ∷ after) → IsEachOnce (before ++ after) × (Member x (before ++ after) → ⊥)
once-uncut x [] after h = (h.1, h.0)
once-uncut x (y ∷ ys) after h =
    let k = once-uncut x ys after h.1 in
    ((λ m. h.0 (member-cut x y ys after m), k.0), λ m. elim m as (λ _. ⊥) [ inl e ↦ h.0 (at-cut x y ys after (sym e)) | inr l ↦ k.1 l ])
  where
    at-cut : {X : Type 0} (x y : X) (before after : List X) → x ≡ y → Member y (before ++ x ∷ after)
    at-cut x y [] after e = inl e
    at-cut x y (z ∷ zs) after e = inr (at-cut x y zs after e)

-- two lists of the same elements, each once, have one sum
pub same-sum : {X : Type 0} (f : X → ℕ) (xs ys : List X) → IsEachOnce xs → IsEachOnce ys → ((x : X) → Member x xs → Member x ys) → ((x : X) → Member x ys → Member x xs) → sum_by f xs ≡ sum_by f ys
same-sum f [] [] a b to from = refl
same-sum f [] (y ∷ ys) a b to from = absurd (from y (inl refl))
same-sum {X = X} f (x ∷ xs) ys a b to from =
    let c = cut-at x ys (to x (inl refl)) in
    let o = once-uncut x c.before c.after (subst IsEachOnce c.is b) in
    let rest = same-sum f xs (c.before ++ c.after) a.1 o.0
    (λ z m. member-uncut x z c.before c.after (subst (Member z) c.is (to z (inr m))) (λ e. a.0 (subst (λ w. Member w xs) (sym e) m)))
    (λ z m. elim (from z (subst (Member z) (sym c.is) (member-cut x z c.before c.after m))) as (λ _. Member z xs) [ inl e ↦ absurd (o.1 (subst (λ w. Member w (c.before ++ c.after)) (sym e) m)) | inr k ↦ k ]) in
    let one = sum_by-cons f x xs in
    let all = ap (sum_by f) c.is in
    let parts = sum_by-append f c.before (x ∷ c.after) in
    let tail = sum_by-cons f x c.after in
    let whole = sum_by-append f c.before c.after in
    omega arith

-- ---- what is appended to a list

module _ {X : Type 0} (P : X → Type 0) (old new : List X) (h : Appends P old new) where
  -- an element behind the old ones is one that was appended
  pub appended-at : (i : ℕ) (x : X) → length old ≤ i → i < length new → x ≡ get_or new i x → P x
  appended-at i x low high e =
      let l = length-append old h.added in
      let k = ap length h.is in
      h.each.sound x (member-contains x h.added (i - length old, omega arith, sym (e ∙ ap (λ xs. get_or xs i x) h.is ∙ get_or-append_right old h.added i x low)))

  pub appended-is : drop (length old) new ≡ h.added
  appended-is = ap (drop (length old)) h.is ∙ drop-append_seam old h.added

  pub appended-front : take (length old) new ≡ old
  appended-front = ap (take (length old)) h.is ∙ take-append_seam old h.added

-- the sum of one element more, where sums end at a greatest number
pub sum-more : {X : Type 0} (f : X → ℕ) (new : List X) (first i most t u s : ℕ) (x : X) → first ≤ i → i < length new → x ≡ get_or new i x →
    t ≡ min (sum_by f (take (i - first) (drop first new))) most → u ≡ min (f x) most → s ≡ min (t + u) most →
    s ≡ min (sum_by f (take (i + 1 - first) (drop first new))) most
sum-more f new first i most t u s x low high e et eu es =
    let l = length-drop first new in
    let more = sum_by_more f (drop first new) (i - first) x (omega arith) in
    let at : get_or (drop first new) (i - first) x ≡ x = get_or-drop first new (i - first) x ∙ ap (λ k. get_or new k x) (let j : first + (i - first) ≡ i = omega arith in j) ∙ sym e in
    let value = ap f at in
    let place : i + 1 - first ≡ i - first + 1 = omega arith in
    let whole = ap (λ k. sum_by f (take k (drop first new))) place in
    sum_up (sum_by f (take (i - first) (drop first new))) (f x) (sum_by f (take (i + 1 - first) (drop first new))) most t u s (omega arith) et eu es
  where
    sum_up : (a b c most t u s : ℕ) → c ≡ a + b → t ≡ min a most → u ≡ min b most → s ≡ min (t + u) most → s ≡ min c most
    sum_up a b c most t u s e et eu es = omega arith

-- what was listed of the legal moves, summed up
pub listed-perft : (rules : Rules) (p : Position) (n : ℕ) (old new : List Move) → Appends (λ m. Member m (legal rules (repeat_of p))) old new → 0 < n →
    sum_by (λ m. perft rules (n - 1) (next rules p m)) (drop (length old) new) ≡ perft rules n p
listed-perft rules p n old new h pos =
    let f = λ (m : Move). perft rules (n - 1) (next rules p m) in
    ap (sum_by f) (appended-is (λ m. Member m (legal rules (repeat_of p))) old new h)
    ∙ same-sum f h.added (legal rules (repeat_of p)) h.each.once (legal-once rules (repeat_of p)) h.each.sound h.each.complete
    ∙ sym (perft-more rules n p pos)
