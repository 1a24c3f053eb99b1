-- Chains through a list grow with it, and pass every entry of their bucket.
use Rattle.std.proofs.Common.{◌≡◌, ◌≢◌, ℕ, zero, suc, ◌+◌, ◌-◌, ◌<◌, ◌≤◌, List, [], ◌∷◌, ◌++◌, length, get_or, set, replicate, refl, ap, sym, ◌∙◌, subst, arith, length-set}
use Rattle.std.proofs.lemmas.List.{get_or_append_left, get_or_push, get_or-set_same, get_or-set_other, length_push}
use native.Mathlib.Decide.{ℕ_discrete}
use mathlib.Core.Logic.{dite}
use Rattle.key_index.specs.Index.{IsLast, IsIndex, InChain}

-- ---- the index grows

longer : (bs ys : List ℕ) (b m at : ℕ) → m ≤ length bs → IsLast bs b m at → IsLast (bs ++ ys) b m at
longer bs ys b m at l last = record {
  low = last.low;
  here = λ some. let low = last.low in get_or_append_left bs ys 0 (at - 1) (omega arith) ∙ last.here some;
  none = λ k from to same. last.none k from to (sym (get_or_append_left bs ys 0 k (omega arith)) ∙ same);
}

-- the new entry is the last of its bucket
newest : (bs : List ℕ) (b : ℕ) → IsLast (bs ++ b ∷ []) b (length bs + 1) (length bs + 1)
newest bs b = record {
  low = omega arith;
  here = λ some. get_or_push bs b 0 (length bs + 1 - 1) (omega arith);
  none = λ k from to same. absurd (omega arith);
}

-- it is none of another bucket
passed_over : (bs : List ℕ) (b c at : ℕ) → c ≢ b → IsLast bs c (length bs) at → IsLast (bs ++ b ∷ []) c (length bs + 1) at
passed_over bs b c at apart last = record {
  low = let low = last.low in omega arith;
  here = (longer bs (b ∷ []) c (length bs) at (omega arith) last).here;
  none = λ k from to same.
      dite (ℕ_discrete k (length bs))
      (λ e. apart (sym same ∙ get_or_push bs b 0 k (sym e)))
      (λ e. (longer bs (b ∷ []) c (length bs) at (omega arith) last).none k from (omega arith) same);
}

pub pushed : (bs heads links : List ℕ) (b : ℕ) → IsIndex bs heads links → b < length heads → IsIndex (bs ++ b ∷ []) (set heads b (length bs + 1)) (links ++ get_or heads b 0 ∷ [])
pushed bs heads links b index l = record {
  linked = let e = index.linked in omega (arith, length_push links (get_or heads b 0), length_push bs b);
  heads_are = head;
  links_are = link;
}
  where
    head : (c : ℕ) → c < length (set heads b (length bs + 1)) → IsLast (bs ++ b ∷ []) c (length (bs ++ b ∷ [])) (get_or (set heads b (length bs + 1)) c 0)
    head c below =
        let P : ℕ → ℕ → ℕ → Type 0 = λ x n at. IsLast (bs ++ b ∷ []) x n at in
        let size = length_push bs b in
        dite (ℕ_discrete c b)
        (λ e.
        let at : get_or (set heads b (length bs + 1)) c 0 ≡ length bs + 1 = ap (λ x. get_or (set heads b (length bs + 1)) x 0) e ∙ get_or-set_same heads b (length bs + 1) 0 l in
        let named = subst (λ x. P x (length bs + 1) (length bs + 1)) (sym e) (newest bs b) in
        subst (λ n. P c n (get_or (set heads b (length bs + 1)) c 0)) (sym size) (subst (λ a. P c (length bs + 1) a) (sym at) named))
        (λ apart.
        let at : get_or (set heads b (length bs + 1)) c 0 ≡ get_or heads c 0 = get_or-set_other heads b c (length bs + 1) 0 apart in
        let within : c < length heads = omega (arith, length-set heads b (length bs + 1)) in
        let old = passed_over bs b c (get_or heads c 0) apart (index.heads_are c within) in
        subst (λ n. P c n (get_or (set heads b (length bs + 1)) c 0)) (sym size) (subst (λ a. P c (length bs + 1) a) (sym at) old))

    link : (i : ℕ) → i < length (bs ++ b ∷ []) → IsLast (bs ++ b ∷ []) (get_or (bs ++ b ∷ []) i 0) i (get_or (links ++ get_or heads b 0 ∷ []) i 0)
    link i below =
        let P : ℕ → ℕ → Type 0 = λ x at. IsLast (bs ++ b ∷ []) x i at in
        let linked = index.linked in
        dite (ℕ_discrete i (length bs))
        (λ e.
        let own : get_or (bs ++ b ∷ []) i 0 ≡ b = get_or_push bs b 0 i (sym e) in
        let at : get_or (links ++ get_or heads b 0 ∷ []) i 0 ≡ get_or heads b 0 = get_or_push links (get_or heads b 0) 0 i (linked ∙ sym e) in
        let last = longer bs (b ∷ []) b (length bs) (get_or heads b 0) (omega arith) (index.heads_are b l) in
        let here : P b (get_or heads b 0) = subst (λ n. IsLast (bs ++ b ∷ []) b n (get_or heads b 0)) (sym e) last in
        subst (λ a. P (get_or (bs ++ b ∷ []) i 0) a) (sym at) (subst (λ x. P x (get_or heads b 0)) (sym own) here))
        (λ apart.
        let within : i < length bs = omega (arith, length_push bs b) in
        let own : get_or (bs ++ b ∷ []) i 0 ≡ get_or bs i 0 = get_or_append_left bs (b ∷ []) 0 i within in
        let at : get_or (links ++ get_or heads b 0 ∷ []) i 0 ≡ get_or links i 0 = get_or_append_left links (get_or heads b 0 ∷ []) 0 i (omega arith) in
        let last = longer bs (b ∷ []) (get_or bs i 0) i (get_or links i 0) (omega arith) (index.links_are i within) in
        subst (λ a. P (get_or (bs ++ b ∷ []) i 0) a) (sym at) (subst (λ x. P x (get_or links i 0)) (sym own) last))

pub empty : (n : ℕ) → IsIndex [] (replicate n 0) []
empty n = record {
  linked = refl;
  heads_are = λ b l.
      let at : ◌≡◌ {A = ℕ} (get_or (replicate n 0) b 0) 0 = replicated n b in
      record { low = omega arith; here = λ some. absurd (omega arith); none = λ k from to same. absurd (omega arith) };
  links_are = λ i l. absurd (omega arith);
}
  where
    replicated : (n b : ℕ) → ◌≡◌ {A = ℕ} (get_or (replicate n 0) b 0) 0
    replicated zero b = refl
    replicated (suc n) zero = refl
    replicated (suc n) (suc b) = replicated n b

-- ---- a walk

pub chained : (bs : List ℕ) (b n at : ℕ) → n ≤ length bs → IsLast bs b n at → InChain bs b at
chained bs b n at l last = record { low = let low = last.low in omega arith; here = last.here }
