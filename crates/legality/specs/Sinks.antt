-- Sinks that look for a move that passes a test, that count those that pass, and that keep them.
use Rattle.std.proofs.Common.{◌≡◌, ℕ, ◌+◌, ◌≤◌, Bool, true, false, ◌||◌, cond, List, [], ◌∷◌, ◌++◌, length, min, refl, sym, ap, ◌∙◌, subst, arith, append-nil, append_assoc}
use Rattle.std.specs.List.{list_any, filter}
use Rattle.rules_model.specs.declared.moves.Move.{Move}
use Rattle.piece_moves.specs.Taking.{IsSink}

-- ---- until one passes

-- none of them passed, and nothing has changed
abbrev pub NonePassed : {S : Type 0} → (S → Move → Bool) → S → List Move → S → Type 0
NonePassed test old ms new = (new ≡ old) × (list_any (test old) ms ≡ false)

-- one of them passed
abbrev pub SomePassed : {S : Type 0} → (S → Move → Bool) → S → List Move → S → Type 0
SomePassed test old ms new = (new ≡ old) × (list_any (test old) ms ≡ true)

any_both : {X : Type 0} (p : X → Bool) (b : Bool) (xs ys : List X) → list_any p xs ≡ false → list_any p ys ≡ b
    → list_any p (xs ++ ys) ≡ b
any_both p b [] ys e f = f
any_both p b (x ∷ xs) ys e f =
    elim (p x) as (λ c. (c || list_any p xs) ≡ false → (c || list_any p (xs ++ ys)) ≡ b)
    [ true ↦ λ g. cc | false ↦ λ g. any_both p b xs ys g f ] e

any_on : {S : Type 0} (test : S → Move → Bool) (b : Bool) (s t u : S) (xs ys : List Move) → NonePassed test s xs t
    → (u ≡ t) × (list_any (test t) ys ≡ b) → (u ≡ s) × (list_any (test s) (xs ++ ys) ≡ b)
any_on test b s t u xs ys e f =
    (f.0 ∙ e.0, any_both (test s) b xs ys e.1 (subst (λ v. list_any (test v) ys ≡ b) e.0 f.1))

pub seeker_is_sink : {S : Type 0} (test : S → Move → Bool) → IsSink (NonePassed test) (SomePassed test)
seeker_is_sink test = record {
  none = λ s. (refl, refl);
  on = λ s t u xs ys e f. any_on test false s t u xs ys e f;
  full = λ s t u xs ys e f. any_on test true s t u xs ys e f;
}

-- ---- how many pass

-- the key is as it was, and the count rose by those that passed, up to the top
abbrev pub Counted : {S K : Type 0} → (S → K) → (S → ℕ) → (K → Move → Bool) → ℕ → S → List Move → S → Type 0
Counted key count test top old ms new =
    (key new ≡ key old) × (count old ≤ top → count new ≡ min (count old + length (filter (test (key old)) ms)) top)

abbrev pub Never : {S : Type 0} → S → List Move → S → Type 0
Never old ms new = ⊥

filter_both : {X : Type 0} (p : X → Bool) (xs ys : List X)
    → length (filter p (xs ++ ys)) ≡ length (filter p xs) + length (filter p ys)
filter_both p [] ys = omega arith
filter_both p (x ∷ xs) ys =
    elim (p x) as (λ b. length (cond b (x ∷ filter p (xs ++ ys)) (filter p (xs ++ ys)))
    ≡ length (cond b (x ∷ filter p xs) (filter p xs)) + length (filter p ys)) [
      | true ↦ omega (arith, filter_both p xs ys)
      | false ↦ filter_both p xs ys
    ]

raised : (a b c n m top : ℕ) → b ≡ min (a + n) top → c ≡ min (b + m) top → c ≡ min (a + (n + m)) top
raised a b c n m top e f = omega (arith, e, f)

pub counter_is_sink : {S K : Type 0} (key : S → K) (count : S → ℕ) (test : K → Move → Bool) (top : ℕ)
    → IsSink (Counted key count test top) Never
counter_is_sink key count test top = record {
  none = λ s. (refl, λ l. omega arith);
  on = λ s t u xs ys e f. (
    f.0 ∙ e.0,
    λ l.
        let first = e.1 l in
        let second : count u ≡ min (count t + length (filter (test (key s)) ys)) top
        = subst (λ k. count u ≡ min (count t + length (filter (test k) ys)) top) e.0 (f.1 (omega (arith, first))) in
        rw (filter_both (test (key s)) xs ys)
        (raised (count s) (count t) (count u) (length (filter (test (key s)) xs))
        (length (filter (test (key s)) ys)) top first second),
  );
  full = λ s t u xs ys e f. f;
}

-- ---- those that pass

-- the key is as it was, and at the end of the list are those that passed
abbrev pub Kept : {S K : Type 0} → (S → K) → (S → List Move) → (K → Move → Bool) → S → List Move → S → Type 0
Kept key list test old ms new = (key new ≡ key old) × (list new ≡ list old ++ filter (test (key old)) ms)

filter_append : {X : Type 0} (p : X → Bool) (xs ys : List X) → filter p (xs ++ ys) ≡ filter p xs ++ filter p ys
filter_append p [] ys = refl
filter_append p (x ∷ xs) ys =
    elim (p x) as (λ b. cond b (x ∷ filter p (xs ++ ys)) (filter p (xs ++ ys))
    ≡ cond b (x ∷ filter p xs) (filter p xs) ++ filter p ys) [
      | true ↦ ap (λ l. x ∷ l) (filter_append p xs ys)
      | false ↦ filter_append p xs ys
    ]

kept_on : {S K : Type 0} (key : S → K) (list : S → List Move) (test : K → Move → Bool) (s t u : S) (xs ys : List Move)
    → Kept key list test s xs t → Kept key list test t ys u → Kept key list test s (xs ++ ys) u
kept_on key list test s t u xs ys e f = (
  f.0 ∙ e.0,
  f.1 ∙ ap (λ k. list t ++ filter (test k) ys) e.0 ∙ ap (λ l. l ++ filter (test (key s)) ys) e.1
      ∙ append_assoc (list s) (filter (test (key s)) xs) (filter (test (key s)) ys)
      ∙ ap (λ l. list s ++ l) (sym (filter_append (test (key s)) xs ys)),
)

pub keeper_is_sink : {S K : Type 0} (key : S → K) (list : S → List Move) (test : K → Move → Bool)
    → IsSink (Kept key list test) (Kept key list test)
keeper_is_sink key list test = record {
  none = λ s. (refl, sym (append-nil (list s)));
  on = λ s t u xs ys e f. kept_on key list test s t u xs ys e f;
  full = λ s t u xs ys e f. kept_on key list test s t u xs ys e f;
}
