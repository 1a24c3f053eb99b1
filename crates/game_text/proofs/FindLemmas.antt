-- The first element of a list that passes a test.
use Rattle.std.proofs.Common.{◌≡◌, Bool, cond, true, false, List, [], ◌∷◌, inl, inr, Some, None, refl, sym, ap, subst, ◌∙◌}
use Rattle.std.specs.List.{find}
use Rattle.std.proofs.lemmas.Bool.{false≢true}
use Rattle.foundation.specs.Member.{Member}

-- what is found is in the list, and passes
pub record IsFoundIn {X : Type 0} (test : X → Bool) (xs : List X) (x : X) : Type 0 where
  pub member : Member x xs
  pub passes : test x ≡ true

pub found-in : {X : Type 0} (test : X → Bool) (xs : List X) (x : X) → find test xs ≡ Some x → IsFoundIn test xs x
found-in test [] x is = cc
found-in test (y ∷ ys) x is = go (test y) refl is (λ more. found-in test ys x more)
  where
    go : (b : Bool) → test y ≡ b → cond b (Some y) (find test ys) ≡ Some x → (find test ys ≡ Some x → IsFoundIn test ys x) → IsFoundIn test (y ∷ ys) x
    go true passes is later = let same : y ≡ x = cc in record { member = inl same; passes = subst (λ z. test z ≡ true) same passes }
    go false fails is later = let found = later is in record { member = inr found.member; passes = found.passes }

-- the only one that passes is found
pub found-only : {X : Type 0} (test : X → Bool) (xs : List X) (x : X) → Member x xs → test x ≡ true → ((y : X) → Member y xs → test y ≡ true → y ≡ x) → find test xs ≡ Some x
found-only test [] x member passes only = absurd member
found-only test (y ∷ ys) x member passes only = go (test y) refl (λ later. found-only test ys x later passes (λ z m p. only z (inr m) p))
  where
    go : (b : Bool) → test y ≡ b → (Member x ys → find test ys ≡ Some x) → cond b (Some y) (find test ys) ≡ Some x
    go true is later = ap Some (only y (inl refl) is)
    go false fails later = elim member [
      | inl same ↦ absurd (false≢true (sym fails ∙ ap test same ∙ passes))
      | inr member ↦ later member
    ]

-- where none passes, none is
pub found-none : {X : Type 0} (test : X → Bool) (xs : List X) → ((y : X) → Member y xs → test y ≡ true → ⊥) → find test xs ≡ None
found-none test [] none = refl
found-none test (y ∷ ys) none = go (test y) refl (found-none test ys (λ z m p. none z (inr m) p))
  where
    go : (b : Bool) → test y ≡ b → find test ys ≡ None → cond b (Some y) (find test ys) ≡ None
    go true is later = absurd (none y (inl refl) is)
    go false fails later = later
