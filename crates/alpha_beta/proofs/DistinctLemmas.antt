-- Moves that are kept once each.
use Rattle.std.proofs.Common.{◌≡◌, inl, inr, ℕ, ◌+◌, ◌<◌, List, [], ◌∷◌, ◌++◌, take, get_or, length, sym, subst}
use Rattle.std.specs.List.Sorted.{IsPermutation}
use Rattle.std.proofs.lemmas.List.{take_more}
use Rattle.std.proofs.lemmas.List.Sorted.{IsPermutation-sym}
use Rattle.foundation.specs.Member.{Member}
use Rattle.foundation.proofs.Members.{member-left, member-permutation, member-right, member-append, once-append}
use Rattle.rules_model.specs.declared.moves.Move.{Move}
use Rattle.alpha_beta.specs.Roots.{AreDistinct}

pub distinct-none : (roots : List Move) → AreDistinct (take 0 roots) []
distinct-none roots = record { once = tt; sound = λ m h. h; complete = λ m h. h }

-- a move more, that is kept already
kept : (roots moves : List Move) (m : Move) → AreDistinct roots moves → Member m moves → AreDistinct (roots ++ m ∷ []) moves
kept roots moves m h k = record {
  once = h.once;
  sound = λ n l. member-left n roots (m ∷ []) (h.sound n l);
  complete = λ n l. elim (member-append n roots (m ∷ []) l) as (λ _. Member n moves) [
    | inl a ↦ h.complete n a
    | inr (inl e) ↦ subst (λ (x : Move). Member x moves) e k
    | inr (inr b) ↦ absurd b
  ];
}

-- or that is put behind the others
added : (roots moves : List Move) (m : Move) → AreDistinct roots moves → (Member m moves → ⊥) → AreDistinct (roots ++ m ∷ []) (moves ++ m ∷ [])
added roots moves m h n = record {
  once = once-append moves (m ∷ []) h.once (λ z. absurd z, tt) (λ x a b. elim b as (λ _. ⊥) [ inl e ↦ n (subst (λ (y : Move). Member y moves) (sym e) a) | inr c ↦ c ]);
  sound = λ x l. elim (member-append x moves (m ∷ []) l) as (λ _. Member x (roots ++ m ∷ [])) [ inl a ↦ member-left x roots (m ∷ []) (h.sound x a) | inr b ↦ member-right x roots (m ∷ []) b ];
  complete = λ x l. elim (member-append x roots (m ∷ []) l) as (λ _. Member x (moves ++ m ∷ [])) [ inl a ↦ member-left x moves (m ∷ []) (h.complete x a) | inr b ↦ member-right x moves (m ∷ []) b ];
}

module _ (roots moves : List Move) (i : ℕ) (m d : Move) (there : i < length roots) (is : m ≡ get_or roots i d) (h : AreDistinct (take i roots) moves) where
  pub distinct-kept : Member m moves → AreDistinct (take (i + 1) roots) moves
  distinct-kept k = rw (take_more roots i d there, sym is) (kept (take i roots) moves m h k)

  pub distinct-added : (Member m moves → ⊥) → AreDistinct (take (i + 1) roots) (moves ++ m ∷ [])
  distinct-added n = rw (take_more roots i d there, sym is) (added (take i roots) moves m h n)

-- the order of the moves does not matter
pub distinct-permuted : (roots sorted moves : List Move) → IsPermutation roots sorted → AreDistinct sorted moves → AreDistinct roots moves
distinct-permuted roots sorted moves same h = record {
  once = h.once;
  sound = λ m k. member-permutation m sorted roots (IsPermutation-sym roots sorted same) (h.sound m k);
  complete = λ m k. h.complete m (member-permutation m roots sorted same k);
}
