-- What a list makes of a fact that is published, and what a step keeps true.
use Rattle.std.proofs.Common.{◌≡◌, ℕ, ◌<◌, ◌≤◌, arith, Bool, true, false, List, [], ◌∷◌, ◌++◌, length, refl, ap, ◌∙◌, append-nil, ◌||◌, if◌then◌else◌, None, Some}
use Rattle.std.proofs.lemmas.Bool.{le-leb}
use Rattle.std.proofs.lemmas.Bool.Decides.{nat_tests}
use Rattle.forced_wins.specs.declared.fact.Fact.{Fact}
use Rattle.mate_core.specs.declared.event.Reply.TheVariants.{Stored, KnownBetter, Full}
use Rattle.mate_core.specs.Best.{has_better, is_full, stored}
use Rattle.mate_core.specs.Steps.{published, grown, facts}

not_full : (capacity : ℕ) (fs : List Fact) → length fs < capacity → is_full capacity fs ≡ false
not_full capacity fs l = grind (arith, nat_tests)

module _ (capacity : ℕ) (fs : List Fact) (f : Fact) where
  stored_of : (b c : Bool) → has_better fs f ≡ b → is_full capacity fs ≡ c → stored capacity fs f ≡ (if b || c then None else Some f)
  stored_of b c known full = ap (λ x. if x || is_full capacity fs then None else Some f) known ∙ ap (λ x. if b || x then None else Some f) full

  published_of : (b c : Bool) → has_better fs f ≡ b → is_full capacity fs ≡ c → published capacity fs f ≡ (if b then KnownBetter else if c then Full else Stored)
  published_of b c known full = ap (λ x. if x then KnownBetter else if is_full capacity fs then Full else Stored) known ∙ ap (λ x. if b then KnownBetter else if x then Full else Stored) full

  unchanged : stored capacity fs f ≡ None → grown capacity fs f ≡ fs
  unchanged e = ap (λ o. fs ++ facts o) e ∙ append-nil fs

  -- a fact of the list is as good
  pub published-known : has_better fs f ≡ true → (published capacity fs f ≡ KnownBetter) × (stored capacity fs f ≡ None) × (grown capacity fs f ≡ fs)
  published-known known =
      let full = is_full capacity fs in
      let kept = stored_of true full known refl in
      (published_of true full known refl, kept, unchanged kept)

  -- none is, and the list is full
  pub published-full : has_better fs f ≡ false → capacity ≤ length fs → (published capacity fs f ≡ Full) × (stored capacity fs f ≡ None) × (grown capacity fs f ≡ fs)
  published-full known l =
      let full = le-leb capacity (length fs) l in
      let kept = stored_of false true known full in
      (published_of false true known full, kept, unchanged kept)

  -- none is, and there is a place
  pub published-stored : has_better fs f ≡ false → length fs < capacity → (published capacity fs f ≡ Stored) × (stored capacity fs f ≡ Some f) × (grown capacity fs f ≡ fs ++ f ∷ [])
  published-stored known l =
      let full = not_full capacity fs l in
      let taken = stored_of false false known full in
      (published_of false false known full, taken, ap (λ o. fs ++ facts o) taken)
