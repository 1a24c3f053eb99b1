-- The moves to the squares of a set, one by one.
use Rattle.std.proofs.Common.{◌≡◌, ℕ, true, Option, List, [], ◌∷◌, refl, sym, ap, ◌∙◌, subst}
use Rattle.rules_model.specs.declared.board.Kind.{Kind}
use Rattle.rules_model.specs.declared.board.Square.{Square}
use Rattle.rules_model.specs.declared.moves.Move.{Move}
use Rattle.rules_model.specs.declared.moves.Move.TheVariants.{Drop}
use Rattle.square_set.specs.declared.Set.{Set}
use Rattle.square_set.specs.Members.{has}
use Rattle.piece_moves.specs.InTurn.{At, DropsOf, GoesFrom, MadeTo, go_from, target_of}
use Rattle.piece_moves.specs.Taking.{TakesAll, TakesSome}
use Rattle.piece_moves.proofs.TakingLemmas.{all-one, some-within}

module _ (make : Square → Move) (goes_there : (to : Square) → target_of (make to) ≡ to.0) (targets : Set) where
  abbrev made : ℕ → Move
  made to = make (record { 0 = to })

  -- there is one to each of the squares
  one_there : (to : ℕ) → has targets to ≡ true → At (MadeTo make targets) target_of to (made to)
  one_there to member =
      let there = goes_there (record { 0 = to }) in ((ap made there, ap (has targets) there ∙ member), there)

  only_one : (to : ℕ) (m : Move) → At (MadeTo make targets) target_of to m → made to ≡ m
  only_one to m h = ap made (sym h.1) ∙ h.0.0

  pub made-one : {S : Type 0} (takes : S → List Move → S → Type 0) (to : ℕ) (m : Move) (s t : S) → has targets to ≡ true → m ≡ made to → takes s (m ∷ []) t → TakesAll takes (At (MadeTo make targets) target_of to) s t
  made-one takes to m s t member is taken =
      all-one takes (At (MadeTo make targets) target_of to) (made to) s t (subst (λ x. takes s (x ∷ []) t) is taken) (one_there to member) (only_one to)

  pub made-some : {S : Type 0} (stops : S → List Move → S → Type 0) (to : ℕ) (m : Move) (s t : S) → has targets to ≡ true → m ≡ made to → TakesSome stops (λ x. x ≡ m) s t → TakesSome stops (At (MadeTo make targets) target_of to) s t
  made-some stops to m s t member is a =
      some-within stops (λ x. x ≡ m) (At (MadeTo make targets) target_of to) s t a (λ x e. subst (At (MadeTo make targets) target_of to) (sym (e ∙ is)) (one_there to member))

module _ (start : ℕ → Square) (gate : Option Kind) (targets : Set) where
  pub goes-one : {S : Type 0} (takes : S → List Move → S → Type 0) (to : ℕ) (m : Move) (s t : S) → has targets to ≡ true → m ≡ go_from start gate (record { 0 = to }) → takes s (m ∷ []) t → TakesAll takes (At (GoesFrom start gate targets) target_of to) s t
  goes-one takes = made-one (go_from start gate) (λ to. refl) targets takes

  pub goes-some : {S : Type 0} (stops : S → List Move → S → Type 0) (to : ℕ) (m : Move) (s t : S) → has targets to ≡ true → m ≡ go_from start gate (record { 0 = to }) → TakesSome stops (λ x. x ≡ m) s t → TakesSome stops (At (GoesFrom start gate targets) target_of to) s t
  goes-some stops = made-some (go_from start gate) (λ to. refl) targets stops

module _ (kind : Kind) (targets : Set) where
  pub drops-one : {S : Type 0} (takes : S → List Move → S → Type 0) (to : ℕ) (m : Move) (s t : S) → has targets to ≡ true → m ≡ Drop kind (record { 0 = to }) → takes s (m ∷ []) t → TakesAll takes (At (DropsOf kind targets) target_of to) s t
  drops-one takes = made-one (Drop kind) (λ to. refl) targets takes

  pub drops-some : {S : Type 0} (stops : S → List Move → S → Type 0) (to : ℕ) (m : Move) (s t : S) → has targets to ≡ true → m ≡ Drop kind (record { 0 = to }) → TakesSome stops (λ x. x ≡ m) s t → TakesSome stops (At (DropsOf kind targets) target_of to) s t
  drops-some stops = made-some (Drop kind) (λ to. refl) targets stops
