-- A kind of which all terms are of both modes reaches the same squares in each.
use Rattle.std.proofs.Common.{◌≡◌, ℕ, Bool, true, false, ◌&&◌, Option, List, [], ◌∷◌, refl, ap}
use Rattle.std.specs.Bool.{OnTrue}
use Rattle.std.specs.List.{list_all, list_any, filter}
use Rattle.std.proofs.lemmas.Bool.{and_from, and_parts}
use Rattle.rules_model.specs.declared.board.Cell.{Cell}
use Rattle.rules_model.specs.declared.board.Kind.{Kind}
use Rattle.rules_model.specs.declared.board.Side.{Side}
use Rattle.rules_model.specs.declared.board.Square.{Square}
use Rattle.rules_model.specs.declared.rules.Rules.{Rules}
use Rattle.rules_model.specs.declared.rules.Term.{Term}
use Rattle.rules_model.specs.Kinds.{is_pawn, terms_of}
use Rattle.rules_model.specs.Movement.{in_mobility, is_held_back, is_straight, kind_reaches, reaches_by, terms_from}
use Rattle.square_set.proofs.Cases.{by_bool}
use Rattle.move_tables.specs.declared.mode.Mode.TheVariants.{Quiet, Take}
use Rattle.move_tables.specs.Reached.{serves}
use Rattle.attack_tables.specs.Goals.{IsAlike, has_both}

both_modes : (a b : Bool) → (a && b) ≡ true → a ≡ b
both_modes true true e = refl
both_modes true false e = cc
both_modes false b e = cc

straight_both : (terms : List Term) → list_all has_both terms ≡ true → list_all has_both (filter is_straight terms) ≡ true
straight_both [] e = refl
straight_both (x ∷ xs) e =
    let h = and_parts (has_both x) (list_all has_both xs) e in
    by_bool (is_straight x) (list_all has_both (filter is_straight (x ∷ xs)) ≡ true)
    (λ s. rw s (and_from (has_both x) (list_all has_both (filter is_straight xs)) h.0 (straight_both xs h.1)))
    (λ s. rw s (straight_both xs h.1))

module _ (rules : Rules) (cells : List (Option Cell)) (side : Side) (from : Square) (t : ℕ) where
  same_any : (terms : List Term) → list_all has_both terms ≡ true → list_any (reaches_by rules cells side (serves Quiet) from t) terms ≡ list_any (reaches_by rules cells side (serves Take) from t) terms
  same_any [] e = refl
  same_any (x ∷ xs) e =
      let h = and_parts (has_both x) (list_all has_both xs) e in
      rw (both_modes x.quiet x.takes h.0, same_any xs h.1) refl

  from_both : (kind : Kind) → list_all has_both (terms_of rules kind) ≡ true → list_all has_both (terms_from rules side kind from) ≡ true
  from_both kind e =
      by_bool (is_held_back rules side kind from) (list_all has_both (terms_from rules side kind from) ≡ true)
      (λ s. rw s (straight_both (terms_of rules kind) e))
      (λ s. rw s e)

pub alike : (rules : Rules) (kind : Kind) → is_pawn rules kind ≡ false → list_all has_both (terms_of rules kind) ≡ true → IsAlike rules kind
unfolding kind_reaches
alike rules kind p e = λ cells side from t.
    rw p (ap (λ b. in_mobility rules side kind t && b) (same_any rules cells side from t (terms_from rules side kind from) (from_both rules cells side from t kind e)))

-- ---- what is known where a test passes

pub known : {P : Type 0} (b : Bool) → (b ≡ true → P) → OnTrue b P
known true f = f refl
known false f = tt

pub holds : {P : Type 0} (b : Bool) → b ≡ true → OnTrue b P → P
holds true e p = p
holds false e p = cc
