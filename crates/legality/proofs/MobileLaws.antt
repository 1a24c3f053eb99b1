-- Pieces that reach something on the empty board.
use Rattle.std.proofs.Common.{◌≡◌, ℕ, zero, suc, ◌<◌, ◌≤◌, Bool, true, false, ◌&&◌, ◌||◌, if◌then◌else◌, inl, inr, Option, None, List, [], ◌∷◌, replicate, is_some, slice_get, refl, sym, ap, ◌∙◌, arith}
use Rattle.std.specs.List.{list_any, list_all, filter}
use Rattle.std.proofs.lemmas.Bool.{and_parts, and_right, or_cases}
use Rattle.std.proofs.lemmas.Option.{slice_get_past}
use Rattle.foundation.specs.Count.{any_below}
use Rattle.foundation.proofs.CountLemmas.{any_below-none, any_below-true}
use Rattle.rules_model.specs.declared.board.Cell.{Cell}
use Rattle.rules_model.specs.declared.board.Kind.{Kind}
use Rattle.rules_model.specs.declared.board.Side.{Side}
use Rattle.rules_model.specs.declared.board.Square.{Square}
use Rattle.rules_model.specs.declared.rules.Rules.{Rules}
use Rattle.rules_model.specs.declared.rules.Term.{Term}
use Rattle.rules_model.specs.Squares.{flat}
use Rattle.rules_model.specs.Fit.{IsFit, fits_term}
use Rattle.rules_model.specs.Kinds.{board_of, is_pawn, terms_of, rule_of, rule_terms}
use Rattle.rules_model.specs.Movement.{in_mobility, is_held_back, is_straight, kind_reaches, reaches_by, terms_from}
use Rattle.rules_model.specs.Reach.{reaches}
use Rattle.rules_model.specs.Legal.{empty_board, roams_to}
use Rattle.square_set.specs.declared.Set.{Set}
use Rattle.square_set.specs.Members.{has}
use Rattle.square_set.proofs.CoverLaws.{has-zero}
use Rattle.move_tables.specs.declared.mode.Mode.{Mode}
use Rattle.move_tables.specs.declared.mode.Mode.TheVariants.{Quiet, Take}
use Rattle.move_tables.specs.Occupied.{IsOccupied}
use Rattle.move_tables.specs.Reached.{reaches_as, serves}
use Rattle.move_tables.proofs.BuildLaws.{kind_terms_fit}
use Rattle.move_tables.proofs.ReachLaws.{reach_small}

-- ---- the empty board

abbrev nothing_on : ℕ → List (Option Cell)
nothing_on n = replicate n None

none_on : (n s : ℕ) → flat (slice_get (nothing_on n) s) ≡ None
none_on zero s = refl
none_on (suc n) zero = refl
none_on (suc n) (suc s) = none_on n s

pub empty_occupied : (set : Set) → set.0 ≡ 0 → IsOccupied set empty_board
empty_occupied set e s = has-zero set e s ∙ sym (ap (λ c. is_some c) (none_on 120 s))

-- ---- each term is quiet or takes

serves_some : (t : Term) → fits_term t ≡ true → (t.quiet || t.takes) ≡ true
unfolding fits_term
serves_some t e = (and_parts _ (t.quiet || t.takes) e).1

regroup : (q k b Q K A : Bool) → (q || k) ≡ true → (Q || K) ≡ A → (((q && b) || Q) || ((k && b) || K)) ≡ (b || A)
regroup true true true Q K A e f = refl
regroup true true false Q K A e f = f
regroup true false true Q K A e f = refl
regroup true false false Q K A e f = f
regroup false true true true K A e f = refl
regroup false true true false K A e f = refl
regroup false true false Q K A e f = f
regroup false false b Q K A e f = cc

module _ (rules : Rules) (cells : List (Option Cell)) (side : Side) (from : Square) (s : ℕ) where
  by_either : (ts : List Term) → list_all fits_term ts ≡ true → (list_any (reaches_by rules cells side (serves Quiet) from s) ts || list_any (reaches_by rules cells side (serves Take) from s) ts) ≡ list_any (reaches_by rules cells side (λ t. true) from s) ts
  by_either [] e = refl
  by_either (t ∷ ts) e =
      let h = and_parts (fits_term t) (list_all fits_term ts) e in
      regroup t.quiet t.takes (reaches (board_of rules) cells side t from s) _ _ _ (serves_some t h.0) (by_either ts h.1)

all_kept : (p q : Term → Bool) (ts : List Term) → list_all p ts ≡ true → list_all p (filter q ts) ≡ true
all_kept p q [] e = refl
all_kept p q (t ∷ ts) e =
    let h = and_parts (p t) (list_all p ts) e in
    elim (q t) as (λ b. list_all p (if b then (t ∷ filter q ts) else filter q ts) ≡ true) [
      | true ↦ rw (h.0, all_kept p q ts h.1) refl
      | false ↦ all_kept p q ts h.1
    ]

terms_fit : (rules : Rules) (side : Side) (kind : Kind) (from : Square) → list_all fits_term (terms_of rules kind) ≡ true → list_all fits_term (terms_from rules side kind from) ≡ true
terms_fit rules side kind from e =
    elim (is_held_back rules side kind from) as (λ b. list_all fits_term (if b then filter is_straight (terms_of rules kind) else terms_of rules kind) ≡ true) [
      | true ↦ all_kept fits_term is_straight (terms_of rules kind) e
      | false ↦ e
    ]

share : (m a b : Bool) → ((m && a) || (m && b)) ≡ (m && (a || b))
share true a b = refl
share false a b = refl

-- quietly or to take is by any term
reaches_either : (rules : Rules) (side : Side) (kind : Kind) (from : Square) (s : ℕ) → IsFit rules → kind.0 < 26
    → (kind_reaches rules empty_board side kind (serves Quiet) from s || kind_reaches rules empty_board side kind (serves Take) from s) ≡ roams_to rules side kind from s
unfolding roams_to kind_reaches
reaches_either rules side kind from s fit l =
    share (in_mobility rules side kind s) _ _ ∙ ap (λ b. in_mobility rules side kind s && b) (by_either rules empty_board side from s (terms_from rules side kind from) (terms_fit rules side kind from (kind_terms_fit rules kind fit l)))

as_piece : (rules : Rules) (side : Side) (kind : Kind) (from : Square) (mode : Mode) (s : ℕ) → is_pawn rules kind ≡ false → reaches_as rules empty_board side kind from mode s ≡ kind_reaches rules empty_board side kind (serves mode) from s
as_piece rules side kind from mode s e = rw e refl

module _ (rules : Rules) (side : Side) (kind : Kind) (from : Square) (quiet takes both : Set) (fit : IsFit rules) (low : kind.0 < 26) (piece : is_pawn rules kind ≡ false) (q : (s : ℕ) → has quiet s ≡ reaches_as rules empty_board side kind from Quiet s) (t : (s : ℕ) → has takes s ≡ reaches_as rules empty_board side kind from Take s) (join : (s : ℕ) → has both s ≡ (has quiet s || has takes s)) where
  roams_there : (s : ℕ) → has both s ≡ roams_to rules side kind from s
  roams_there s =
      join s ∙ ap (λ b. b || has takes s) (q s ∙ as_piece rules side kind from Quiet s piece)
      ∙ ap (λ b. kind_reaches rules empty_board side kind (serves Quiet) from s || b) (t s ∙ as_piece rules side kind from Take s piece) ∙ reaches_either rules side kind from s fit low

  within : (s : ℕ) → has both s ≡ true → s < 120
  within s e =
      elim (or_cases (has quiet s) (has takes s) (sym (join s) ∙ e)) as (λ _. s < 120) [
        | inl h ↦ reach_small rules empty_board side kind from Quiet s fit (sym (q s) ∙ h)
        | inr h ↦ reach_small rules empty_board side kind from Take s fit (sym (t s) ∙ h)
      ]

  pub roams_some : (s : ℕ) → has both s ≡ true → any_below (roams_to rules side kind from) 120 ≡ true
  roams_some s e = any_below-true _ 120 s (within s e) (sym (roams_there s) ∙ e)

  pub roams_nowhere : ((s : ℕ) → has both s ≡ false) → any_below (roams_to rules side kind from) 120 ≡ false
  roams_nowhere h = any_below-none _ 120 (λ s l. sym (roams_there s) ∙ h s)

-- ---- kinds that the variant cannot have

no_terms : (rules : Rules) (side : Side) (kind : Kind) (from : Square) → terms_of rules kind ≡ [] → terms_from rules side kind from ≡ []
no_terms rules side kind from e =
    elim (is_held_back rules side kind from) as (λ b. (if b then filter is_straight (terms_of rules kind) else terms_of rules kind) ≡ []) [
      | true ↦ rw e refl
      | false ↦ e
    ]

pub no_kind_roams : (rules : Rules) (side : Side) (kind : Kind) (from : Square) → IsFit rules → 26 ≤ kind.0 → any_below (roams_to rules side kind from) 120 ≡ false
unfolding roams_to kind_reaches
no_kind_roams rules side kind from fit l =
    let none : terms_of rules kind ≡ [] = ap (λ o. rule_terms (rule_of o)) (slice_get_past rules.kinds kind.0 (omega (arith, fit.letters))) in
    any_below-none _ 120 (λ s m. and_right (in_mobility rules side kind s) _ (ap (λ ts. list_any (reaches_by rules empty_board side (λ t. true) from s) ts) (no_terms rules side kind from none)))
