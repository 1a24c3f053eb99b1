-- The flag piece in its region, by the squares of the side's pieces.
use Rattle.std.proofs.Common.{◌≡◌, ℕ, ◌<◌, Bool, true, false, ◌&&◌, ◌==◌, not, Option, Some, None, List, refl, sym, ap, ◌∙◌}
use Rattle.std.proofs.lemmas.Bool.{and_from, and_parts}
use Rattle.foundation.proofs.CountLemmas.{any_below-none, any_below-true}
use Rattle.rules_model.specs.declared.board.Cell.{Cell}
use Rattle.rules_model.specs.declared.board.Kind.{Kind}
use Rattle.rules_model.specs.declared.board.Side.{Side}
use Rattle.rules_model.specs.declared.rules.Rules.{Rules}
use Rattle.rules_model.specs.Attacks.{is_own}
use Rattle.rules_model.specs.Ends.{flag_at, has_flag}
use Rattle.rules_model.specs.Kinds.{names}
use Rattle.rules_model.specs.Regions.{in_region}
use Rattle.rules_model.specs.Sides.{same_side}
use Rattle.rules_model.specs.Squares.{cell_at}
use Rattle.square_set.specs.declared.Set.{Set}
use Rattle.square_set.specs.Members.{has, IsWithout}
use Rattle.square_set.proofs.Cases.{by_bool, by_equal}
use Rattle.legality.specs.Flags.{MayHoldFlag}

own_any : (side : Side) (test : Kind → Bool) (o : Option Cell) → is_own side test o ≡ true → is_own side (λ kind. true) o ≡ true
own_any side test None e = cc
own_any side test (Some c) e = and_from (same_side c.side side) true (and_parts (same_side c.side side) (test c.kind) e).0 refl

-- it is a piece of the side in the region
pub flag_stands : (rules : Rules) (cells : List (Option Cell)) (side : Side) (s : ℕ) → flag_at rules cells side s ≡ true
    → (is_own side (λ kind. true) (cell_at cells s) ≡ true) × (in_region rules.flag_region side s ≡ true)
unfolding flag_at
flag_stands rules cells side s e =
    let parts = and_parts (is_own side (names rules.flag_kind) (cell_at cells s)) (in_region rules.flag_region side s) e in
    (own_any side (names rules.flag_kind) (cell_at cells s) parts.0, parts.1)

pub flag_there : (rules : Rules) (cells : List (Option Cell)) (side : Side) (s : ℕ) → s < 120 → is_own side (names rules.flag_kind) (cell_at cells s) ≡ true
    → in_region rules.flag_region side s ≡ true → has_flag rules cells side ≡ true
unfolding flag_at has_flag
flag_there rules cells side s l own lies =
    any_below-true (flag_at rules cells side) 120 s l (and_from (is_own side (names rules.flag_kind) (cell_at cells s)) (in_region rules.flag_region side s) own lies)

-- a variant without a flag kind
unnamed : (side : Side) (o : Option Cell) → is_own side (names None) o ≡ false
unnamed side None = refl
unnamed side (Some c) = by_bool (same_side c.side side) ((same_side c.side side && false) ≡ false) (λ e. rw e refl) (λ e. rw e refl)

pub flag_none : (rules : Rules) (cells : List (Option Cell)) (side : Side) → rules.flag_kind ≡ None → has_flag rules cells side ≡ false
unfolding flag_at has_flag
flag_none rules cells side none =
    any_below-none (flag_at rules cells side) 120
    (λ s l. ap (λ kind. is_own side (names kind) (cell_at cells s) && in_region rules.flag_region side s) none ∙ rw (unnamed side (cell_at cells s)) refl)

-- ---- squares where it may stand

pub flag_among : (rules : Rules) (cells : List (Option Cell)) (side : Side) (men region squares : Set) → ((s : ℕ) → has men s ≡ is_own side (λ kind. true) (cell_at cells s))
    → ((s : ℕ) → has region s ≡ in_region rules.flag_region side s) → ((s : ℕ) → has region s ≡ true → s < 120) → ((s : ℕ) → has squares s ≡ (has men s && has region s)) → MayHoldFlag rules cells side squares
flag_among rules cells side men region squares are is on_board both = record {
  all = λ s e. let stands = flag_stands rules cells side s e in both s ∙ and_from (has men s) (has region s) (are s ∙ stands.0) (is s ∙ stands.1);
  region = λ s e. sym (is s) ∙ (and_parts (has men s) (has region s) (sym (both s) ∙ e)).1;
  on_board = λ s e. on_board s (and_parts (has men s) (has region s) (sym (both s) ∙ e)).1;
}

still : (b c : Bool) → b ≡ true → c ≡ false → (b && not c) ≡ true
still true false e f = refl
still b true e f = cc
still false c e f = cc

-- a square on which it does not stand may go
pub flag_elsewhere : (rules : Rules) (cells : List (Option Cell)) (side : Side) (old : Set) (at : ℕ) (new : Set) → MayHoldFlag rules cells side old → IsWithout old at new
    → is_own side (names rules.flag_kind) (cell_at cells at) ≡ false → MayHoldFlag rules cells side new
unfolding flag_at
flag_elsewhere rules cells side old at new may without other = record {
  all = λ s e.
      let own = (and_parts (is_own side (names rules.flag_kind) (cell_at cells s)) (in_region rules.flag_region side s) e).0 in
      without s ∙ still (has old s) (s == at) (may.all s e) (by_equal s at ((s == at) ≡ false) (λ t q. let here = ap (λ k. is_own side (names rules.flag_kind) (cell_at cells k)) q in cc) (λ t q. t));
  region = λ s e. may.region s (and_parts (has old s) (not (s == at)) (sym (without s) ∙ e)).0;
  on_board = λ s e. may.on_board s (and_parts (has old s) (not (s == at)) (sym (without s) ∙ e)).0;
}

-- none is left
pub flag_nowhere : (rules : Rules) (cells : List (Option Cell)) (side : Side) (left : Set) → MayHoldFlag rules cells side left → ((s : ℕ) → has left s ≡ false) → has_flag rules cells side ≡ false
unfolding has_flag
flag_nowhere rules cells side left may none =
    any_below-none (flag_at rules cells side) 120
    (λ s l. by_bool (flag_at rules cells side s) (flag_at rules cells side s ≡ false) (λ e. let there = may.all s e in let not_there = none s in cc) (λ e. e))
