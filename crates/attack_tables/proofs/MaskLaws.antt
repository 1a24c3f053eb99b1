-- Laws of ranges and masks, and what no piece attacks.
use Rattle.std.proofs.Common.{◌≡◌, ℕ, ◌+◌, ◌*◌, ◌/◌, ◌%◌, ◌<◌, Bool, true, false, ◌&&◌, not, Option, Some, None, List, inl, inr, refl, ap, sym, ◌∙◌, subst, arith}
use Rattle.std.proofs.lemmas.Bool.{and_cases, and_right}
use Rattle.rules_model.specs.declared.board.Side.{Side}
use Rattle.rules_model.specs.declared.board.Cell.{Cell}
use Rattle.rules_model.specs.declared.rules.Rules.{Rules}
use Rattle.rules_model.specs.Attacks.{attacks_from}
use Rattle.rules_model.specs.Fit.{IsFit}
use Rattle.rules_model.specs.Sides.{same_side, side_index}
use Rattle.rules_model.specs.Squares.{cell_at}
use Rattle.square_set.specs.declared.Set.{Set}
use Rattle.square_set.specs.Members.{has}
use Rattle.square_set.proofs.Cases.{by_bool, by_equal, by_order}
use Rattle.move_tables.specs.declared.mode.Mode.TheVariants.{Take}
use Rattle.move_tables.specs.Occupied.{AreMen, IsOccupied}
use Rattle.move_tables.specs.Reached.{reaches_as}
use Rattle.move_tables.specs.Spots.{side_of}
use Rattle.move_tables.proofs.BuildLaws.{side_back}
use Rattle.move_tables.proofs.ReachLaws.{no_kind}
use Rattle.attack_tables.specs.Masks.{IsMaskBelow}

-- what holds below i and at i holds below i + 1
pub below_next : (P : ℕ → Type 0) (i : ℕ) → ((k : ℕ) → k < i → P k) → P i → (k : ℕ) → k < i + 1 → P k
below_next P i old new k l = by_equal k i (P k) (λ e q. subst P (sym q) new) (λ e q. old k (omega (arith, l, q)))

-- ---- the place of a side's square

part_side : (s f : ℕ) → f < 120 → (s * 120 + f) / 120 ≡ s
part_side s f b = omega (arith, b)

part_square : (s f : ℕ) → f < 120 → (s * 120 + f) % 120 ≡ f
part_square s f b = omega (arith, b)

pub there : (P : Side → ℕ → Type 0) (side : Side) (f i : ℕ) → f < 120 → i ≡ side_index side * 120 + f → P (side_of (i / 120)) (i % 120) → P side f
there P side f i l e h =
    let Of : Side → Type 0 = λ s. P s (i % 120) in
    let On : ℕ → Type 0 = λ n. P side n in
    let a : side_of (i / 120) ≡ side = ap (λ n. side_of (n / 120)) e ∙ ap side_of (part_side (side_index side) f l) ∙ side_back side in
    let b : i % 120 ≡ f = ap (λ n. n % 120) e ∙ part_square (side_index side) f l in
    subst On b (subst Of a h)

-- ---- attacks by reach

pub from_none : (rules : Rules) (cells : List (Option Cell)) (by : Side) (to from : ℕ) → cell_at cells from ≡ None → attacks_from rules cells by to from ≡ false
unfolding attacks_from
from_none rules cells by to from e = rw e refl

pub from_man : (rules : Rules) (cells : List (Option Cell)) (by : Side) (to from : ℕ) (c : Cell) → cell_at cells from ≡ Some c → attacks_from rules cells by to from ≡ (same_side c.side by && reaches_as rules cells by c.kind (record { 0 = from }) Take to)
unfolding attacks_from
from_man rules cells by to from c e = rw e refl

module _ (rules : Rules) (fit : IsFit rules) (board : List (Option Cell)) (by : Side) (at : ℕ) (occupied : Set) (is : IsOccupied occupied board) (mask men : Set) (fits : IsMaskBelow rules by 120 at mask) (own : AreMen by board men) (s : ℕ) (small : s < 120) (out : (has mask s && has men s) ≡ false) where
  masked : (c : Cell) → has mask s ≡ false → reaches_as rules board by c.kind (record { 0 = s }) Take at ≡ false
  masked c h =
      by_order c.kind.0 26 (reaches_as rules board by c.kind (record { 0 = s }) Take at ≡ false)
      (λ l. fits s small h c.kind.0 l occupied board is)
      (λ l. no_kind rules board by c.kind (record { 0 = s }) Take at fit l)

  unmanned : (o : Option Cell) → cell_at board s ≡ o → attacks_from rules board by at s ≡ false
  unmanned None e = from_none rules board by at s e
  unmanned (Some c) e =
      from_man rules board by at s c e ∙
      by_bool (same_side c.side by) ((same_side c.side by && reaches_as rules board by c.kind (record { 0 = s }) Take at) ≡ false)
      (λ t.
      let man : has men s ≡ true = own s ∙ rw e (rw t refl) in
      elim (and_cases (has mask s) (has men s) out) as (λ _. (same_side c.side by && reaches_as rules board by c.kind (record { 0 = s }) Take at) ≡ false) [
        | inl h ↦ and_right (same_side c.side by) (reaches_as rules board by c.kind (record { 0 = s }) Take at) (masked c h)
        | inr h ↦ cc
      ])
      (λ f. rw f refl)

  -- no attack from a square that the masks leave out, nor from one without a man
  pub none_there : attacks_from rules board by at s ≡ false
  none_there = unmanned (cell_at board s) refl

pub and_not : (a b : Bool) → b ≡ false → (a && not b) ≡ false → a ≡ false
and_not true true e f = cc
and_not true false e f = f
and_not false b e f = refl
