-- What attacks no king, by the squares that are occupied.
use Rattle.std.proofs.Common.{◌≡◌, ℕ, ◌<◌, true, false, not, ◌&&◌, ◌||◌, ◌==◌, Option, Some, None, List, inl, inr, refl, sym, ap, ◌∙◌}
use Rattle.std.proofs.lemmas.Bool.{and_cases, and_right}
use Rattle.rules_model.specs.declared.board.Cell.{Cell}
use Rattle.rules_model.specs.declared.board.Side.{Side}
use Rattle.rules_model.specs.declared.rules.Rules.{Rules}
use Rattle.rules_model.specs.Attacks.{attacks_from}
use Rattle.rules_model.specs.Fit.{IsFit}
use Rattle.rules_model.specs.Sides.{same_side}
use Rattle.rules_model.specs.Squares.{cell_at}
use Rattle.square_set.specs.declared.Set.{Set}
use Rattle.square_set.specs.Members.{has}
use Rattle.square_set.proofs.Cases.{by_bool, by_order}
use Rattle.move_tables.specs.declared.mode.Mode.TheVariants.{Take}
use Rattle.move_tables.specs.Occupied.{AreMen, IsOccupied}
use Rattle.move_tables.specs.Reached.{reaches_as}
use Rattle.move_tables.proofs.ReachLaws.{no_kind}
use Rattle.attack_tables.specs.Masks.{IsMaskBelow}
use Rattle.attack_tables.proofs.MaskLaws.{from_man, from_none}
use Rattle.check_moves.specs.Shut.{AreShut}

module _ (rules : Rules) (fit : IsFit rules) (board cells : List (Option Cell)) (by : Side) (at : ℕ) (occupied : Set) (is : IsOccupied occupied board) (mask men : Set) (fits : IsMaskBelow rules by 120 at mask) (own : AreMen by cells men) (s : ℕ) (small : s < 120) (stays : cell_at board s ≡ cell_at cells s) (out : (has mask s && has men s) ≡ false) where
  masked : (c : Cell) → has mask s ≡ false → reaches_as rules board by c.kind (record { 0 = s }) Take at ≡ false
  masked c h =
      by_order c.kind.0 26 (reaches_as rules board by c.kind (record { 0 = s }) Take at ≡ false)
      (λ l. fits s small h c.kind.0 l occupied board is)
      (λ l. no_kind rules board by c.kind (record { 0 = s }) Take at fit l)

  unmanned : (o : Option Cell) → cell_at board s ≡ o → attacks_from rules board by at s ≡ false
  unmanned None e = from_none rules board by at s e
  unmanned (Some c) e =
      from_man rules board by at s c e ∙
      by_bool (same_side c.side by) ((same_side c.side by && reaches_as rules board by c.kind (record { 0 = s }) Take at) ≡ false)
      (λ t.
      let man : has men s ≡ true = own s ∙ rw (sym stays ∙ e) (rw t refl) in
      elim (and_cases (has mask s) (has men s) out) as (λ _. (same_side c.side by && reaches_as rules board by c.kind (record { 0 = s }) Take at) ≡ false) [
        | inl h ↦ and_right (same_side c.side by) (reaches_as rules board by c.kind (record { 0 = s }) Take at) (masked c h)
        | inr h ↦ cc
      ])
      (λ f. rw f refl)

  -- no attack from a square that the masks leave out, nor from one where no man stays
  pub no_stayer : attacks_from rules board by at s ≡ false
  no_stayer = unmanned (cell_at board s) refl

-- a set of the occupied squares is as good as another
pub by_any_set : (rules : Rules) (by : Side) (cells : List (Option Cell)) (a b kings shut : Set) → IsOccupied a cells → IsOccupied b cells → AreShut rules by cells a kings shut → AreShut rules by cells b kings shut
by_any_set rules by cells a b kings shut of_a of_b are from to king moved board on member gone is =
    are from to king moved board on member (λ s. gone s ∙ ap (λ x. (x && not (s == from)) || (s == to)) (of_b s ∙ sym (of_a s))) is
