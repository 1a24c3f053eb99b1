-- Moves that are no evasion: a king that is attacked stays so.
use Rattle.std.proofs.Common.{◌≡◌, ℕ, ◌<◌, Bool, true, false, not, ◌&&◌, ◌==◌, None, Some, length, refl, sym, ap, ◌∙◌}
use Rattle.std.proofs.lemmas.Bool.{and_parts, eq-eqb, not-true}
use Rattle.square_set.proofs.CoverLaws.{has-zero}
use Rattle.square_set.specs.declared.Set.{Set}
use Rattle.square_set.specs.Members.{has}
use Rattle.rules_model.specs.declared.board.Repeat.{Repeat}
use Rattle.rules_model.specs.declared.moves.Move.{Move}
use Rattle.rules_model.specs.declared.moves.Move.TheVariants.{Drop, Go}
use Rattle.rules_model.specs.declared.moves.Promo.TheVariants.{Stays}
use Rattle.rules_model.specs.declared.rules.Rules.{Rules}
use Rattle.rules_model.specs.Legal.{is_safe}
use Rattle.move_tables.specs.Occupied.{IsOccupied}
use Rattle.board_sets.specs.declared.sets.BoardSets.{BoardSets}
use Rattle.board_sets.specs.Sets.{AreSets}
use Rattle.pins.specs.Evasion.{AreEvasions}
use Rattle.legality.specs.Moved.{DropWithoutEvading, GateWithoutEvading, GoWithoutEvading, IsBarred}
use Rattle.legality.proofs.BoardLaws.{BoardAfter, KeepsKings, drop_board, gate_board, go_board}
use Rattle.legality.proofs.PinLaws.{not_passing}

left_by_none : (a b : Bool) → a ≡ false → (a && b) ≡ false
left_by_none true b e = cc
left_by_none false b e = refl

left_for_itself : (a : Bool) (s : ℕ) → (a && not (s == s)) ≡ false
left_for_itself true s = ap not (eq-eqb s s refl)
left_for_itself false s = refl

module _ (rules : Rules) (r : Repeat) (sets : BoardSets) (occupied : Set) (are : AreSets rules r.side r.cells sets) (are_occupied : IsOccupied occupied r.cells) (size : length r.cells ≡ 120) where
  module _ (leave enter barred : Set) (are_evasions : AreEvasions rules r.side r.cells sets.kings sets.enemies occupied leave enter) (bars : IsBarred r sets.own barred) where
    without_evading : (from to : ℕ) (m : Move) → to < 120 → (has leave from && not (from == to)) ≡ false → has enter to ≡ false → BoardAfter rules r sets occupied from to m (KeepsKings rules r sets) → is_safe rules r m ≡ false
    without_evading from to m l leaves enters after =
        after.told ∙ ap (λ k. not k) (are_evasions from to after.men after.now after.board l leaves enters after.are_men after.is_now after.is_board after.has_kings)

    -- to the squares that are not barred, and that end no attack
    module _ (all unbarred to_enter : Set) (is_unbarred : (s : ℕ) → has unbarred s ≡ (has all s && not (has barred s))) (is_to_enter : (s : ℕ) → has to_enter s ≡ (has unbarred s && not (has enter s))) where
      ends_none : (s : ℕ) → has to_enter s ≡ true → has enter s ≡ false
      ends_none s h = not-true _ (and_parts (has unbarred s) (not (has enter s)) (sym (is_to_enter s) ∙ h)).1

      not_barred : (s : ℕ) → has to_enter s ≡ true → has barred s ≡ false
      not_barred s h =
          let a = and_parts (has unbarred s) (not (has enter s)) (sym (is_to_enter s) ∙ h) in
          not-true _ (and_parts (has all s) (not (has barred s)) (sym (is_unbarred s) ∙ a.0)).1

      -- own pieces other than kings go, whose leaving ends none
      pub go_without_evading : (movers to_leave : Set) → ((s : ℕ) → has movers s ≡ (has sets.own s && not (has sets.kings s))) → ((s : ℕ) → has to_leave s ≡ (has movers s && not (has leave s))) → GoWithoutEvading rules r to_leave to_enter
      go_without_evading movers to_leave is_mover is_to_leave from to promo l m h k mere =
          let a = and_parts (has movers from.0) (not (has leave from.0)) (sym (is_to_leave from.0) ∙ h) in
          let b = and_parts (has sets.own from.0) (not (has sets.kings from.0)) (sym (is_mover from.0) ∙ a.0) in
          let bar = bars to.0 m (not_barred to.0 k) in
          without_evading from.0 to.0 (Go from to promo None) m (left_by_none (has leave from.0) (not (from.0 == to.0)) (not-true _ a.1)) (ends_none to.0 k)
          (go_board rules r sets occupied are are_occupied size from to promo l m b.0 (not-true _ b.1) bar.0 mere (not_passing rules r from to.0 bar.1))

      -- a piece is dropped
      pub drop_without_evading : DropWithoutEvading rules r to_enter
      drop_without_evading kind to m k mere =
          without_evading to.0 to.0 (Drop kind to) m (left_for_itself (has leave to.0) to.0) (ends_none to.0 k)
          (drop_board rules r sets occupied are are_occupied size kind to m (bars to.0 m (not_barred to.0 k)).0 mere)

      -- or goes there while another comes in behind it
      pub gate_without_evading : GateWithoutEvading rules r sets.own sets.kings to_enter
      gate_without_evading kind from to l m own king k mere =
          let bar = bars to.0 m (not_barred to.0 k) in
          without_evading to.0 to.0 (Go from to Stays (Some kind)) m (left_for_itself (has leave to.0) to.0) (ends_none to.0 k)
          (gate_board rules r sets occupied are are_occupied size kind from to l m own king bar.0 mere (not_passing rules r from to.0 bar.1))

pub none_goes_without_evading : (rules : Rules) (r : Repeat) (enter : Set) → GoWithoutEvading rules r (record { 0 = 0 }) enter
none_goes_without_evading rules r enter from to promo l m h k mere = absurd (let f : ⊥ = (let n = has-zero (record { 0 = 0 }) refl from.0 in cc) in f)

pub none_dropped_without_evading : (rules : Rules) (r : Repeat) → DropWithoutEvading rules r (record { 0 = 0 })
none_dropped_without_evading rules r kind to m h mere = absurd (let f : ⊥ = (let n = has-zero (record { 0 = 0 }) refl to.0 in cc) in f)

pub none_gating_without_evading : (rules : Rules) (r : Repeat) (own kings : Set) → GateWithoutEvading rules r own kings (record { 0 = 0 })
none_gating_without_evading rules r own kings kind from to l m h king enter mere =
    absurd (let f : ⊥ = (let n = has-zero (record { 0 = 0 }) refl to.0 in cc) in f)
