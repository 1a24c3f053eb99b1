-- Pieces that may go anywhere, and the only king out of danger.
use Rattle.std.proofs.Common.{◌≡◌, ℕ, ◌<◌, true, false, not, ◌&&◌, None, Some, length, refl, sym, ap, ◌∙◌}
use Rattle.std.proofs.lemmas.Bool.{and_parts, not-true}
use Rattle.square_set.proofs.CoverLaws.{has-zero}
use Rattle.square_set.specs.declared.Set.{Set}
use Rattle.square_set.specs.Members.{has}
use Rattle.rules_model.specs.declared.board.Repeat.{Repeat}
use Rattle.rules_model.specs.declared.board.Square.{Square}
use Rattle.rules_model.specs.declared.moves.Move.{Move}
use Rattle.rules_model.specs.declared.moves.Move.TheVariants.{Drop, Go}
use Rattle.rules_model.specs.declared.moves.Promo.TheVariants.{Stays}
use Rattle.rules_model.specs.declared.rules.Rules.{Rules}
use Rattle.rules_model.specs.Legal.{is_safe}
use Rattle.rules_model.specs.Pawns.{passes_by}
use Rattle.move_tables.specs.Occupied.{IsOccupied}
use Rattle.board_sets.specs.declared.sets.BoardSets.{BoardSets}
use Rattle.board_sets.specs.Sets.{AreSets}
use Rattle.pins.specs.Danger.{AreDangersAmong}
use Rattle.pins.specs.Free.{IsFree}
use Rattle.pins.proofs.DangerLaws.{king_by_pieces}
use Rattle.legality.specs.Moved.{DropFreely, GateAtOnce, GateFreely, GoAtOnce, GoFreely, IsOnly}
use Rattle.legality.proofs.BoardLaws.{BoardAfter, KeepsKings, drop_board, gate_board, go_board, king_board}

module _ (rules : Rules) (r : Repeat) (sets : BoardSets) (occupied : Set) (are : AreSets rules r.side r.cells sets) (are_occupied : IsOccupied occupied r.cells) (size : length r.cells ≡ 120) where
  -- the only king is safe where it is not in danger
  pub king_is_safe : (targets danger : Set) (from to : Square) → from.0 < 120 → to.0 < 120 → AreDangersAmong rules r.side r.cells from.0 sets.enemies occupied targets danger → has targets to.0 ≡ true → IsOnly sets.kings from.0 → has sets.own to.0 ≡ false
      → rules.flying ≡ false → passes_by rules r from to.0 ≡ false → is_safe rules r (Go from to Stays None) ≡ not (has danger to.0)
  king_is_safe targets danger from to l m are_dangers among only target still no_passing =
      let after = king_board rules r sets occupied are are_occupied size from to l m only target no_passing in
      let by_pieces = king_by_pieces rules after.board r.side to.0 m after.has_kings still in
      after.told
      ∙ ap (λ k. not k) (by_pieces ∙ sym (are_dangers to.0 among after.men after.now after.board after.are_men after.is_now after.is_board))

  module _ (free : Set) (are_free : IsFree rules r.side r.cells sets.kings sets.enemies occupied free) where
    spared : (from to : ℕ) (m : Move) → has free from ≡ true → BoardAfter rules r sets occupied from to m (KeepsKings rules r sets) → is_safe rules r m ≡ true
    spared from to m h after =
        after.told ∙ ap (λ k. not k) (are_free from to after.men after.now after.board h after.are_men after.is_now after.is_board after.has_kings)

    -- those of the free squares with own pieces that are no kings
    pub go_freely : (some few : Set) → ((s : ℕ) → has some s ≡ (has free s && has sets.own s)) → ((s : ℕ) → has few s ≡ (has some s && not (has sets.kings s))) → GoFreely rules r sets.own few
    go_freely some few is_some_free is_few from to promo l m h target mere no_passing =
        let a = and_parts (has some from.0) (not (has sets.kings from.0)) (sym (is_few from.0) ∙ h) in
        let b = and_parts (has free from.0) (has sets.own from.0) (sym (is_some_free from.0) ∙ a.0) in
        spared from.0 to.0 (Go from to promo None) b.0 (go_board rules r sets occupied are are_occupied size from to promo l m b.1 (not-true _ a.1) target mere no_passing)

    -- to the free squares without own pieces it is dropped
    pub drop_freely : (enter : Set) → ((s : ℕ) → has enter s ≡ (has free s && not (has sets.own s))) → DropFreely rules r enter
    drop_freely enter is_open kind to m h mere =
        let a = and_parts (has free to.0) (not (has sets.own to.0)) (sym (is_open to.0) ∙ h) in
        spared to.0 to.0 (Drop kind to) a.0 (drop_board rules r sets occupied are are_occupied size kind to m (not-true _ a.1) mere)

    -- or goes there while another comes in behind it
    pub gate_freely : (enter : Set) → ((s : ℕ) → has enter s ≡ (has free s && not (has sets.own s))) → GateFreely rules r sets.own sets.kings enter
    gate_freely enter is_open kind from to l m own king h mere no_passing =
        let a = and_parts (has free to.0) (not (has sets.own to.0)) (sym (is_open to.0) ∙ h) in
        spared to.0 to.0 (Go from to Stays (Some kind)) a.0 (gate_board rules r sets occupied are are_occupied size kind from to l m own king (not-true _ a.1) mere no_passing)

pub none_freely : (rules : Rules) (r : Repeat) (own : Set) → GoFreely rules r own (record { 0 = 0 })
none_freely rules r own from to promo l m h target mere no_passing = absurd (let f : ⊥ = (let n = has-zero (record { 0 = 0 }) refl from.0 in cc) in f)

pub none_dropped : (rules : Rules) (r : Repeat) → DropFreely rules r (record { 0 = 0 })
none_dropped rules r kind to m h mere = absurd (let f : ⊥ = (let n = has-zero (record { 0 = 0 }) refl to.0 in cc) in f)

pub none_going : (rules : Rules) (r : Repeat) (barred : Set) → GoAtOnce rules r (record { 0 = 0 }) barred
none_going rules r barred from to l m h target = absurd (let f : ⊥ = (let n = has-zero (record { 0 = 0 }) refl from.0 in cc) in f)

pub none_gating : (rules : Rules) (r : Repeat) (own kings : Set) → GateAtOnce rules r own kings (record { 0 = 0 })
none_gating rules r own kings kind from to l m h king enter mere =
    absurd (let f : ⊥ = (let n = has-zero (record { 0 = 0 }) refl to.0 in cc) in f)
