-- Targets to which moves are wanted.
use Rattle.std.proofs.Common.{◌≡◌, ℕ, ◌<◌, Bool, true, false, not, ◌&&◌, if◌then◌else◌, Option, Some, None, is_some, refl, sym, ap, ◌∙◌}
use Rattle.std.proofs.lemmas.Bool.{and_parts, not-true}
use Rattle.rules_model.specs.declared.board.Cell.{Cell}
use Rattle.rules_model.specs.declared.board.Kind.{Kind}
use Rattle.rules_model.specs.declared.board.Repeat.{Repeat}
use Rattle.rules_model.specs.declared.board.Side.{Side}
use Rattle.rules_model.specs.declared.board.Side.TheVariants.{White, Black}
use Rattle.rules_model.specs.declared.board.Square.{Square}
use Rattle.rules_model.specs.declared.moves.Move.{Move}
use Rattle.rules_model.specs.declared.moves.Move.TheVariants.{Go}
use Rattle.rules_model.specs.declared.moves.Promo.TheVariants.{Stays}
use Rattle.rules_model.specs.declared.rules.Rules.{Rules}
use Rattle.rules_model.specs.Attacks.{is_own}
use Rattle.rules_model.specs.Legal.{is_sane}
use Rattle.rules_model.specs.Next.{captures, cell_on, taken}
use Rattle.rules_model.specs.Pawns.{behind, is_ep}
use Rattle.rules_model.specs.Sides.{other, same_side}
use Rattle.rules_model.specs.Squares.{cell_at}
use Rattle.square_set.specs.declared.Set.{Set}
use Rattle.square_set.specs.Members.{has}
use Rattle.square_set.proofs.Cases.{by_bool}
use Rattle.move_tables.specs.Occupied.{AreMen}
use Rattle.legality.specs.declared.move_filter.GenType.{GenType}
use Rattle.legality.specs.Chosen.{AreTargetsFrom, AreUnwantedBut, AreWantedTo, is_chosen, is_fit_move, is_in, is_wanted}
use Rattle.legality.specs.Moved.{IsBarred}
use Rattle.legality.proofs.PinLaws.{any_kind, not_passing}

-- ---- of three tests

and_false : (b : Bool) → (b && false) ≡ false
and_false true = refl
and_false false = refl

none_of : (t w o u : Bool) → u ≡ ((t && not w) && not o) → u ≡ true → (t ≡ true) × (w ≡ false) × (o ≡ false)
none_of true false false u is e = (refl, refl, refl)
none_of true false true u is e = cc
none_of true true o u is e = cc
none_of false w o u is e = cc

-- ---- what is not wanted is not chosen

pub not_wanted : (rules : Rules) (r : Repeat) (gen_type : GenType) (m : Move) → is_wanted rules r gen_type m ≡ false → is_chosen rules r gen_type m ≡ false
unfolding is_chosen
not_wanted rules r gen_type m e = ap (λ b. is_fit_move m && (b && is_sane rules r m)) e ∙ and_false (is_fit_move m)

module _ (rules : Rules) (r : Repeat) (gen_type : GenType) (targets wanted untold : Set) where
  pub unwanted_there : (unwanted : Set) → AreUnwantedBut rules r gen_type targets wanted untold → ((s : ℕ) → has unwanted s ≡ ((has targets s && not (has wanted s)) && not (has untold s)))
      → (from to : Square) (gate : Option Kind) → has unwanted to.0 ≡ true → is_wanted rules r gen_type (Go from to Stays gate) ≡ false
  unwanted_there unwanted others is from to gate e =
      let k = none_of (has targets to.0) (has wanted to.0) (has untold to.0) (has unwanted to.0) (is to.0) e in others from to gate k.0 k.1 k.2

  -- where all are told that are wanted, all are told
  pub told_of_wanted : (from : Square) (gate : Option Kind) (those : Set) → AreUnwantedBut rules r gen_type targets wanted untold → ((s : ℕ) → has wanted s ≡ true → has targets s ≡ true) → ((s : ℕ) → has untold s ≡ false)
      → AreTargetsFrom (is_chosen rules r gen_type) from gate wanted those → AreTargetsFrom (is_chosen rules r gen_type) from gate targets those
  told_of_wanted from gate those others within none are to =
      let move : Move = Go from to Stays gate in
      by_bool (has wanted to.0) (has those to.0 ≡ (has targets to.0 && is_chosen rules r gen_type move))
      (λ e. are to ∙ ap (λ b. b && is_chosen rules r gen_type move) (e ∙ sym (within to.0 e)))
      (λ e.
      are to ∙ ap (λ b. b && is_chosen rules r gen_type move) e
      ∙ sym (by_bool (has targets to.0) ((has targets to.0 && is_chosen rules r gen_type move) ≡ false)
      (λ t. ap (λ b. has targets to.0 && b) (not_wanted rules r gen_type move (others from to gate t e (none to.0))) ∙ and_false (has targets to.0))
      (λ t. ap (λ b. b && is_chosen rules r gen_type move) t)))

  -- where none are wanted, none are chosen
  pub none_told : (from : Square) (gate : Option Kind) (those : Set) → AreUnwantedBut rules r gen_type targets wanted untold → ((s : ℕ) → has untold s ≡ false) → ((s : ℕ) → has wanted s ≡ false) → ((s : ℕ) → has those s ≡ false)
      → AreTargetsFrom (is_chosen rules r gen_type) from gate targets those
  none_told from gate those others closed none empty to =
      let move : Move = Go from to Stays gate in
      empty to.0
      ∙ sym (by_bool (has targets to.0) ((has targets to.0 && is_chosen rules r gen_type move) ≡ false)
      (λ t. ap (λ b. has targets to.0 && b) (not_wanted rules r gen_type move (others from to gate t (none to.0) (closed to.0))) ∙ and_false (has targets to.0))
      (λ t. ap (λ b. b && is_chosen rules r gen_type move) t))

  -- of those that are not wanted none are chosen
  pub unwanted_told : (from : Square) (gate : Option Kind) (unwanted those : Set) → AreUnwantedBut rules r gen_type targets wanted untold → ((s : ℕ) → has unwanted s ≡ ((has targets s && not (has wanted s)) && not (has untold s)))
      → ((s : ℕ) → has those s ≡ false) → AreTargetsFrom (is_chosen rules r gen_type) from gate unwanted those
  unwanted_told from gate unwanted those others is empty to =
      let move : Move = Go from to Stays gate in
      empty to.0
      ∙ sym (by_bool (has unwanted to.0) ((has unwanted to.0 && is_chosen rules r gen_type move) ≡ false)
      (λ t. ap (λ b. has unwanted to.0 && b) (not_wanted rules r gen_type move (unwanted_there unwanted others is from to gate t)) ∙ and_false (has unwanted to.0))
      (λ t. ap (λ b. b && is_chosen rules r gen_type move) t))

-- ---- captures are of enemies, but for those in passing

other_side : (of side : Side) → (same_side of side && true) ≡ false → true ≡ (same_side of (other side) && true)
other_side White White e = cc
other_side White Black e = refl
other_side Black White e = refl
other_side Black Black e = cc

man_there : (side : Side) (c : Option Cell) → is_own side any_kind c ≡ false → is_some c ≡ is_own (other side) any_kind c
man_there side None e = refl
man_there side (Some x) e = other_side x.side side e

second_false : (t e b w : Bool) → w ≡ ((t && e) && not b) → t ≡ true → b ≡ false → w ≡ false → e ≡ false
second_false t false b w is x y z = refl
second_false true true true w is x y z = cc
second_false true true false w is x y z = cc
second_false false true b w is x y z = cc

module _ (rules : Rules) (r : Repeat) where
  taken_there : (from to : Square) → is_ep r.ep to.0 ≡ false → taken rules r from to ≡ cell_at r.cells to.0
  unfolding taken
  taken_there from to e = ap (λ b. if b then cell_on r.cells (behind rules r.side to) else cell_at r.cells to.0) (not_passing rules r from to.0 e)

  module _ (own enemies barred : Set) (men : AreMen r.side r.cells own) (foes : AreMen (other r.side) r.cells enemies) (bars : IsBarred r own barred) where
    takes_enemy : (from to : Square) (gate : Option Kind) → to.0 < 120 → has barred to.0 ≡ false → captures rules r (Go from to Stays gate) ≡ has enemies to.0
    takes_enemy from to gate small bar =
        let k = bars to.0 small bar in
        ap is_some (taken_there from to k.1) ∙ man_there r.side (cell_at r.cells to.0) (sym (men to.0) ∙ k.0) ∙ sym (foes to.0)

    module _ (gen_type : GenType) (targets wanted untold : Set) (small : (s : ℕ) → has targets s ≡ true → s < 120) (is : (s : ℕ) → has wanted s ≡ ((has targets s && is_in gen_type (has enemies s)) && not (has barred s))) where
      pub gen_type_wanted : AreWantedTo rules r gen_type wanted
      gen_type_wanted from to gate e =
          let a = and_parts (has targets to.0 && is_in gen_type (has enemies to.0)) (not (has barred to.0)) (sym (is to.0) ∙ e) in
          let b = and_parts (has targets to.0) (is_in gen_type (has enemies to.0)) a.0 in
          ap (is_in gen_type) (takes_enemy from to gate (small to.0 b.0) (not-true (has barred to.0) a.1)) ∙ b.1

      pub gen_type_unwanted : ((s : ℕ) → has untold s ≡ (has targets s && has barred s)) → AreUnwantedBut rules r gen_type targets wanted untold
      gen_type_unwanted are from to gate t w o =
          let bar : has barred to.0 ≡ false = sym (ap (λ b. b && has barred to.0) t) ∙ sym (are to.0) ∙ o in
          ap (is_in gen_type) (takes_enemy from to gate (small to.0 t) bar)
          ∙ second_false (has targets to.0) (is_in gen_type (has enemies to.0)) (has barred to.0) (has wanted to.0) (is to.0) t bar w
