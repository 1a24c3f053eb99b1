-- The sums after a move, from those of its writes.
use Rattle.std.proofs.Common.{◌≡◌, ◌≢◌, inl, inr, ℕ, ◌+◌, ◌≤◌, Bool, true, false, ◌&&◌, Some, None, List, length, sum, refl, sym, ◌∙◌, arith, slice_index}
use Rattle.std.specs.Prelude.{slice_set}
use Rattle.std.proofs.lemmas.Bool.{cases_lt, leb-true}
use Rattle.std.proofs.lemmas.List.{get_or_past, length-set}
use Rattle.std.proofs.lemmas.List.Sums.{get_or-le-sum_by}
use Rattle.rules_model.specs.declared.board.Kind.{Kind}
use Rattle.rules_model.specs.declared.board.Position.{Position}
use Rattle.rules_model.specs.declared.board.Repeat.{Repeat}
use Rattle.rules_model.specs.declared.board.Side.{Side}
use Rattle.rules_model.specs.declared.board.Side.TheVariants.{White, Black}
use Rattle.rules_model.specs.declared.board.Square.{Square}
use Rattle.rules_model.specs.declared.moves.Move.{Move}
use Rattle.rules_model.specs.declared.moves.Move.TheVariants.{Go, Drop}
use Rattle.rules_model.specs.declared.moves.Promo.{Promo}
use Rattle.rules_model.specs.declared.rules.Rules.{Rules}
use Rattle.rules_model.specs.Ends.{pieces_of}
use Rattle.rules_model.specs.Hands.{hand_of, in_hand}
use Rattle.rules_model.specs.Next.{cells_after, fresh, hands_after, next, next_repeat, promote}
use Rattle.rules_model.specs.Pawns.{passes_by}
use Rattle.rules_model.specs.Repeats.{repeat_of}
use Rattle.rules_model.specs.Sound.{is_sound, is_sound_repeat}
use Rattle.rules_model.specs.Squares.{cell_at}
use Rattle.evaluation.specs.declared.tally.Tally.{Tally}
use Rattle.evaluation.specs.Tallies.{IsTally}
use Rattle.evaluation.specs.Writes.{GoesTo, HandsGoTo, HoldsFew, PutsOn}
use Rattle.evaluation.proofs.PutLaws.{cell_other}

-- ---- pieces

module _ (rules : Rules) (r : Repeat) (size : length r.cells ≡ 120) where
  pub goes_plainly : (from to : Square) (promo : Promo) (old mid new : Tally) → from.0 ≢ to.0
      → passes_by rules r from to.0 ≡ false
      → PutsOn rules from.0 (cell_at r.cells from.0) None old mid
      → PutsOn rules to.0 (cell_at r.cells to.0) (promote rules (cell_at r.cells from.0) promo) mid new
      → GoesTo rules r.cells (cells_after rules r (Go from to promo None)) old new
  unfolding cells_after
  goes_plainly from to promo old mid new apart plain leaves enters hands held sums =
      let left = leaves r.cells hands size held refl sums in
      rw plain (enters (slice_set r.cells from.0 None) hands (length-set r.cells from.0 None ∙ size) held
      (sym (cell_other r.cells from.0 to.0 None (λ e. apart (sym e)))) left)

  pub is_dropped : (kind : Kind) (to : Square) (old new : Tally)
      → PutsOn rules to.0 (cell_at r.cells to.0) (Some (fresh r.side kind)) old new
      → GoesTo rules r.cells (cells_after rules r (Drop kind to)) old new
  unfolding cells_after
  is_dropped kind to old new enters hands held sums = enters r.cells hands size held refl sums

-- ---- what a sound position holds

within_sum : (xs : List ℕ) (k : ℕ) → slice_index xs k ≤ sum xs
within_sum xs k =
    elim (cases_lt k (length xs)) as (λ _. slice_index xs k ≤ sum xs) [
      | inl l ↦ get_or-le-sum_by (λ x. x) xs k 0 l
      | inr l ↦ let e = get_or_past xs k 0 l in omega (arith, e)
    ]

held_among : (r : Repeat) (side : Side) (kind : Kind) → in_hand r.hands side kind ≤ pieces_of r side
unfolding pieces_of
held_among r side kind = let h = within_sum (hand_of r.hands side) kind.0 in omega (arith, h)

second : (a b c d f g : Bool) → (a && b && c && d && f && g) ≡ true → b ≡ true
second true true c d f g e = refl
second true false c d f g e = cc
second false b c d f g e = cc

few_pieces : (rules : Rules) (r : Repeat) → is_sound_repeat rules r ≡ true → pieces_of r White + pieces_of r Black ≤ 240
unfolding is_sound_repeat
few_pieces rules r e = leb-true _ _ (second _ _ _ _ _ _ e)

front : (a b c d : Bool) → (a && b && c && d) ≡ true → a ≡ true
front true b c d e = refl
front false b c d e = cc

held_few : (r : Repeat) (side : Side) (kind : Kind) → pieces_of r White + pieces_of r Black ≤ 240
    → in_hand r.hands side kind ≤ 1000
held_few r White kind h = let k = held_among r White kind in omega (arith, h, k)
held_few r Black kind h = let k = held_among r Black kind in omega (arith, h, k)

sound_holds_few : (rules : Rules) (p : Position) → is_sound rules p ≡ true → HoldsFew 1000 p.hands
unfolding is_sound
sound_holds_few rules p e side kind = held_few (repeat_of p) side kind (few_pieces rules (repeat_of p) (front _ _ _ _ e))

-- ---- the whole

pub moved : (rules : Rules) (p : Position) (m : Move) (old mid new : Tally) → is_sound rules p ≡ true
    → IsTally rules p old
    → GoesTo rules p.cells (cells_after rules (repeat_of p) m) old mid
    → HandsGoTo rules p.hands (hands_after rules (repeat_of p) m) mid new
    → IsTally rules (next rules p m) new
unfolding next next_repeat
moved rules p m old mid new sound tally pieces hands =
    let few = sound_holds_few rules p sound in
    hands (cells_after rules (repeat_of p) m) few (pieces p.hands few tally)
