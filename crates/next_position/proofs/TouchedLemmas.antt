-- The squares that a move writes.
use Rattle.std.proofs.Common.{◌≡◌, ◌≢◌, ℕ, ◌+◌, ◌-◌, Bool, true, false, ◌&&◌, ◌||◌, ◌==◌, Option, Some, None, List, [], refl, ap, sym, subst, ◌∙◌}
use Rattle.std.specs.Prelude.{slice_set, is_some, IfSome}
use Rattle.std.specs.Bool.{OnFalse}
use Rattle.std.proofs.lemmas.List.{get_or-set_other}
use Rattle.foundation.proofs.SetLemmas.{slice_get-set_other}
use Rattle.rules_model.specs.declared.board.Cell.{Cell}
use Rattle.rules_model.specs.declared.board.Kind.{Kind}
use Rattle.rules_model.specs.declared.board.Position.{Position}
use Rattle.rules_model.specs.declared.board.Repeat.{Repeat}
use Rattle.rules_model.specs.declared.board.Side.{Side}
use Rattle.rules_model.specs.declared.board.Side.TheVariants.{White, Black}
use Rattle.rules_model.specs.declared.board.Square.{Square}
use Rattle.rules_model.specs.declared.moves.Move.{Move}
use Rattle.rules_model.specs.declared.moves.Move.TheVariants.{Go, Castle, Drop}
use Rattle.rules_model.specs.declared.moves.Placed.{Placed}
use Rattle.rules_model.specs.declared.moves.Promo.{Promo}
use Rattle.rules_model.specs.declared.rules.Rules.{Rules}
use Rattle.rules_model.specs.Castling.{rook_target}
use Rattle.rules_model.specs.Next.{cells_after, castled, emptied, gated, hand_kind, hands_after, next, next_repeat, placed_kind, placed_on, take_into, taken, without_passed}
use Rattle.rules_model.specs.Repeats.{repeat_of}
use Rattle.rules_model.specs.Hands.{hand_of, in_hand, put_at_gate, with_hand}
use Rattle.rules_model.specs.Sides.{other, side_index}
use Rattle.rules_model.specs.Squares.{flat}
use Rattle.square_set.specs.declared.Set.{Set}
use Rattle.square_set.specs.Members.{has, IsWith}
use Rattle.square_set.proofs.Cases.{by_equal}
use Rattle.next_position.specs.declared.written.Writes.{Writes}
use Rattle.next_position.specs.Changed.{AgreeOutside, Covers, changes_hands}
use Rattle.next_position.specs.Parts.{taken_by}

true-is-not-false : {P : Type 0} → true ≡ false → P
true-is-not-false e = absurd cc

either-left : (a b : Bool) → a ≡ true → (a || b) ≡ true
either-left true b e = refl
either-left false b e = cc

either-right : (a b : Bool) → b ≡ true → (a || b) ≡ true
either-right true b e = refl
either-right false b e = e

left-false : (a b : Bool) → (a || b) ≡ false → a ≡ false
left-false true b e = cc
left-false false b e = refl

-- a square that was put into a set is in it, and what was in it stays
pub with-has : (old new : Set) (at : ℕ) → IsWith old at new → has new at ≡ true
with-has old new at is = is at ∙ either-right (has old at) (at == at) (by_equal at at _ (λ q e. q) (λ q d. absurd (d refl)))

pub with-keeps : (old new : Set) (at s : ℕ) → IsWith old at new → has old s ≡ true → has new s ≡ true
with-keeps old new at s is member = is s ∙ either-left (has old s) (s == at) member

module _ (touched : Set) (before : List (Option Cell)) where
  pub agree-none : AgreeOutside touched before before
  agree-none s e = refl

  -- one square more is written
  pub agree-write : (cells : List (Option Cell)) (at : ℕ) (c : Option Cell) → has touched at ≡ true → AgreeOutside touched before cells → AgreeOutside touched before (slice_set cells at c)
  agree-write cells at c member agree s e =
      agree s e ∙ sym (ap flat (slice_get-set_other cells at s c (λ q. true-is-not-false (sym member ∙ ap (has touched) q ∙ e))))

  pub agree-emptied : (at : Option ℕ) → IfSome at (λ s. has touched s ≡ true) → AgreeOutside touched before (emptied before at)
  agree-emptied None member = agree-none
  agree-emptied (Some at) member = agree-write before at None member agree-none

  pub agree-placed : (side : Side) (gate : Option Placed) (cells : List (Option Cell)) → IfSome gate (λ placed. has touched placed.at.0 ≡ true) → AgreeOutside touched before cells → AgreeOutside touched before (placed_on side gate cells)
  agree-placed side None cells member agree = agree
  agree-placed side (Some placed) cells member agree = agree-write cells placed.at.0 _ member agree

module _ (touched : Set) (rules : Rules) (r : Repeat) where
  pub agree-go : (from to : Square) (promo : Promo) (gate : Option Kind) → has touched from.0 ≡ true → has touched to.0 ≡ true → AgreeOutside touched r.cells (without_passed rules r from to) → AgreeOutside touched r.cells (cells_after rules r (Go from to promo gate))
  unfolding cells_after
  agree-go from to promo gate left entered passed =
      agree-write touched r.cells _ to.0 _ entered (agree-write touched r.cells _ from.0 (gated r.side gate) left passed)

  pub agree-castle : (from to rook : Square) (gate : Option Placed) → has touched from.0 ≡ true → has touched to.0 ≡ true → has touched rook.0 ≡ true → has touched (rook_target from to rook) ≡ true → IfSome gate (λ placed. has touched placed.at.0 ≡ true) → AgreeOutside touched r.cells (cells_after rules r (Castle from to rook gate))
  unfolding cells_after
  agree-castle from to rook gate king king_to left rook_to placed =
      agree-placed touched r.cells r.side gate (castled r.cells from to rook) placed
      (agree-write touched r.cells _ _ _ rook_to (agree-write touched r.cells _ _ _ king_to (agree-write touched r.cells _ _ None left (agree-write touched r.cells _ _ None king (agree-none touched r.cells)))))

  pub agree-drop : (kind : Kind) (to : Square) → has touched to.0 ≡ true → AgreeOutside touched r.cells (cells_after rules r (Drop kind to))
  unfolding cells_after
  agree-drop kind to entered = agree-write touched r.cells r.cells to.0 _ entered (agree-none touched r.cells)

-- the hands of the next position
pub next-hands : (rules : Rules) (p q : Position) (m : Move) → q ≡ next rules p m → q.hands ≡ hands_after rules (repeat_of p) m
unfolding next next_repeat
next-hands rules p q m e = ap (λ (n : Position). n.hands) e

-- nothing goes to a hand
to-none : (hand : Bool) (hands : List (List ℕ)) (side : Side) (c : Option Cell) → (hand && is_some c) ≡ false → take_into hand hands side c ≡ hands
to-none hand hands side None e = refl
to-none true hands side (Some c) e = cc
to-none false hands side (Some c) e = refl

pub kept-hands : (rules : Rules) (r : Repeat) (m : Move) → changes_hands rules (taken_by rules r m) m ≡ false → hands_after rules r m ≡ r.hands
unfolding hands_after
kept-hands rules r (Go from to promo None) e =
    to-none rules.to_hand r.hands r.side (taken rules r from to) (left-false (rules.to_hand && is_some (taken rules r from to)) false e)
kept-hands rules r (Go from to promo (Some kind)) e =
    true-is-not-false (sym (either-right (rules.to_hand && is_some (taken rules r from to)) true refl) ∙ e)
kept-hands rules r (Castle from to rook None) e = refl
kept-hands rules r (Castle from to rook (Some placed)) e = cc
kept-hands rules r (Drop kind to) e = cc

-- the other side's hand stays as it is
apart-index : (side : Side) → side_index (other side) ≢ side_index side
apart-index White e = cc
apart-index Black e = cc

with-other : (hands : List (List ℕ)) (side : Side) (kind : Kind) (n : ℕ) → hand_of (with_hand hands side kind n) (other side) ≡ hand_of hands (other side)
with-other hands side kind n = get_or-set_other hands (side_index side) (side_index (other side)) (slice_set (hand_of hands side) kind.0 n) [] (apart-index side)

take-other : (hand : Bool) (hands : List (List ℕ)) (side : Side) (c : Option Cell) → hand_of (take_into hand hands side c) (other side) ≡ hand_of hands (other side)
take-other hand hands side None = refl
take-other true hands side (Some c) = with-other hands side (hand_kind c) (in_hand hands side (hand_kind c) + 1)
take-other false hands side (Some c) = refl

gate-other : (hands : List (List ℕ)) (side : Side) (gate : Option Kind) → hand_of (put_at_gate hands side gate) (other side) ≡ hand_of hands (other side)
gate-other hands side None = refl
gate-other hands side (Some kind) = with-other hands side kind (in_hand hands side kind - 1)

other-hand : (rules : Rules) (r : Repeat) (m : Move) → hand_of (hands_after rules r m) (other r.side) ≡ hand_of r.hands (other r.side)
unfolding hands_after
other-hand rules r (Go from to promo gate) = gate-other _ r.side gate ∙ take-other rules.to_hand r.hands r.side (taken rules r from to)
other-hand rules r (Castle from to rook gate) = gate-other r.hands r.side (placed_kind gate)
other-hand rules r (Drop kind to) = with-other r.hands r.side kind (in_hand r.hands r.side kind - 1)

pub is-touched : (rules : Rules) (p q : Position) (m : Move) (touched : Writes) → q.cells ≡ cells_after rules (repeat_of p) m → q.hands ≡ hands_after rules (repeat_of p) m
    → AgreeOutside touched.squares p.cells (cells_after rules (repeat_of p) m) → OnFalse touched.hands (hands_after rules (repeat_of p) m ≡ p.hands) → Covers touched p q
is-touched rules p q m touched cells hands squares kept =
    let Hands : List (List ℕ) → Type 0 = λ h. OnFalse touched.hands (h ≡ p.hands) in
    let Other : List (List ℕ) → Type 0 = λ h. hand_of h (other p.side) ≡ hand_of p.hands (other p.side) in
    record {
      squares = subst (AgreeOutside touched.squares p.cells) (sym cells) squares;
      hands = subst Hands (sym hands) kept;
      other_hand = subst Other (sym hands) (other-hand rules (repeat_of p) m);
    }

-- the board of the next position
pub next-cells : (rules : Rules) (p q : Position) (m : Move) → q ≡ next rules p m → q.cells ≡ cells_after rules (repeat_of p) m
unfolding next next_repeat
next-cells rules p q m e = ap (λ (n : Position). n.cells) e
