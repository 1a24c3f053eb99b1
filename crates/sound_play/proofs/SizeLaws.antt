-- The lengths of a position's lists after a move.
use Rattle.std.proofs.Common.{◌≡◌, ℕ, ◌+◌, ◌-◌, ◌%◌, ◌^◌, ◌<◌, ◌≤◌, Bool, true, false, if◌then◌else◌, Option, Some, None, List, [], length, refl, ap, ◌∙◌, arith, length-set, ◌==◌, nat_lt, sym, subst, slice_index, bit_and}
use Rattle.std.specs.Prelude.{slice_set}
use Rattle.std.specs.List.{list_all}
use Rattle.std.proofs.lemmas.Bool.{ltb-true}
use Rattle.std.proofs.lemmas.Bool.Decides.{nat_tests}
use Rattle.std.proofs.lemmas.Nat.{and_le_r}
use Rattle.foundation.proofs.SetLemmas.{list_all-set, list_all-get}
use Rattle.rules_model.specs.declared.board.Cell.{Cell}
use Rattle.rules_model.specs.declared.board.Kind.{Kind}
use Rattle.rules_model.specs.declared.board.Position.{Position}
use Rattle.rules_model.specs.declared.board.Repeat.{Repeat}
use Rattle.rules_model.specs.declared.board.Side.{Side}
use Rattle.rules_model.specs.declared.board.Side.TheVariants.{White, Black}
use Rattle.rules_model.specs.declared.moves.Move.{Move}
use Rattle.rules_model.specs.declared.moves.Move.TheVariants.{Go, Castle, Drop}
use Rattle.rules_model.specs.declared.moves.Placed.{Placed}
use Rattle.rules_model.specs.declared.rules.Rules.{Rules}
use Rattle.rules_model.specs.Sides.{side_index}
use Rattle.rules_model.specs.Regions.{on_first_rank}
use Rattle.rules_model.specs.Gates.{closed_at}
use Rattle.rules_model.specs.Castling.{rook_target}
use Rattle.rules_model.specs.Hands.{hand_of, in_hand, put_at_gate, with_hand}
use Rattle.rules_model.specs.Pawns.{behind, passes_by}
use Rattle.rules_model.specs.Next.{cells_after, checks_after, emptied, fresh, gates_after, hand_kind, hands_after, next, next_repeat, placed_kind, placed_on, rights_after, side_gates_after, take_into, taken}
use Rattle.rules_model.specs.Sizes.{HasSizes}
use Rattle.rules_model.specs.Repeats.{repeat_of}
use Rattle.rules_model.proofs.PlayLaws.{next-is}

-- ---- cells

emptied_size : (cells : List (Option Cell)) (at : Option ℕ) → length (emptied cells at) ≡ length cells
emptied_size cells None = refl
emptied_size cells (Some s) = length-set cells s None

passed_size : (b : Bool) (cells : List (Option Cell)) (at : Option ℕ) → length (if b then emptied cells at else cells) ≡ length cells
passed_size true cells at = emptied_size cells at
passed_size false cells at = refl

placed_size : (side : Side) (gate : Option Placed) (cells : List (Option Cell)) → length (placed_on side gate cells) ≡ length cells
placed_size side None cells = refl
placed_size side (Some placed) cells = length-set cells placed.at.0 (Some (fresh side placed.kind))

pub cells_after-size : (rules : Rules) (r : Repeat) (m : Move) → length (cells_after rules r m) ≡ length r.cells
unfolding cells_after
cells_after-size rules r (Go from to promo gate) =
    length-set _ _ _ ∙ length-set _ _ _ ∙ passed_size (passes_by rules r from to.0) r.cells (behind rules r.side to)
cells_after-size rules r (Castle from to rook gate) =
    placed_size r.side gate _ ∙ length-set _ _ _ ∙ length-set _ _ _ ∙ length-set _ _ _ ∙ length-set _ _ _
cells_after-size rules r (Drop kind to) = length-set _ _ _

-- ---- hands

-- two hands of 26 kinds
pub record AreHands (hands : List (List ℕ)) : Type 0 where
  pub two : length hands ≡ 2
  pub each : list_all (λ hand. length hand == 26) hands ≡ true

prove_hand_size : (hands : List (List ℕ)) (side : Side) → AreHands hands → (length (hand_of hands side) == 26) ≡ true
prove_hand_size hands White h = let two = h.two in list_all-get (λ hand. length hand == 26) hands 0 [] (omega (arith, two)) h.each
prove_hand_size hands Black h = let two = h.two in list_all-get (λ hand. length hand == 26) hands 1 [] (omega (arith, two)) h.each

with_hand-size : (hands : List (List ℕ)) (side : Side) (kind : Kind) (n : ℕ) → AreHands hands → AreHands (with_hand hands side kind n)
with_hand-size hands side kind n h = record {
  two = length-set hands (side_index side) _ ∙ h.two;
  each = list_all-set (λ hand. length hand == 26) hands (side_index side) _ (ap (λ l. l == 26) (length-set (hand_of hands side) kind.0 n) ∙ prove_hand_size hands side h) h.each;
}

pub take_into-size : (b : Bool) (hands : List (List ℕ)) (side : Side) (piece : Option Cell) → AreHands hands → AreHands (take_into b hands side piece)
take_into-size b hands side None h = h
take_into-size true hands side (Some x) h = with_hand-size hands side (hand_kind x) (in_hand hands side (hand_kind x) + 1) h
take_into-size false hands side (Some x) h = h

put_at_gate-size : (hands : List (List ℕ)) (side : Side) (gate : Option Kind) → AreHands hands → AreHands (put_at_gate hands side gate)
put_at_gate-size hands side None h = h
put_at_gate-size hands side (Some kind) h = with_hand-size hands side kind _ h

pub hands_after-size : (rules : Rules) (r : Repeat) (m : Move) → AreHands r.hands → AreHands (hands_after rules r m)
unfolding hands_after
hands_after-size rules r (Go from to promo gate) h = put_at_gate-size _ r.side gate (take_into-size rules.to_hand r.hands r.side (taken rules r from to) h)
hands_after-size rules r (Castle from to rook gate) h = put_at_gate-size r.hands r.side (placed_kind gate) h
hands_after-size rules r (Drop kind to) h = with_hand-size r.hands r.side kind _ h

-- ---- the others

checks_size : (b : Bool) (checks : List ℕ) (i n : ℕ) → length (if b then slice_set checks i n else checks) ≡ length checks
checks_size true checks i n = length-set checks i n
checks_size false checks i n = refl

checks_after-size : (rules : Rules) (r : Repeat) (later : List (Option Cell)) → length (checks_after rules r later) ≡ length r.checks
unfolding checks_after
checks_after-size rules r later = checks_size _ r.checks _ _

gates_after-size : (rules : Rules) (r : Repeat) (m : Move) → length (gates_after rules r m) ≡ 2
unfolding gates_after
gates_after-size rules r m = omega arith

closed_below : (b : Bool) (gates without : ℕ) → gates < 65536 → without ≤ 65535 → (if b then bit_and gates without else gates) < 65536
closed_below true gates without l h = let a = and_le_r gates without in omega (arith, a, h)
closed_below false gates without l h = l

closed_at-below : (rules : Rules) (side : Side) (s gates : ℕ) → gates < 65536 → closed_at rules side s gates < 65536
closed_at-below rules side s gates l = closed_below (on_first_rank rules side s) gates (65535 - 2 ^ (s % 12)) l (omega arith)

side_gates-below : (rules : Rules) (side : Side) (m : Move) (gates : ℕ) → gates < 65536 → side_gates_after rules side m gates < 65536
side_gates-below rules side (Go from to promo gate) gates l = closed_at-below rules side to.0 _ (closed_at-below rules side from.0 gates l)
side_gates-below rules side (Castle from to rook gate) gates l =
    closed_at-below rules side (rook_target from to rook) _ (closed_at-below rules side to.0 _ (closed_at-below rules side rook.0 _ (closed_at-below rules side from.0 gates l)))
side_gates-below rules side (Drop kind to) gates l = closed_at-below rules side to.0 gates l

below_test : (a : ℕ) → a < 65536 → nat_lt a 65536 ≡ true
below_test a l = grind (arith, nat_tests)

gate_below : (gates : List ℕ) (side : Side) → length gates ≡ 2 → list_all (λ g. nat_lt g 65536) gates ≡ true → slice_index gates (side_index side) < 65536
gate_below gates White two h = ltb-true _ _ (list_all-get (λ g. nat_lt g 65536) gates 0 0 (omega (arith, two)) h)
gate_below gates Black two h = ltb-true _ _ (list_all-get (λ g. nat_lt g 65536) gates 1 0 (omega (arith, two)) h)

gates_after-each : (rules : Rules) (r : Repeat) (m : Move) → length r.gates ≡ 2 → list_all (λ g. nat_lt g 65536) r.gates ≡ true → list_all (λ g. nat_lt g 65536) (gates_after rules r m) ≡ true
unfolding gates_after
gates_after-each rules r m two h =
    let white = below_test _ (side_gates-below rules White m _ (gate_below r.gates White two h)) in
    let black = below_test _ (side_gates-below rules Black m _ (gate_below r.gates Black two h)) in
    rw (white, black)

rights_after-size : (rules : Rules) (r : Repeat) (m : Move) (later : List (Option Cell)) → length (rights_after rules r m later) ≡ 2
unfolding rights_after
rights_after-size rules r m later = omega arith

rights_after-each : (rules : Rules) (r : Repeat) (m : Move) (later : List (Option Cell)) → list_all (λ rights. length rights == 2) (rights_after rules r m later) ≡ true
unfolding rights_after
rights_after-each rules r m later = refl

pub next_repeat-sizes : (rules : Rules) (r : Repeat) (m : Move) → HasSizes r → HasSizes (next_repeat rules r m)
unfolding next_repeat
next_repeat-sizes rules r m h =
    let hands = hands_after-size rules r m (record { two = h.hands; each = h.each_hand }) in
    record {
      cells = cells_after-size rules r m ∙ h.cells;
      hands = hands.two;
      each_hand = hands.each;
      gates = gates_after-size rules r m;
      each_gate = gates_after-each rules r m h.gates h.each_gate;
      rights = rights_after-size rules r m (cells_after rules r m);
      each_right = rights_after-each rules r m (cells_after rules r m);
      checks = checks_after-size rules r (cells_after rules r m) ∙ h.checks;
    }

pub next-sizes : (rules : Rules) (p : Position) (m : Move) → HasSizes (repeat_of p) → HasSizes (repeat_of (next rules p m))
next-sizes rules p m h = subst HasSizes (sym (next-is rules p m)) (next_repeat-sizes rules (repeat_of p) m h)
