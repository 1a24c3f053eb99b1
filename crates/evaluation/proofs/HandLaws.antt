-- The sums of hands of which a count is written.
use Rattle.std.proofs.Common.{◌≡◌, ◌≢◌, ◌⊎◌, inl, inr, ℕ, ◌+◌, ◌-◌, ◌*◌, ◌<◌, ◌≤◌, ◌==◌, Bool, true, false, Option, Some, None, List, [], length, sum_by, sym, ap, ◌∙◌, arith, slice_index}
use Rattle.std.specs.Prelude.{slice_set, pos, if◌then◌else◌}
use Rattle.std.proofs.Math.Nat.{add-mul}
use Rattle.std.proofs.lemmas.Bool.{cases_lt, ltb-true}
use Rattle.std.proofs.lemmas.Bool.Decides.{Decides-eqb}
use Rattle.std.proofs.lemmas.List.{get_or-set_same, get_or-set_other, get_or_past, length-set}
use Rattle.foundation.specs.Count.{below}
use Rattle.foundation.proofs.SetLemmas.{list_all-get, list_all-set}
use Rattle.rules_model.specs.declared.board.Cell.{Cell}
use Rattle.rules_model.specs.declared.board.Kind.{Kind}
use Rattle.rules_model.specs.declared.board.Position.{Position}
use Rattle.rules_model.specs.declared.board.Side.{Side}
use Rattle.rules_model.specs.declared.board.Side.TheVariants.{White, Black}
use Rattle.rules_model.specs.declared.rules.Rules.{Rules}
use Rattle.rules_model.specs.Hands.{hand_of, holds, in_hand, put_down, taken_in, with_hand}
use Rattle.rules_model.specs.Next.{hand_kind, take_into}
use Rattle.rules_model.specs.Repeats.{repeat_of}
use Rattle.rules_model.specs.Sides.{other, side_index}
use Rattle.rules_model.specs.Sizes.{HasSizes}
use Rattle.evaluation.specs.declared.tally.Tally.{Tally}
use Rattle.evaluation.specs.Evaluation.{board_worth, hand_worth, kind_worth}
use Rattle.evaluation.specs.PieceValues.{AreFew}
use Rattle.evaluation.specs.Writes.{AreHands, HandsGoTo, HandStep, IsLess, IsMore, PutsDown}
use Rattle.evaluation.proofs.PutLaws.{board_few, hand_few}
use Rattle.evaluation.proofs.SumLaws.{sum-but-one, sum-same}

pub sized : (p : Position) → HasSizes (repeat_of p) → AreHands p.hands
sized p sizes = record { size = sizes.hands; each = sizes.each_hand }

side_below : (side : Side) → side_index side < 2
side_below White = omega arith
side_below Black = omega arith

prove_hand_size : (hands : List (List ℕ)) (side : Side) → AreHands hands → length (hand_of hands side) ≡ 26
prove_hand_size hands side are =
    (Decides-eqb (length (hand_of hands side)) 26).0
    (list_all-get (λ (hand : List ℕ). length hand == 26) hands (side_index side) [] (omega (arith, side_below side, are.size)) are.each)

-- ---- a count is written

module _ (hands : List (List ℕ)) (side : Side) (kind : Kind) (n : ℕ) (are : AreHands hands) where
  own_hand : hand_of (with_hand hands side kind n) side ≡ slice_set (hand_of hands side) kind.0 n
  own_hand = get_or-set_same hands (side_index side) (slice_set (hand_of hands side) kind.0 n) [] (omega (arith, side_below side, are.size))

  pub held_then : kind.0 < 26 → in_hand (with_hand hands side kind n) side kind ≡ n
  held_then l =
      ap (λ hand. slice_index hand kind.0) own_hand
      ∙ get_or-set_same (hand_of hands side) kind.0 n 0 (omega (arith, l, prove_hand_size hands side are))

  pub held_beside : (k : ℕ) → k ≢ kind.0
      → in_hand (with_hand hands side kind n) side (record { 0 = k }) ≡ in_hand hands side (record { 0 = k })
  held_beside k apart = ap (λ hand. slice_index hand k) own_hand ∙ get_or-set_other (hand_of hands side) kind.0 k n 0 apart

  hand-set : (rules : Rules) → kind.0 < 26
      → hand_worth rules (with_hand hands side kind n) side + in_hand hands side kind * kind_worth rules kind ≡ hand_worth rules hands side + n * kind_worth rules kind
  unfolding hand_worth
  hand-set rules l =
      let f : ℕ → ℕ = λ k. in_hand hands side (record { 0 = k }) * kind_worth rules (record { 0 = k }) in
      let g : ℕ → ℕ = λ k. in_hand (with_hand hands side kind n) side (record { 0 = k }) * kind_worth rules (record { 0 = k }) in
      let h = sum-but-one f g 26 kind.0 l (λ k apart. ap (λ m. m * kind_worth rules (record { 0 = k })) (sym (held_beside k apart))) in
      h ∙ ap (λ m. sum_by f (below 26) + m * kind_worth rules kind) (held_then l)

apart_from : (side : Side) → side_index (other side) ≢ side_index side
apart_from White = λ e. cc
apart_from Black = λ e. cc

other_hand : (rules : Rules) (hands : List (List ℕ)) (side : Side) (kind : Kind) (n : ℕ)
    → hand_worth rules (with_hand hands side kind n) (other side) ≡ hand_worth rules hands (other side)
unfolding hand_worth
other_hand rules hands side kind n =
    let same : hand_of (with_hand hands side kind n) (other side) ≡ hand_of hands (other side) =
    get_or-set_other hands (side_index side) (side_index (other side)) (slice_set (hand_of hands side) kind.0 n) [] (apart_from side) in
    sum-same _ _ 26 (λ k l. ap (λ hand. slice_index hand k * kind_worth rules (record { 0 = k })) same)

-- ---- one more, and one less

plus_one : (n worth : ℕ) → (n + 1) * worth ≡ n * worth + worth
plus_one n worth = let h = add-mul n 1 worth in omega (arith, h)

raised_hand : (rules : Rules) (hands : List (List ℕ)) (side : Side) (kind : Kind) → AreHands hands → kind.0 < 26
    → hand_worth rules (taken_in hands side kind) side ≡ hand_worth rules hands side + kind_worth rules kind
raised_hand rules hands side kind are l =
    let h = hand-set hands side kind (in_hand hands side kind + 1) are rules l in
    let k = plus_one (in_hand hands side kind) (kind_worth rules kind) in
    omega (arith, h, k)

lowered_hand : (rules : Rules) (hands : List (List ℕ)) (side : Side) (kind : Kind) (n : ℕ) → AreHands hands
    → kind.0 < 26 → in_hand hands side kind ≡ n + 1
    → hand_worth rules (put_down hands side kind) side + kind_worth rules kind ≡ hand_worth rules hands side
lowered_hand rules hands side kind n are l held =
    let h = hand-set hands side kind (in_hand hands side kind - 1) are rules l in
    let before = ap (λ m. m * kind_worth rules kind) held in
    let less : in_hand hands side kind - 1 ≡ n = omega (arith, held) in
    let after = ap (λ m. m * kind_worth rules kind) less in
    let k = plus_one n (kind_worth rules kind) in
    omega (arith, h, before, after, k)

pub takes_in : (rules : Rules) (side : Side) (kind : Kind) (worth : ℕ) (old new : Tally) → AreFew rules → kind.0 < 26
    → worth ≡ kind_worth rules kind → IsMore side worth old new
    → HandStep rules (λ hands. taken_in hands side kind) old new
takes_in rules White kind worth old new few l is more cells hands are held sums =
    let there = more (board_worth rules cells White + hand_worth rules hands White) (board_worth rules cells Black + hand_worth rules hands Black)
    (omega (arith, board_few rules cells White few, hand_few rules hands White few held), omega (arith, board_few rules cells Black few, hand_few rules hands Black few held))
    (record { white_is = sums.white; black_is = sums.black }) in
    let own = raised_hand rules hands White kind are l in
    let beside = other_hand rules hands White kind (in_hand hands White kind + 1) in
    record { white = there.white_is ∙ ap pos (omega (arith, own, is)); black = there.black_is ∙ ap pos (omega (arith, beside)) }
takes_in rules Black kind worth old new few l is more cells hands are held sums =
    let there = more (board_worth rules cells White + hand_worth rules hands White) (board_worth rules cells Black + hand_worth rules hands Black)
    (omega (arith, board_few rules cells White few, hand_few rules hands White few held), omega (arith, board_few rules cells Black few, hand_few rules hands Black few held))
    (record { white_is = sums.white; black_is = sums.black }) in
    let own = raised_hand rules hands Black kind are l in
    let beside = other_hand rules hands Black kind (in_hand hands Black kind + 1) in
    record { white = there.white_is ∙ ap pos (omega (arith, beside)); black = there.black_is ∙ ap pos (omega (arith, own, is)) }

held_letter : (hands : List (List ℕ)) (side : Side) (kind : Kind) → AreHands hands → 0 < in_hand hands side kind
    → kind.0 < 26
held_letter hands side kind are some = by_letter (cases_lt kind.0 26)
  where
    by_letter : (kind.0 < 26) ⊎ (26 ≤ kind.0) → kind.0 < 26
    by_letter (inl l) = l
    by_letter (inr l) = absurd (omega (arith, some, get_or_past (hand_of hands side) kind.0 0 (omega (arith, l, prove_hand_size hands side are))))

pub puts_down : (rules : Rules) (side : Side) (kind : Kind) (held : Bool) (worth : ℕ) (old new : Tally) → held ≡ true
    → worth ≡ kind_worth rules kind → IsLess side worth old new → PutsDown rules side kind held old new
puts_down rules White kind held worth old new true_is is less cells hands are held_is sums =
    let some : 0 < in_hand hands White kind = ltb-true 0 (in_hand hands White kind) (sym held_is ∙ true_is) in
    let own = lowered_hand rules hands White kind (in_hand hands White kind - 1) are (held_letter hands White kind are some) (omega (arith, some)) in
    let beside = other_hand rules hands White kind (in_hand hands White kind - 1) in
    let there = less (board_worth rules cells White + hand_worth rules (put_down hands White kind) White) (board_worth rules cells Black + hand_worth rules (put_down hands White kind) Black)
    (record { white_is = sums.white ∙ ap pos (omega (arith, own, is)); black_is = sums.black ∙ ap pos (omega (arith, beside)) }) in
    record { white = there.white_is; black = there.black_is }
puts_down rules Black kind held worth old new true_is is less cells hands are held_is sums =
    let some : 0 < in_hand hands Black kind = ltb-true 0 (in_hand hands Black kind) (sym held_is ∙ true_is) in
    let own = lowered_hand rules hands Black kind (in_hand hands Black kind - 1) are (held_letter hands Black kind are some) (omega (arith, some)) in
    let beside = other_hand rules hands Black kind (in_hand hands Black kind - 1) in
    let there = less (board_worth rules cells White + hand_worth rules (put_down hands Black kind) White) (board_worth rules cells Black + hand_worth rules (put_down hands Black kind) Black)
    (record { white_is = sums.white ∙ ap pos (omega (arith, beside)); black_is = sums.black ∙ ap pos (omega (arith, own, is)) }) in
    record { white = there.white_is; black = there.black_is }

-- ---- a piece is taken, and another placed

kept : (hands : List (List ℕ)) (side : Side) (kind : Kind) (n : ℕ) → AreHands hands
    → AreHands (with_hand hands side kind n)
kept hands side kind n are =
    let whole : length (slice_set (hand_of hands side) kind.0 n) ≡ 26 = length-set (hand_of hands side) kind.0 n ∙ prove_hand_size hands side are in
    record {
      size = length-set hands (side_index side) (slice_set (hand_of hands side) kind.0 n) ∙ are.size;
      each = list_all-set (λ (hand : List ℕ). length hand == 26) hands (side_index side) (slice_set (hand_of hands side) kind.0 n) ((Decides-eqb _ 26).1 whole) are.each;
    }

taken_kept : (to_hand : Bool) (hands : List (List ℕ)) (side : Side) (taken : Option Cell) → AreHands hands
    → AreHands (take_into to_hand hands side taken)
taken_kept to_hand hands side None are = are
taken_kept to_hand hands side (Some c) are = by_rule to_hand
  where
    by_rule : (b : Bool) → AreHands (if b then taken_in hands side (hand_kind c) else hands)
    by_rule true = kept hands side (hand_kind c) (in_hand hands side (hand_kind c) + 1) are
    by_rule false = are

pub taken_and_placed : (rules : Rules) (hands : List (List ℕ)) (side : Side) (taken : Option Cell) (kind : Kind) (held : Bool) (old mid new : Tally)
    → AreHands hands
    → HandStep rules (λ hands. take_into rules.to_hand hands side taken) old mid
    → held ≡ holds (take_into rules.to_hand hands side taken) side kind → PutsDown rules side kind held mid new
    → HandsGoTo rules hands (put_down (take_into rules.to_hand hands side taken) side kind) old new
taken_and_placed rules hands side taken kind held old mid new are takes held_is puts cells few sums =
    puts cells (take_into rules.to_hand hands side taken) (taken_kept rules.to_hand hands side taken are) held_is (takes cells hands are few sums)
