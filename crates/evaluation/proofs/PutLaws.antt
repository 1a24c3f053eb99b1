-- The sums of a board of which a square is written, and of hands of which a count is.
use Rattle.std.proofs.Common.{◌≡◌, ◌≢◌, ℕ, ◌+◌, ◌*◌, ◌^◌, ◌<◌, ◌≤◌, Bool, true, false, Option, Some, None, List, length, sum_by, refl, sym, ap, ◌∙◌, arith, w64}
use Rattle.std.specs.Prelude.{slice_set, ℤ, pos, negsuc, if◌then◌else◌}
use Rattle.std.specs.Int.{saturate_signed}
use Rattle.std.proofs.lemmas.Int.{ints, clamps}
use Rattle.std.proofs.Math.Nat.{mul-le-mul_left, mul-le-mul_right}
use Rattle.foundation.specs.Count.{below}
use Rattle.foundation.proofs.SetLemmas.{slice_get-set_same, slice_get-set_other}
use Rattle.rules_model.specs.declared.board.Cell.{Cell}
use Rattle.rules_model.specs.declared.board.Side.{Side}
use Rattle.rules_model.specs.declared.board.Side.TheVariants.{White, Black}
use Rattle.rules_model.specs.declared.rules.Rules.{Rules}
use Rattle.rules_model.specs.Hands.{in_hand}
use Rattle.rules_model.specs.Sides.{same_side}
use Rattle.rules_model.specs.Squares.{cell_at, flat}
use Rattle.evaluation.specs.declared.tally.Tally.{Tally}
use Rattle.evaluation.specs.Evaluation.{board_worth, clamped, evaluation, hand_worth, kind_worth, piece_worth, worth_on}
use Rattle.evaluation.specs.Tallies.{AreSums, tally_value, ValuesPositions}
use Rattle.evaluation.specs.PieceValues.{AreFew}
use Rattle.evaluation.specs.Writes.{AddsPiece, Counts, DropsPiece, HoldsFew, IsMore, IsSmall, PutsOn}
use Rattle.evaluation.proofs.SumLaws.{sum-but-one, sum-few, sum-more, sum-none}

-- ---- how large they are

pub piece_few : (rules : Rules) (side : Side) (s : ℕ) (cell : Option Cell) → AreFew rules → s < 120
    → piece_worth rules side s cell ≤ 7780
piece_few rules side s None few l = omega arith
piece_few rules side s (Some c) few l = by_side (same_side c.side side)
  where
    by_side : (b : Bool) → (if b then worth_on rules c.kind s else 0) ≤ 7780
    by_side true = few.pieces c.kind s l
    by_side false = omega arith

pub board_few : (rules : Rules) (cells : List (Option Cell)) (side : Side) → AreFew rules
    → board_worth rules cells side ≤ 933600
unfolding board_worth
board_few rules cells side few =
    let h = sum-few (λ s. piece_worth rules side s (cell_at cells s)) 120 7780 (λ s l. piece_few rules side s (cell_at cells s) few l) in
    omega (arith, h)

pub held_few : (number worth most : ℕ) → number ≤ most → worth ≤ 7700 → number * worth ≤ most * 7700
held_few number worth most few small =
    let a = mul-le-mul_right worth few in
    let b = mul-le-mul_left most small in
    omega (arith, a, b)

pub hand_few : (rules : Rules) (hands : List (List ℕ)) (side : Side) → AreFew rules → HoldsFew 1000 hands
    → hand_worth rules hands side ≤ 200200000
unfolding hand_worth
hand_few rules hands side few held =
    let h = sum-few (λ k. in_hand hands side (record { 0 = k }) * kind_worth rules (record { 0 = k })) 26 7700000
    (λ k l. held_few _ _ 1000 (held side (record { 0 = k })) (few.kinds (record { 0 = k }))) in
    omega (arith, h)

-- ---- a square is written

cell_same : (cells : List (Option Cell)) (at : ℕ) (c : Option Cell) → at < length cells
    → cell_at (slice_set cells at c) at ≡ c
cell_same cells at c l = ap flat (slice_get-set_same cells at c l)

pub cell_other : (cells : List (Option Cell)) (at s : ℕ) (c : Option Cell) → s ≢ at
    → cell_at cells s ≡ cell_at (slice_set cells at c) s
cell_other cells at s c other = ap flat (sym (slice_get-set_other cells at s c (λ e. other (sym e))))

pub board-set : (rules : Rules) (side : Side) (cells : List (Option Cell)) (at : ℕ) (c : Option Cell) → at < 120
    → length cells ≡ 120
    → board_worth rules (slice_set cells at c) side + piece_worth rules side at (cell_at cells at) ≡ board_worth rules cells side + piece_worth rules side at c
unfolding board_worth
board-set rules side cells at c l size =
    let f : ℕ → ℕ = λ s. piece_worth rules side s (cell_at cells s) in
    let g : ℕ → ℕ = λ s. piece_worth rules side s (cell_at (slice_set cells at c) s) in
    let h = sum-but-one f g 120 at l (λ s other. ap (piece_worth rules side s) (cell_other cells at s c other)) in
    let e : g at ≡ piece_worth rules side at c = ap (piece_worth rules side at) (cell_same cells at c (omega (arith, l, size))) in
    h ∙ ap (λ n. sum_by f (below 120) + n) e

-- the sums without what stands on the square
abbrev rest : Rules → List (Option Cell) → List (List ℕ) → ℕ → Side → ℕ
rest rules cells hands at side = board_worth rules (slice_set cells at None) side + hand_worth rules hands side

counts : (tally : Tally) (a b c d : ℕ) → a ≡ c → b ≡ d → Counts tally a b → Counts tally c d
counts tally a b c d p q h = rw (← p, ← q) h

sums_at : (rules : Rules) (cells : List (Option Cell)) (hands : List (List ℕ)) (side : Side) (at : ℕ) (c : Option Cell)
    → at < 120 → length cells ≡ 120
    → board_worth rules (slice_set cells at c) side + hand_worth rules hands side ≡ rest rules cells hands at side + piece_worth rules side at c
sums_at rules cells hands side at c l size =
    let a = board-set rules side cells at None l size in
    let b = board-set rules side cells at c l size in
    omega (arith, a, b)

sums_now : (rules : Rules) (cells : List (Option Cell)) (hands : List (List ℕ)) (side : Side) (at : ℕ) (c : Option Cell)
    → at < 120 → length cells ≡ 120 → cell_at cells at ≡ c
    → board_worth rules cells side + hand_worth rules hands side ≡ rest rules cells hands at side + piece_worth rules side at c
sums_now rules cells hands side at c l size is =
    let a = board-set rules side cells at None l size in
    let b : board_worth rules (slice_set cells at None) side + piece_worth rules side at c ≡ board_worth rules cells side + 0 = rw (← is) a in
    omega (arith, b)

pub puts_on : (rules : Rules) (at : ℕ) (before after : Option Cell) (old mid new : Tally) → at < 120 → AreFew rules
    → DropsPiece rules at before old mid → AddsPiece rules at after mid new → PutsOn rules at before after old new
puts_on rules at before after old mid new l few drops adds cells hands size held is sums =
    let w = rest rules cells hands at White in
    let b = rest rules cells hands at Black in
    let small : IsSmall w b = (
      omega (arith, board_few rules (slice_set cells at None) White few, hand_few rules hands White few held),
      omega (arith, board_few rules (slice_set cells at None) Black few, hand_few rules hands Black few held),
    ) in
    let now : Counts old (w + piece_worth rules White at before) (b + piece_worth rules Black at before) =
    record {
      white_is = sums.white ∙ ap pos (sums_now rules cells hands White at before l size is);
      black_is = sums.black ∙ ap pos (sums_now rules cells hands Black at before l size is);
    } in
    let there = adds w b small (drops w b now) in
    record {
      white = there.white_is ∙ sym (ap pos (sums_at rules cells hands White at after l size));
      black = there.black_is ∙ sym (ap pos (sums_at rules cells hands Black at after l size));
    }

-- ---- a board and a hand are gone through

unfoldable pub board_part : Rules → List (Option Cell) → Side → ℕ → ℕ
board_part rules cells side n = sum_by (λ s. piece_worth rules side s (cell_at cells s)) (below n)

unfoldable pub hand_part : Rules → List (List ℕ) → Side → ℕ → ℕ
hand_part rules hands side n = sum_by (λ k. in_hand hands side (record { 0 = k }) * kind_worth rules (record { 0 = k })) (below n)

pub record IsBoardPart (rules : Rules) (cells : List (Option Cell)) (n : ℕ) (tally : Tally) : Type 0 where
  pub counts : Counts tally (board_part rules cells White n) (board_part rules cells Black n)

pub record IsHandPart (rules : Rules) (hands : List (List ℕ)) (side : Side) (n worth : ℕ) : Type 0 where
  pub is : worth ≡ hand_part rules hands side n
  pub few : worth ≤ 2000000 * n

pub board_none : (rules : Rules) (cells : List (Option Cell))
    → IsBoardPart rules cells 0 (record { white = pos 0; black = pos 0 })
unfolding board_part
board_none rules cells = record { counts = record { white_is = ap pos (sym (sum-none _)); black_is = ap pos (sym (sum-none _)) } }

part_few : (rules : Rules) (cells : List (Option Cell)) (side : Side) (n : ℕ) → AreFew rules → n ≤ 120
    → board_part rules cells side n ≤ n * 7780
unfolding board_part
part_few rules cells side n few l =
    sum-few (λ s. piece_worth rules side s (cell_at cells s)) n 7780 (λ s m. piece_few rules side s (cell_at cells s) few (omega (arith, l, m)))

part_more : (rules : Rules) (cells : List (Option Cell)) (side : Side) (n : ℕ)
    → board_part rules cells side (n + 1) ≡ board_part rules cells side n + piece_worth rules side n (cell_at cells n)
unfolding board_part
part_more rules cells side n = sum-more (λ s. piece_worth rules side s (cell_at cells s)) n

pub board_more : (rules : Rules) (cells : List (Option Cell)) (n : ℕ) (old new : Tally) → AreFew rules → n < 120
    → IsBoardPart rules cells n old → AddsPiece rules n (cell_at cells n) old new
    → IsBoardPart rules cells (n + 1) new
board_more rules cells n old new few l part adds =
    let small : IsSmall (board_part rules cells White n) (board_part rules cells Black n) = (
      omega (arith, part_few rules cells White n few (omega (arith, l)), l),
      omega (arith, part_few rules cells Black n few (omega (arith, l)), l),
    ) in
    let there = adds _ _ small part.counts in
    record {
      counts = record {
        white_is = there.white_is ∙ ap pos (sym (part_more rules cells White n));
        black_is = there.black_is ∙ ap pos (sym (part_more rules cells Black n));
      };
    }

whole : (rules : Rules) (cells : List (Option Cell)) (side : Side) (n : ℕ) → n ≡ 120
    → board_part rules cells side n ≡ board_worth rules cells side
unfolding board_part board_worth
whole rules cells side n e = rw e refl

pub board_whole : (rules : Rules) (cells : List (Option Cell)) (n : ℕ) (tally : Tally) → n ≤ 120 → 120 ≤ n
    → IsBoardPart rules cells n tally → Counts tally (board_worth rules cells White) (board_worth rules cells Black)
board_whole rules cells n tally l m part =
    let e : n ≡ 120 = omega (arith, l, m) in
    record {
      white_is = part.counts.white_is ∙ ap pos (whole rules cells White n e);
      black_is = part.counts.black_is ∙ ap pos (whole rules cells Black n e);
    }

pub hand_none : (rules : Rules) (hands : List (List ℕ)) (side : Side) → IsHandPart rules hands side 0 0
unfolding hand_part
hand_none rules hands side = record { is = sym (sum-none _); few = omega arith }

hand_part_more : (rules : Rules) (hands : List (List ℕ)) (side : Side) (n : ℕ)
    → hand_part rules hands side (n + 1) ≡ hand_part rules hands side n + in_hand hands side (record { 0 = n }) * kind_worth rules (record { 0 = n })
unfolding hand_part
hand_part_more rules hands side n = sum-more (λ k. in_hand hands side (record { 0 = k }) * kind_worth rules (record { 0 = k })) n

-- one kind more
pub hand_more : (rules : Rules) (hands : List (List ℕ)) (side : Side) (n number worth old : ℕ)
    → IsHandPart rules hands side n old → number ≡ in_hand hands side (record { 0 = n })
    → worth ≡ kind_worth rules (record { 0 = n }) → number < 256 → worth ≤ 7700
    → IsHandPart rules hands side (n + 1) (old + number * worth)
hand_more rules hands side n number worth old part number_is worth_is held few =
    let product : number * worth ≡ in_hand hands side (record { 0 = n }) * kind_worth rules (record { 0 = n }) = rw (number_is, worth_is) refl in
    let small = held_few number worth 255 (omega (arith, held)) few in
    let more = hand_part_more rules hands side n in
    record {
      is = omega (arith, more, product, part.is);
      few = omega (arith, small, part.few);
    }

-- and its sum fits
pub hand_room : (n number worth old : ℕ) → old ≤ 2000000 * n → n < 26 → number < 256 → worth ≤ 7700
    → (number * worth < 2 ^ 32) × (old + number * worth < 2 ^ 32)
hand_room n number worth old few l held small =
    let product = held_few number worth 255 (omega (arith, held)) small in
    (omega (arith, product), omega (arith, product, few, l))

pub hand_whole : (rules : Rules) (hands : List (List ℕ)) (side : Side) (n worth : ℕ) → n ≤ 26 → 26 ≤ n
    → IsHandPart rules hands side n worth → (worth ≡ hand_worth rules hands side) × (worth ≤ 52000000)
unfolding hand_part hand_worth
hand_whole rules hands side n worth l m part =
    let e : n ≡ 26 = omega (arith, l, m) in
    (part.is ∙ rw e refl, omega (arith, part.few, e))

-- ---- the sums of a position

pub sums_of : (rules : Rules) (cells : List (Option Cell)) (hands : List (List ℕ)) (board mid new : Tally) (white black : ℕ)
    → AreFew rules → Counts board (board_worth rules cells White) (board_worth rules cells Black)
    → white ≡ hand_worth rules hands White → black ≡ hand_worth rules hands Black → white ≤ 52000000
    → IsMore White white board mid → IsMore Black black mid new → AreSums rules cells hands new
sums_of rules cells hands board mid new white black few counts white_is black_is small first second =
    let a = board_few rules cells White few in
    let b = board_few rules cells Black few in
    let one = first _ _ (omega (arith, a), omega (arith, b)) counts in
    let two = second _ _ (omega (arith, a, small), omega (arith, b)) one in
    record {
      white = two.white_is ∙ ap pos (omega (arith, white_is));
      black = two.black_is ∙ ap pos (omega (arith, black_is));
    }

pub values : (tally : Tally) (side : Side) (v : ℤ) → v ≡ tally_value tally side → ValuesPositions tally side v
unfolding evaluation
values tally White v is rules p sums side_is = rw (side_is, ← sums.white, ← sums.black) is
values tally Black v is rules p sums side_is = rw (side_is, ← sums.white, ← sums.black) is

-- where the difference is larger than a machine's number, both ends are beyond
pub saturated : (z : ℤ) → clamped (saturate_signed w64 z) ≡ clamped z
saturated (pos n) = omega (arith, ints, clamps)
saturated (negsuc n) = omega (arith, ints, clamps)
