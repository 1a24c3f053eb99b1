-- The other fields that are printed are read back.
use Rattle.std.proofs.Common.{◌≡◌, ◌≢◌, ℕ, ◌+◌, ◌/◌, ◌%◌, ◌^◌, ◌<◌, ◌≤◌, nat_lt, nat_le, ◌==◌, Bool, true, false, ◌&&◌, ◌||◌, not, List, [], ◌∷◌, ◌++◌, length, slice_index, Option, Some, None, Ok, refl, sym, ap, ◌∙◌, arith, subst}
use Rattle.std.specs.Fmt.{decimal}
use Rattle.std.specs.List.{list_all, slice_split}
use Rattle.std.proofs.lemmas.Bool.{leb-true, le-leb, ltb-true, eqb-true, and_from, and_parts, not-true}
use Rattle.foundation.specs.Count.{all_below}
use Rattle.foundation.proofs.CountLemmas.{all_below-each}
use Rattle.rules_model.specs.declared.board.Cell.{Cell}
use Rattle.rules_model.specs.declared.board.Repeat.{Repeat}
use Rattle.rules_model.specs.declared.board.Side.{Side}
use Rattle.rules_model.specs.declared.board.Side.TheVariants.{White, Black}
use Rattle.rules_model.specs.declared.board.Square.{Square}
use Rattle.rules_model.specs.declared.rules.Rules.{Rules}
use Rattle.rules_model.specs.Attacks.{ahead, pawn_at, pawn_could_take}
use Rattle.rules_model.specs.Kinds.{board_of}
use Rattle.rules_model.specs.MoveText.{square_text}
use Rattle.rules_model.specs.Pawns.{is_free}
use Rattle.rules_model.specs.Sides.{other, side_index}
use Rattle.rules_model.specs.Sound.{is_sound_ep, lies_in, on_board}
use Rattle.fen_model.specs.Counts.{checks_in, checks_of, is_plus, side_of, two_checks}
use Rattle.fen_model.specs.Fields.{no_text, says_none}
use Rattle.foundation.specs.Numbers.{are_digits, is_digit, is_number, number_of, value_after}
use Rattle.fen_model.specs.Passed.{is_passed, passed_at, passed_of, square_named}
use Rattle.fen_model.specs.Printing.{ep_text, side_text}
use Rattle.fen_model.proofs.DecimalLaws.{decimal-writes, number-back}
use Rattle.fen_model.proofs.JoinLaws.{Each, Lacks, lacks-from, split-join}

-- ---- the side

pub side-back : (side : Side) → side_of (side_text side) ≡ Ok side
unfolding side_of
side-back White = refl
side-back Black = refl

-- ---- en passant

same_square : (a b : Square) → a.0 ≡ b.0 → a ≡ b
same_square a b e = rw e refl

abbrev is_square : ℕ → Option Square → Bool
is_square s None = false
is_square s (Some named) = named.0 == s

each_named : all_below (λ s. is_square s (square_named (square_text (record { 0 = s })))) 120 ≡ true
unfolding all_below number_of is_number are_digits value_after
each_named = refl

each_is_no_dash : all_below (λ s. not (says_none (square_text (record { 0 = s })))) 120 ≡ true
unfolding all_below
each_is_no_dash = refl

-- a letter of a file or a digit
abbrev pub is_square_byte : ℕ → Bool
is_square_byte b = (nat_le 48 b && nat_le b 57) || (nat_le 97 b && nat_le b 108)

each_byte : all_below (λ s. list_all is_square_byte (square_text (record { 0 = s })) && nat_le (length (square_text (record { 0 = s }))) 3) 120 ≡ true
unfolding all_below
each_byte = refl

named_is : (s : Square) (o : Option Square) → is_square s.0 o ≡ true → o ≡ Some s
named_is s None h = cc
named_is s (Some named) h = let e = eqb-true named.0 s.0 h in ap Some (same_square named s e)

pub square-back : (s : Square) → s.0 < 120 → square_named (square_text s) ≡ Some s
square-back s below = named_is s (square_named (square_text s)) (all_below-each (λ k. is_square k (square_named (square_text (record { 0 = k })))) 120 each_named s.0 below)

square_no_dash : (s : Square) → s.0 < 120 → says_none (square_text s) ≡ false
square_no_dash s below = not-true _ (all_below-each (λ k. not (says_none (square_text (record { 0 = k })))) 120 each_is_no_dash s.0 below)

abbrev sized_byte : ℕ → Bool
sized_byte k = list_all is_square_byte (square_text (record { 0 = k })) && nat_le (length (square_text (record { 0 = k }))) 3

on_board_small : (rules : Rules) (s : ℕ) → rules.files ≤ 12 → rules.ranks ≤ 10 → on_board rules s ≡ true → s < 120
on_board_small rules s files ranks h =
    let both = and_parts (nat_lt (s % 12) rules.files) (nat_lt (s / 12) rules.ranks) h in
    let rank = ltb-true _ _ both.1 in
    omega (arith, rank, ranks)

passed_parts : (a b c d e f g : Bool) → (a && (b && c && d && e && f && g)) ≡ true → ((a && b && c && d && e && f) ≡ true) × (g ≡ true)
passed_parts true true true true true true true h = (refl, refl)
passed_parts true true true true true true false h = cc
passed_parts true true true true true false g h = cc
passed_parts true true true true false f g h = cc
passed_parts true true true false e f g h = cc
passed_parts true true false d e f g h = cc
passed_parts true false c d e f g h = cc
passed_parts false b c d e f g h = cc

sound_passed : (rules : Rules) (r : Repeat) (s : Square) → is_sound_ep rules r (Some s) ≡ true → (is_passed rules r.cells r.side s ≡ true) × (pawn_could_take rules r.cells r.side s ≡ true)
unfolding is_passed
sound_passed rules r s h =
    passed_parts (on_board rules s.0) rules.double_step (is_free r.cells (Some s.0)) (is_free r.cells (ahead (board_of rules) r.side s 1))
    (lies_in rules.double_region (other r.side) (ahead (board_of rules) r.side s 1)) (pawn_at rules r.cells (other r.side) (ahead (board_of rules) (other r.side) s 1))
    (pawn_could_take rules r.cells r.side s) h

passed_at-kept : (rules : Rules) (cells : List (Option Cell)) (side : Side) (s : Square) → is_passed rules cells side s ≡ true → pawn_could_take rules cells side s ≡ true → passed_at rules cells side (Some s) ≡ Ok (Some s)
passed_at-kept rules cells side s passed takes = rw (passed, takes) refl

passed_of-square : (rules : Rules) (cells : List (Option Cell)) (side : Side) (text : List ℕ) → says_none text ≡ false → passed_of rules cells side text ≡ passed_at rules cells side (square_named text)
unfolding passed_of
passed_of-square rules cells side text some = rw some refl

passed_of-none : (rules : Rules) (cells : List (Option Cell)) (side : Side) → passed_of rules cells side no_text ≡ Ok None
unfolding passed_of
passed_of-none rules cells side = refl

-- the en passant square of a sound position
pub ep-back : (rules : Rules) (r : Repeat) (ep : Option Square) → rules.files ≤ 12 → rules.ranks ≤ 10 → is_sound_ep rules r ep ≡ true → passed_of rules r.cells r.side (ep_text ep) ≡ Ok ep
ep-back rules r None files ranks h = passed_of-none rules r.cells r.side
ep-back rules r (Some s) files ranks h =
    let below = on_board_small rules s.0 files ranks (and_parts (on_board rules s.0) _ h).0 in
    let both = sound_passed rules r s h in
    passed_of-square rules r.cells r.side (square_text s) (square_no_dash s below)
    ∙ ap (passed_at rules r.cells r.side) (square-back s below) ∙ passed_at-kept rules r.cells r.side s both.0 both.1

pub ep_text-sized : (rules : Rules) (r : Repeat) (ep : Option Square) → rules.files ≤ 12 → rules.ranks ≤ 10 → is_sound_ep rules r ep ≡ true → (Lacks 32 (ep_text ep)) × (length (ep_text ep) ≤ 3)
ep_text-sized rules r None files ranks h = (refl, omega arith)
ep_text-sized rules r (Some s) files ranks h =
    let below = on_board_small rules s.0 files ranks (and_parts (on_board rules s.0) _ h).0 in
    let both = and_parts _ _ (all_below-each sized_byte 120 each_byte s.0 below) in
    (lacks-from is_square_byte 32 (square_text s) refl both.0, leb-true _ _ both.1)

-- ---- checks left

two_back : (white black : ℕ) → white ≤ 99 → black ≤ 99 → two_checks (Some white) (Some black) ≡ Ok (white ∷ black ∷ [])
two_back white black w b = let test = and_from _ _ (le-leb _ _ w) (le-leb _ _ b) in rw test refl

abbrev pub checks_text : ℕ → ℕ → List ℕ
checks_text white black = decimal white ++ 43 ∷ decimal black

checks_of-two : (white black : ℕ) → white ≤ 99 → black ≤ 99 → checks_of (checks_text white black) ≡ Ok (white ∷ black ∷ [])
unfolding checks_of
checks_of-two white black w b =
    let first = decimal-writes white (omega arith) in
    let second = decimal-writes black (omega arith) in
    let parts : slice_split is_plus (checks_text white black) ≡ decimal white ∷ decimal black ∷ [] =
    split-join 43 (decimal white) (decimal black ∷ []) (lacks-from is_digit 43 (decimal white) refl first.digits, (lacks-from is_digit 43 (decimal black) refl second.digits, tt)) in
    ap checks_in parts ∙ ap (λ o. two_checks o (number_of (decimal black))) (number-back white (omega arith)) ∙ ap (two_checks (Some white)) (number-back black (omega arith)) ∙ two_back white black w b

pub checks-back : (checks : List ℕ) → length checks ≡ 2 → ((side : Side) → slice_index checks (side_index side) ≤ 99) → checks_of (checks_text (slice_index checks 0) (slice_index checks 1)) ≡ Ok checks
checks-back [] two most = absurd (omega arith)
checks-back (x ∷ []) two most = absurd (omega arith)
checks-back (x ∷ y ∷ []) two most = checks_of-two x y (most White) (most Black)
checks-back (x ∷ y ∷ z ∷ checks) two most = absurd (omega arith)
