-- Reading the text of a sound position gives the position back.
use Rattle.std.proofs.Common.{◌≡◌, ◌⊎◌, inl, inr, ℕ, ◌+◌, ◌^◌, ◌<◌, ◌≤◌, max, nat_lt, nat_le, ◌==◌, Bool, true, false, ◌&&◌, ◌||◌, not, List, [], ◌∷◌, ◌++◌, length, slice_index, take, drop, Option, Some, None, Ok, if◌then◌else◌, refl, sym, ap, ◌∙◌, arith, subst, ⊎_elim, length-append}
use Rattle.std.specs.Fmt.{decimal}
use Rattle.std.specs.List.{join_with_byte, list_all, position_or_len, slice_split}
use Rattle.std.proofs.Math.Seq.{take-append_seam, drop-append_seam}
use Rattle.std.proofs.lemmas.Bool.{cases_Bool, le-ltb, eq-eqb, eqb-true, and_from, and_parts}
use Rattle.std.proofs.lemmas.Fmt.{length-decimal-le}
use Rattle.std.proofs.lemmas.List.{append-nil, drop_all, take_all}
use Rattle.std.proofs.lemmas.List.Folds.{list_all-append}
use Rattle.foundation.proofs.CountLemmas.{all_below-each}
use Rattle.rules_model.specs.declared.board.Position.{Position}
use Rattle.rules_model.specs.declared.board.Side.{Side}
use Rattle.rules_model.specs.declared.board.Side.TheVariants.{White, Black}
use Rattle.rules_model.specs.declared.rules.Rules.{Rules}
use Rattle.rules_model.specs.Fit.{IsFit}
use Rattle.rules_model.specs.Repeats.{repeat_of}
use Rattle.rules_model.specs.Sides.{side_index}
use Rattle.fen_model.specs.Chain.{or_fault}
use Rattle.fen_model.specs.Counts.{checks_of}
use Rattle.fen_model.specs.declared.fault.FenFault.TheVariants.{Length}
use Rattle.fen_model.specs.Fields.{Fields, fields, fields_in, fields_of, is_space, is_bracket, no_checks, pocket_place}
use Rattle.foundation.specs.Numbers.{are_digits, is_digit, is_number, number_of, value_after}
use Rattle.fen_model.specs.Printing.{board_text, checks_texts, ep_text, fen_text, field_texts, pocket_text, rights_text, side_text}
use Rattle.fen_model.specs.Reading.{Fen}
use Rattle.fen_model.specs.Says.{Says, TextSays}
use Rattle.fen_model.proofs.BackLaws.{IsGoodBoard, board-bytes, board-short, cells-back, good-board, is_board_byte}
use Rattle.fen_model.proofs.DecimalLaws.{count-back, decimal-writes}
use Rattle.fen_model.proofs.FieldBack.{checks-back, checks_text, ep-back, ep_text-sized, side-back}
use Rattle.fen_model.proofs.HandBack.{AreHeldSoundly, hands-back, is_pocket_byte, pocket-bytes, pocket-first, pocket-short}
use Rattle.fen_model.proofs.HandLaws.{IsHands}
use Rattle.fen_model.proofs.HeldBack.{held-back, rights-all, rights-no_number, rights-short}
use Rattle.fen_model.proofs.JoinLaws.{Each, Lacks, lacks-from, place-none, split-join}
use Rattle.fen_model.proofs.SaysLaws.{text_whole}
use Rattle.fen_model.proofs.SoundParts.{Parts, parts}

-- ---- the texts of the fields have no blank

side-lacks : (side : Side) → Lacks 32 (side_text side)
side-lacks White = refl
side-lacks Black = refl

decimal-lacks : (n : ℕ) → n < 2 ^ 64 → Lacks 32 (decimal n)
decimal-lacks n small = lacks-from is_digit 32 (decimal n) refl (decimal-writes n small).digits

abbrev is_checks_byte : ℕ → Bool
is_checks_byte b = is_digit b || b == 43

digits_checks : (text : List ℕ) → list_all is_digit text ≡ true → list_all is_checks_byte text ≡ true
digits_checks [] all = refl
digits_checks (b ∷ text) all =
    let both = and_parts (is_digit b) (list_all is_digit text) all in
    let first = both.0 in
    and_from _ _ (rw first refl) (digits_checks text both.1)

checks-lack : (white black : ℕ) → white ≤ 99 → black ≤ 99 → Lacks 32 (checks_text white black)
checks-lack white black w b =
    let first = digits_checks (decimal white) (decimal-writes white (omega arith)).digits in
    let second = digits_checks (decimal black) (decimal-writes black (omega arith)).digits in
    lacks-from is_checks_byte 32 (checks_text white black) refl
    (list_all-append is_checks_byte (decimal white) (43 ∷ decimal black) ∙ and_from _ _ first second)

hands_of-parts : (rules : Rules) (p : Position) → Parts rules p → IsHands p.hands
hands_of-parts rules p o = record { two = o.sizes.hands; each = o.sizes.each_hand }

held_soundly : (rules : Rules) (p : Position) → Parts rules p → AreHeldSoundly rules p.hands
held_soundly rules p o = λ side k below. all_below-each _ 26 (o.hand side) k below

placement-lacks : (rules : Rules) (p : Position) → IsFit rules → Parts rules p → Lacks 32 (board_text rules p.cells ++ pocket_text rules p.hands)
placement-lacks rules p fit o =
    list_all-append (λ b. not (b == 32)) (board_text rules p.cells) (pocket_text rules p.hands)
    ∙ and_from _ _ (lacks-from is_board_byte 32 (board_text rules p.cells) refl (board-bytes rules p.cells fit (good-board rules p o)))
    (lacks-from is_pocket_byte 32 (pocket_text rules p.hands) refl (pocket-bytes rules p.hands (held_soundly rules p o)))

-- ---- how long the text is

abbrev joined_length : List (List ℕ) → ℕ
joined_length texts = length (join_with_byte 32 texts)

join-two : (text next : List ℕ) (texts : List (List ℕ)) → joined_length (text ∷ next ∷ texts) ≡ length text + 1 + joined_length (next ∷ texts)
join-two text next texts = length-append text (32 ∷ join_with_byte 32 (next ∷ texts)) ∙ omega arith

six_short : (a b c d e f : List ℕ) → length a ≤ 500 → length b ≤ 1 → length c ≤ 24 → length d ≤ 3 → length e ≤ 4 → length f ≤ 4 → joined_length (a ∷ b ∷ c ∷ d ∷ e ∷ f ∷ []) ≤ 1024
six_short a b c d e f i j k l m n =
    omega (arith, i, j, k, l, m, n, join-two a b (c ∷ d ∷ e ∷ f ∷ []), join-two b c (d ∷ e ∷ f ∷ []), join-two c d (e ∷ f ∷ []), join-two d e (f ∷ []), join-two e f [])

seven_short : (a b c d g e f : List ℕ) → length a ≤ 500 → length b ≤ 1 → length c ≤ 24 → length d ≤ 3 → length g ≤ 5 → length e ≤ 4 → length f ≤ 4 → joined_length (a ∷ b ∷ c ∷ d ∷ g ∷ e ∷ f ∷ []) ≤ 1024
seven_short a b c d g e f i j k l o m n =
    omega (
      arith,
      i,
      j,
      k,
      l,
      m,
      n,
      o,
      join-two a b (c ∷ d ∷ g ∷ e ∷ f ∷ []),
      join-two b c (d ∷ g ∷ e ∷ f ∷ []),
      join-two c d (g ∷ e ∷ f ∷ []),
      join-two d g (e ∷ f ∷ []),
      join-two g e (f ∷ []),
      join-two e f [],
    )

side-short : (side : Side) → length (side_text side) ≤ 1
side-short White = omega arith
side-short Black = omega arith

placement-short : (rules : Rules) (p : Position) → IsFit rules → Parts rules p → length (board_text rules p.cells ++ pocket_text rules p.hands) ≤ 500
placement-short rules p fit o =
    let board = board-short rules p.cells fit (good-board rules p o) in
    let pocket = pocket-short rules p (hands_of-parts rules p o) o.few in
    omega (arith, board, pocket, length-append (board_text rules p.cells) (pocket_text rules p.hands))

decimal-short : (n : ℕ) → n ≤ 9999 → length (decimal n) ≤ 4
decimal-short n small = length-decimal-le 4 n (omega arith) (omega arith) (omega arith)

checks-short : (white black : ℕ) → white ≤ 99 → black ≤ 99 → length (checks_text white black) ≤ 5
checks-short white black w b =
    let first = length-decimal-le 2 white (omega arith) (omega arith) (omega arith) in
    let second = length-decimal-le 2 black (omega arith) (omega arith) (omega arith) in
    omega (arith, first, second, length-append (decimal white) (43 ∷ decimal black))

-- ---- the text is cut into its fields

-- the fields that are said
abbrev said_fields : Rules → Position → List ℕ → Fields
said_fields rules p checks = record {
  board = board_text rules p.cells;
  pocket = pocket_text rules p.hands;
  side = side_text p.side;
  rights = rights_text rules (repeat_of p);
  ep = ep_text p.ep;
  checks = checks;
  halfmoves = decimal p.counter;
  number = decimal p.number;
}

place_at : (byte : ℕ) (text rest : List ℕ) → Lacks byte text → position_or_len (λ b. b == byte) (text ++ byte ∷ rest) ≡ length text
place_at byte [] rest lacks = let self : (byte == byte) ≡ true = eq-eqb byte byte refl in rw self refl
place_at byte (b ∷ text) rest lacks =
    let both = and_parts (not (b == byte)) (list_all (λ c. not (c == byte)) text) lacks in
    let here = both.0 in
    let more = place_at byte text rest both.1 in
    rw here (omega (arith, more))

place_of : (board pocket : List ℕ) → Lacks 91 board → (pocket ≡ []) ⊎ ((rest : List ℕ) × (pocket ≡ 91 ∷ rest)) → pocket_place (board ++ pocket) ≡ length board
unfolding pocket_place
place_of board pocket lacks (inl none) = ap (λ p. position_or_len is_bracket (board ++ p)) none ∙ ap (position_or_len is_bracket) (append-nil board) ∙ place-none 91 board lacks
place_of board pocket lacks (inr some) = ap (λ p. position_or_len is_bracket (board ++ p)) some.1 ∙ place_at 91 board some.0 lacks

cut_there : (board pocket side rights ep checks counter number : List ℕ) → pocket_place (board ++ pocket) ≡ length board → fields (board ++ pocket) side rights ep checks counter number ≡ record {
  board = board;
  pocket = pocket;
  side = side;
  rights = rights;
  ep = ep;
  checks = checks;
  halfmoves = counter;
  number = number;
}
cut_there board pocket side rights ep checks counter number place =
    let front = take-append_seam board pocket in
    let back = drop-append_seam board pocket in
    rw place (rw (front, back) refl)

fields_found : (rules : Rules) (text : List ℕ) (texts : List (List ℕ)) (f : Fields) → length text ≤ 1024 → slice_split is_space text ≡ texts → fields_in rules texts ≡ Some f → fields_of rules text ≡ Ok f
unfolding fields_of
fields_found rules text texts f few cut found =
    let short : nat_lt 1024 (length text) ≡ false = le-ltb _ _ few in
    rw short (rw cut (ap (or_fault Length) found))

plain_in : (rules : Rules) (placement side rights ep counter number : List ℕ) → rules.check_counting ≡ false → are_digits rights ≡ false
    → fields_in rules (placement ∷ side ∷ rights ∷ ep ∷ counter ∷ number ∷ []) ≡ Some (fields placement side rights ep no_checks counter number)
plain_in rules placement side rights ep counter number off no_number = rw (off, no_number) refl

counted_in : (rules : Rules) (placement side rights ep checks counter number : List ℕ) → rules.check_counting ≡ true
    → fields_in rules (placement ∷ side ∷ rights ∷ ep ∷ checks ∷ counter ∷ number ∷ []) ≡ Some (fields placement side rights ep checks counter number)
counted_in rules placement side rights ep checks counter number on = rw on refl

texts_plain : (rules : Rules) (p : Position) → rules.check_counting ≡ false → fen_text rules p ≡ join_with_byte 32 ((board_text rules p.cells ++ pocket_text rules p.hands) ∷ side_text p.side ∷ rights_text rules (repeat_of p) ∷ ep_text p.ep ∷ decimal p.counter ∷ decimal p.number ∷ [])
unfolding fen_text field_texts
texts_plain rules p off = rw off refl

texts_counted : (rules : Rules) (p : Position) → rules.check_counting ≡ true → fen_text rules p ≡ join_with_byte 32 ((board_text rules p.cells ++ pocket_text rules p.hands) ∷ side_text p.side ∷ rights_text rules (repeat_of p) ∷ ep_text p.ep ∷ checks_text (slice_index p.checks 0) (slice_index p.checks 1) ∷ decimal p.counter ∷ decimal p.number ∷ [])
unfolding fen_text field_texts
texts_counted rules p on = rw on refl

placement_cut : (rules : Rules) (p : Position) → IsFit rules → Parts rules p → (checks : List ℕ)
    → fields (board_text rules p.cells ++ pocket_text rules p.hands) (side_text p.side) (rights_text rules (repeat_of p)) (ep_text p.ep) checks (decimal p.counter) (decimal p.number) ≡ said_fields rules p checks
placement_cut rules p fit o checks =
    cut_there (board_text rules p.cells) (pocket_text rules p.hands) (side_text p.side) (rights_text rules (repeat_of p)) (ep_text p.ep) checks (decimal p.counter) (decimal p.number)
    (place_of (board_text rules p.cells) (pocket_text rules p.hands) (lacks-from is_board_byte 91 (board_text rules p.cells) refl (board-bytes rules p.cells fit (good-board rules p o))) (pocket-first rules p.hands))

plain_fields_back : (rules : Rules) (p : Position) → IsFit rules → Parts rules p → rules.check_counting ≡ false → fields_of rules (fen_text rules p) ≡ Ok (said_fields rules p no_checks)
plain_fields_back rules p fit o off =
    let a = board_text rules p.cells ++ pocket_text rules p.hands in
    let b = side_text p.side in
    let c = rights_text rules (repeat_of p) in
    let d = ep_text p.ep in
    let e = decimal p.counter in
    let f = decimal p.number in
    let ep = ep_text-sized rules (repeat_of p) p.ep fit.files_most fit.ranks_most o.ep in
    let counter = o.counter in
    let most = o.most in
    let short : joined_length (a ∷ b ∷ c ∷ d ∷ e ∷ f ∷ []) ≤ 1024 = six_short a b c d e f (placement-short rules p fit o) (side-short p.side) (rights-short rules (repeat_of p)) ep.1 (decimal-short p.counter counter) (decimal-short p.number most) in
    let lack : Each (Lacks 32) (a ∷ b ∷ c ∷ d ∷ e ∷ f ∷ []) =
    (placement-lacks rules p fit o, (side-lacks p.side, (rights-all (λ x. not (x == 32)) rules (repeat_of p) refl refl, (ep.0, (decimal-lacks p.counter (omega (arith, counter)), (decimal-lacks p.number (omega (arith, most)), tt)))))) in
    ap (fields_of rules) (texts_plain rules p off)
    ∙ fields_found rules (join_with_byte 32 (a ∷ b ∷ c ∷ d ∷ e ∷ f ∷ [])) (a ∷ b ∷ c ∷ d ∷ e ∷ f ∷ []) (said_fields rules p no_checks) short (split-join 32 a (b ∷ c ∷ d ∷ e ∷ f ∷ []) lack)
    (plain_in rules a b c d e f off (rights-no_number rules (repeat_of p)) ∙ ap Some (placement_cut rules p fit o no_checks))

counted_fields_back : (rules : Rules) (p : Position) → IsFit rules → Parts rules p → rules.check_counting ≡ true → fields_of rules (fen_text rules p) ≡ Ok (said_fields rules p (checks_text (slice_index p.checks 0) (slice_index p.checks 1)))
counted_fields_back rules p fit o on =
    let a = board_text rules p.cells ++ pocket_text rules p.hands in
    let b = side_text p.side in
    let c = rights_text rules (repeat_of p) in
    let d = ep_text p.ep in
    let g = checks_text (slice_index p.checks 0) (slice_index p.checks 1) in
    let e = decimal p.counter in
    let f = decimal p.number in
    let ep = ep_text-sized rules (repeat_of p) p.ep fit.files_most fit.ranks_most o.ep in
    let counter = o.counter in
    let most = o.most in
    let short : joined_length (a ∷ b ∷ c ∷ d ∷ g ∷ e ∷ f ∷ []) ≤ 1024 = seven_short a b c d g e f (placement-short rules p fit o) (side-short p.side) (rights-short rules (repeat_of p)) ep.1 (checks-short (slice_index p.checks 0) (slice_index p.checks 1) (o.checks White) (o.checks Black)) (decimal-short p.counter counter) (decimal-short p.number most) in
    let lack : Each (Lacks 32) (a ∷ b ∷ c ∷ d ∷ g ∷ e ∷ f ∷ []) =
    (placement-lacks rules p fit o, (side-lacks p.side, (rights-all (λ x. not (x == 32)) rules (repeat_of p) refl refl, (ep.0, (checks-lack (slice_index p.checks 0) (slice_index p.checks 1) (o.checks White) (o.checks Black), (decimal-lacks p.counter (omega (arith, counter)), (decimal-lacks p.number (omega (arith, most)), tt))))))) in
    ap (fields_of rules) (texts_counted rules p on)
    ∙ fields_found rules (join_with_byte 32 (a ∷ b ∷ c ∷ d ∷ g ∷ e ∷ f ∷ [])) (a ∷ b ∷ c ∷ d ∷ g ∷ e ∷ f ∷ []) (said_fields rules p g) short (split-join 32 a (b ∷ c ∷ d ∷ g ∷ e ∷ f ∷ []) lack)
    (counted_in rules a b c d g e f on ∙ ap Some (placement_cut rules p fit o g))

-- ---- the whole

says_again : (rules : Rules) (p : Position) (checks : List ℕ) → IsFit rules → Parts rules p → checks_of checks ≡ Ok p.checks → Says rules (said_fields rules p checks) p
says_again rules p checks fit o read = record {
  cells = cells-back rules p.cells fit (good-board rules p o);
  hands = hands-back rules p.hands (hands_of-parts rules p o) (held_soundly rules p o);
  side = side-back p.side;
  held = held-back rules p fit o;
  ep = ep-back rules (repeat_of p) p.ep fit.files_most fit.ranks_most o.ep;
  checks = read;
  counter = count-back p.counter o.counter;
  number = (p.number, record { said = count-back p.number o.most; least = (let least = o.least in omega (arith, least)) });
}

no_checks_left : checks_of no_checks ≡ Ok (0 ∷ 0 ∷ [])
unfolding checks_of number_of is_number are_digits value_after
no_checks_left = refl

two_zeros : (checks : List ℕ) → length checks ≡ 2 → slice_index checks 0 ≡ 0 → slice_index checks 1 ≡ 0 → 0 ∷ 0 ∷ [] ≡ checks
two_zeros [] two a b = absurd (omega arith)
two_zeros (x ∷ []) two a b = absurd (omega arith)
two_zeros (x ∷ y ∷ []) two a b = rw (a, b) refl
two_zeros (x ∷ y ∷ z ∷ checks) two a b = absurd (omega arith)

uncounted_zero : (rules : Rules) (n : ℕ) → rules.check_counting ≡ false → (rules.check_counting || (n == 0)) ≡ true → n ≡ 0
uncounted_zero rules n off h = eqb-true n 0 (let k = rw off at h in k)

pub gives-back : (rules : Rules) (p : Position) → IsFit rules → Parts rules p → Fen rules (fen_text rules p) p
gives-back rules p fit o =
    ⊎_elim
    (λ (y : rules.check_counting ≡ true).
    let g = checks_text (slice_index p.checks 0) (slice_index p.checks 1) in
    text_whole rules (fen_text rules p) p o (said_fields rules p g, counted_fields_back rules p fit o y, says_again rules p g fit o (checks-back p.checks o.sizes.checks o.checks)))
    (λ (n : rules.check_counting ≡ false).
    let zeros = two_zeros p.checks o.sizes.checks (uncounted_zero rules (slice_index p.checks 0) n (o.uncounted White)) (uncounted_zero rules (slice_index p.checks 1) n (o.uncounted Black)) in
    text_whole rules (fen_text rules p) p o (said_fields rules p no_checks, plain_fields_back rules p fit o n, says_again rules p no_checks fit o (no_checks_left ∙ ap Ok zeros)))
    (cases_Bool rules.check_counting)
