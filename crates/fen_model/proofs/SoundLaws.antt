-- What a text says is sound.
use Rattle.std.proofs.Common.{◌≡◌, ℕ, ◌+◌, ◌<◌, ◌≤◌, max, nat_le, nat_lt, ◌==◌, Bool, true, false, ◌&&◌, ◌||◌, List, [], ◌∷◌, length, slice_index, Option, Some, None, Ok, Err, if◌then◌else◌, refl, sym, ap, ◌∙◌, arith, subst, ⊎_elim}
use Rattle.std.specs.List.{list_all, slice_split}
use Rattle.std.proofs.lemmas.Bool.{cases_Bool, leb-true, le-leb, and_from, and_parts, or_left, or_right}
use Rattle.rules_model.specs.declared.board.Cell.{Cell}
use Rattle.rules_model.specs.declared.board.Position.{Position}
use Rattle.rules_model.specs.declared.board.Repeat.{Repeat}
use Rattle.rules_model.specs.declared.board.Side.{Side}
use Rattle.rules_model.specs.declared.board.Side.TheVariants.{White, Black}
use Rattle.rules_model.specs.declared.board.Square.{Square}
use Rattle.rules_model.specs.declared.rules.Rules.{Rules}
use Rattle.rules_model.specs.Attacks.{ahead, pawn_at, pawn_could_take}
use Rattle.rules_model.specs.Fit.{IsFit}
use Rattle.rules_model.specs.Kinds.{board_of}
use Rattle.rules_model.specs.Pawns.{is_free}
use Rattle.rules_model.specs.Repeats.{repeat_of}
use Rattle.rules_model.specs.Sides.{other, side_index}
use Rattle.rules_model.specs.Sound.{has_its_king, is_sound, is_sound_ep, lies_in, on_board}
use Rattle.fen_model.specs.Counts.{checks_in, checks_of, count_of, is_plus, two_checks, up_to_most}
use Rattle.fen_model.specs.Chain.{or_fault}
use Rattle.fen_model.specs.declared.fault.FenFault.TheVariants.{Length}
use Rattle.fen_model.specs.Fields.{Fields, counted_fields, fields, fields_in, fields_of, is_space, no_checks, plain_fields}
use Rattle.fen_model.specs.Fields as Fields
use Rattle.foundation.specs.Numbers.{are_digits, is_number, number_of, value_after}
use Rattle.fen_model.specs.Passed.{is_passed, passed_at, passed_of, square_named}
use Rattle.fen_model.specs.Reading.{Fen}
use Rattle.fen_model.proofs.CellLaws.{long_cells, sound_cells}
use Rattle.fen_model.proofs.ChainLaws.{there_ok}
use Rattle.fen_model.proofs.HandLaws.{sound_hands}
use Rattle.fen_model.proofs.HeldLaws.{gate-held, right-held, sound_held}
use Rattle.fen_model.proofs.SaysLaws.{SaidWell, fen_says}
use Rattle.fen_model.proofs.SoundParts.{Parts, sound_from}

-- ---- counts

count_most : (o : Option ℕ) (n : ℕ) → up_to_most o ≡ Ok n → n ≤ 9999
count_most None n h = cc
count_most (Some m) n h =
    ⊎_elim
    (λ y. let k = rw y at h in let e : m ≡ n = cc in let below : m ≤ 9999 = leb-true _ _ y in omega arith)
    (λ no. let k = rw no at h in cc)
    (cases_Bool (nat_le m 9999))

count_small : (text : List ℕ) (n : ℕ) → count_of text ≡ Ok n → n ≤ 9999
unfolding count_of
count_small text n h = count_most (number_of text) n h

-- ---- checks left

pub record AreChecks (checks : List ℕ) : Type 0 where
  pub two : length checks ≡ 2
  pub most : (side : Side) → slice_index checks (side_index side) ≤ 99

most_of : (white black : ℕ) → white ≤ 99 → black ≤ 99 → (side : Side) → slice_index (white ∷ black ∷ []) (side_index side) ≤ 99
most_of white black w b White = w
most_of white black w b Black = b

two_most : (white black : Option ℕ) (checks : List ℕ) → two_checks white black ≡ Ok checks → AreChecks checks
two_most None black checks h = cc
two_most (Some white) None checks h = cc
two_most (Some white) (Some black) checks h =
    ⊎_elim
    (λ y. let k = rw y at h in let e : white ∷ black ∷ [] ≡ checks = cc in
    let both = and_parts (nat_le white 99) (nat_le black 99) y in
    subst AreChecks e (record { two = refl; most = most_of white black (leb-true _ _ both.0) (leb-true _ _ both.1) }))
    (λ n. let k = rw n at h in cc)
    (cases_Bool (nat_le white 99 && nat_le black 99))

parts_most : (texts : List (List ℕ)) (checks : List ℕ) → checks_in texts ≡ Ok checks → AreChecks checks
parts_most [] checks h = cc
parts_most (white ∷ []) checks h = cc
parts_most (white ∷ black ∷ []) checks h = two_most (number_of white) (number_of black) checks h
parts_most (white ∷ black ∷ other ∷ texts) checks h = cc

checks_most : (text checks : List ℕ) → checks_of text ≡ Ok checks → AreChecks checks
unfolding checks_of
checks_most text checks h = parts_most (slice_split is_plus text) checks h

no_checks_left : checks_of no_checks ≡ Ok (0 ∷ 0 ∷ [])
unfolding checks_of number_of is_number are_digits value_after
no_checks_left = refl

-- a variant that counts no checks has none in its texts
plain_checks : (texts : List (List ℕ)) (f : Fields) → plain_fields texts ≡ Some f → f.checks ≡ no_checks
plain_checks [] f h = cc
plain_checks (a ∷ []) f h = cc
plain_checks (a ∷ b ∷ []) f h = cc
plain_checks (a ∷ b ∷ c ∷ []) f h = cc
plain_checks (a ∷ b ∷ c ∷ d ∷ []) f h =
    ⊎_elim (λ y. let k = rw y at h in cc) (λ n. let k = rw n at h in cc) (cases_Bool (are_digits c))
plain_checks (a ∷ b ∷ c ∷ d ∷ e ∷ []) f h = cc
plain_checks (a ∷ b ∷ c ∷ d ∷ e ∷ g ∷ []) f h =
    ⊎_elim (λ y. let k = rw y at h in cc) (λ n. let k = rw n at h in cc) (cases_Bool (are_digits c))
plain_checks (a ∷ b ∷ c ∷ d ∷ e ∷ g ∷ i ∷ texts) f h = cc

fields_there : (rules : Rules) (text : List ℕ) (f : Fields) → fields_of rules text ≡ Ok f → fields_in rules (slice_split is_space text) ≡ Some f
unfolding fields_of
fields_there rules text f h =
    ⊎_elim
    (λ y. let k = rw y at h in cc)
    (λ n. there_ok Length _ f (let k = rw n at h in k))
    (cases_Bool (nat_lt 1024 (length text)))

uncounted : (rules : Rules) (text checks : List ℕ) (f : Fields) → rules.check_counting ≡ false → fields_of rules text ≡ Ok f → checks_of f.checks ≡ Ok checks → checks ≡ 0 ∷ 0 ∷ []
uncounted rules text checks f off h said =
    let there = fields_there rules text f h in
    let none = plain_checks (slice_split is_space text) f (let k = rw off at there in k) in
    let zero = no_checks_left in
    cc (ap checks_of none, zero, said)

zero_of : (side : Side) → (slice_index (0 ∷ 0 ∷ []) (side_index side) == 0) ≡ true
zero_of White = refl
zero_of Black = refl

counted_or_none : (rules : Rules) (text checks : List ℕ) (f : Fields) → fields_of rules text ≡ Ok f → checks_of f.checks ≡ Ok checks → (side : Side)
    → (rules.check_counting || (slice_index checks (side_index side) == 0)) ≡ true
counted_or_none rules text checks f h said side =
    ⊎_elim
    (λ y. or_left rules.check_counting _ y)
    (λ n. or_right rules.check_counting _ (subst (λ c. (slice_index c (side_index side) == 0) ≡ true) (sym (uncounted rules text checks f n h said)) (zero_of side)))
    (cases_Bool rules.check_counting)

-- ---- en passant

joined_test : (a b c d e f g : Bool) → (a && b && c && d && e && f) ≡ true → g ≡ true → (a && (b && c && d && e && f && g)) ≡ true
joined_test true true true true true true true h k = refl
joined_test true true true true true true false h k = cc
joined_test true true true true true false g h k = cc
joined_test true true true true false f g h k = cc
joined_test true true true false e f g h k = cc
joined_test true true false d e f g h k = cc
joined_test true false c d e f g h k = cc
joined_test false b c d e f g h k = cc

taken_or_none : (rules : Rules) (r : Repeat) (s : Square) → is_passed rules r.cells r.side s ≡ true → pawn_could_take rules r.cells r.side s ≡ true → is_sound_ep rules r (Some s) ≡ true
unfolding is_passed
taken_or_none rules r s passed takes =
    joined_test (on_board rules s.0) rules.double_step (is_free r.cells (Some s.0)) (is_free r.cells (ahead (board_of rules) r.side s 1))
    (lies_in rules.double_region (other r.side) (ahead (board_of rules) r.side s 1)) (pawn_at rules r.cells (other r.side) (ahead (board_of rules) (other r.side) s 1))
    (pawn_could_take rules r.cells r.side s) passed takes

square_sound : (rules : Rules) (r : Repeat) (s ep : Option Square) → passed_at rules r.cells r.side s ≡ Ok ep → is_sound_ep rules r ep ≡ true
square_sound rules r None ep h = cc
square_sound rules r (Some s) ep h =
    ⊎_elim
    (λ (y : is_passed rules r.cells r.side s ≡ true). ⊎_elim
    (λ (t : pawn_could_take rules r.cells r.side s ≡ true). let k = rw (y, t) at h in let e : Some s ≡ ep = cc in subst (λ x. is_sound_ep rules r x ≡ true) e (taken_or_none rules r s y t))
    (λ (n : pawn_could_take rules r.cells r.side s ≡ false). let k = rw (y, n) at h in let e : None ≡ ep = cc in subst (λ x. is_sound_ep rules r x ≡ true) e refl)
    (cases_Bool (pawn_could_take rules r.cells r.side s)))
    (λ n. let k = rw n at h in cc)
    (cases_Bool (is_passed rules r.cells r.side s))

passed_sound : (rules : Rules) (r : Repeat) (text : List ℕ) (ep : Option Square) → passed_of rules r.cells r.side text ≡ Ok ep → is_sound_ep rules r ep ≡ true
unfolding passed_of
passed_sound rules r text ep h =
    ⊎_elim
    (λ y. let k = rw y at h in let e : None ≡ ep = cc in subst (λ x. is_sound_ep rules r x ≡ true) e refl)
    (λ n. square_sound rules r (square_named text) ep (let k = rw n at h in k))
    (cases_Bool (Fields.says_none text))

-- ---- the whole

king_of : (rules : Rules) (cells : List (Option Cell)) → (has_its_king rules cells White && has_its_king rules cells Black) ≡ true → (side : Side) → has_its_king rules cells side ≡ true
king_of rules cells h White = (and_parts _ _ h).0
king_of rules cells h Black = (and_parts _ _ h).1

said_sound : (rules : Rules) → IsFit rules → (text : List ℕ) (f : Fields) (p : Position) → fields_of rules text ≡ Ok f → SaidWell rules f p → Parts rules p
said_sound rules fit text f p there well =
    let says = well.says in
    let hands = sound_hands rules f.pocket p.hands says.hands in
    let held = sound_held rules p.cells f.rights _ says.held in
    let checks = checks_most f.checks p.checks says.checks in
    let number = says.number.1.least in
    let small = count_small f.number says.number.0 says.number.1.said in
    record {
      sizes = record {
        cells = long_cells rules f.board p.cells says.cells;
        hands = hands.0.two;
        each_hand = hands.0.each;
        gates = held.size.gates;
        each_gate = held.size.each_gate;
        rights = held.size.rights;
        each_right = held.size.each_right;
        checks = checks.two;
      };
      cells = sound_cells rules fit f.board p.cells says.cells;
      few = well.judged.few;
      hand = hands.1;
      king = king_of rules p.cells well.judged.kings;
      right = right-held rules (repeat_of p) held.may;
      gate = gate-held rules (repeat_of p) held.may;
      checks = checks.most;
      uncounted = counted_or_none rules text p.checks f there says.checks;
      safe = well.judged.safe;
      ep = passed_sound rules (repeat_of p) f.ep p.ep says.ep;
      counter = count_small f.halfmoves p.counter says.counter;
      least = omega arith;
      most = omega arith;
    }

-- what a text says is sound
pub text_sound : (rules : Rules) (text : List ℕ) (p : Position) → IsFit rules → Fen rules text p → is_sound rules p ≡ true
text_sound rules text p fit h =
    let said = fen_says rules text p h in
    sound_from rules p (said_sound rules fit text said.0 p said.1 said.2)
