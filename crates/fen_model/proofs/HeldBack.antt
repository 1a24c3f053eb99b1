-- Rights and gates that are printed are read back.
use Rattle.std.proofs.Common.{◌≡◌, ◌≢◌, ◌⊎◌, inl, inr, ℕ, zero, suc, ◌+◌, ◌-◌, ◌*◌, ◌^◌, ◌<◌, ◌≤◌, nat_lt, nat_le, ◌==◌, Bool, true, false, ◌&&◌, ◌||◌, not, if◌then◌else◌, List, [], ◌∷◌, length, get_or, count_by, slice_index, Option, Some, None, Ok, refl, sym, ap, ◌∙◌, arith, subst, ⊎_elim}
use Rattle.std.specs.Int.{bit_at}
use Rattle.std.specs.List.{filter, list_all, list_any}
use Rattle.std.proofs.lemmas.Bool.{cases_Bool, lt-ltb, le-leb, lt-leb, ltb-true, ltb-false, leb-true, eqb-true, eqb-false, eq-eqb, ne_eqb, and_from, and_parts, or_left, or_right, not-true}
use Rattle.std.proofs.lemmas.Nat.Bits.{bit_at-lt, bit_at_above, bit_at_cat_high, bit_at_cat_low, same_from_bits_below}
use Rattle.foundation.specs.Count.{all_below}
use Rattle.foundation.specs.Tests.{one_if}
use Rattle.foundation.proofs.CountLemmas.{all_below-each}
use Rattle.foundation.proofs.SetLemmas.{count_by-cons}
use Rattle.rules_model.specs.declared.board.Cell.{Cell}
use Rattle.rules_model.specs.declared.board.Position.{Position}
use Rattle.rules_model.specs.declared.board.Repeat.{Repeat}
use Rattle.rules_model.specs.declared.board.Side.{Side}
use Rattle.rules_model.specs.declared.board.Side.TheVariants.{White, Black}
use Rattle.rules_model.specs.declared.board.Wing.{Wing}
use Rattle.rules_model.specs.declared.board.Wing.TheVariants.{Kingside, Queenside}
use Rattle.rules_model.specs.declared.rules.Rules.{Rules}
use Rattle.rules_model.specs.Castling.{castling_on, holds_right, rook_file}
use Rattle.rules_model.specs.Fit.{IsFit, gates_amiss}
use Rattle.rules_model.specs.Gates.{has_gate}
use Rattle.rules_model.specs.Reach.{is_at}
use Rattle.rules_model.specs.Repeats.{repeat_of}
use Rattle.rules_model.specs.Sides.{side_index, wing_index}
use Rattle.rules_model.specs.Sound.{sound_gate, sound_right, sound_rook}
use Rattle.fen_model.specs.Fields.{no_text, says_none}
use Rattle.fen_model.specs.declared.held.Held.{Held}
use Rattle.fen_model.specs.Held.{are_letters, bits_of, gate_letter, gate_said, has, held_letters, held_of, held_said, may_hold, nothing_held, right_gives, right_letter, right_says, rights_said, stands_once}
use Rattle.foundation.specs.Numbers.{are_digits, is_digit}
use Rattle.fen_model.specs.Printing.{is_printed, or_none, prints_gate, right_implies, rights_text}
use Rattle.fen_model.specs.Says.{held_in}
use Rattle.fen_model.proofs.HeldLaws.{bits_of-small, holds_from}
use Rattle.fen_model.proofs.SoundParts.{Parts}

-- ---- letters that a test picks

kept : (q : ℕ → Bool) (x : ℕ) (xs : List ℕ) → q x ≡ true → filter q (x ∷ xs) ≡ x ∷ filter q xs
kept q x xs h = rw h refl

dropped : (q : ℕ → Bool) (x : ℕ) (xs : List ℕ) → q x ≡ false → filter q (x ∷ xs) ≡ filter q xs
dropped q x xs h = rw h refl

has-cons : (b x : ℕ) (xs : List ℕ) → has b (x ∷ xs) ≡ ((x == b) || has b xs)
unfolding has
has-cons b x xs = refl

same_or : (a b c : Bool) → b ≡ c → (a || b) ≡ (a || c)
same_or a b c h = ap (λ x. a || x) h

and_no : (a : Bool) → (a && false) ≡ false
and_no true = refl
and_no false = refl

-- a letter is picked where it is there and passes
pub has-filter : (q : ℕ → Bool) (b : ℕ) (xs : List ℕ) → has b (filter q xs) ≡ (has b xs && q b)
unfolding has
has-filter q b [] = refl
has-filter q b (x ∷ xs) =
    let more = has-filter q b xs in
    ⊎_elim
    (λ (y : (x == b) ≡ true).
    let same : x ≡ b = eqb-true x b y in
    ⊎_elim
    (λ (z : q b ≡ true). let qx : q x ≡ true = ap q same ∙ z in ap (has b) (kept q x xs qx) ∙ (rw (y, z) refl))
    (λ (m : q b ≡ false). let qx : q x ≡ false = ap q same ∙ m in ap (has b) (dropped q x xs qx) ∙ more ∙ (rw (y, m) (and_no (has b xs))))
    (cases_Bool (q b)))
    (λ (n : (x == b) ≡ false).
    ⊎_elim
    (λ (z : q x ≡ true). ap (has b) (kept q x xs z) ∙ (rw n more))
    (λ (m : q x ≡ false). ap (has b) (dropped q x xs m) ∙ more ∙ (rw n refl))
    (cases_Bool (q x)))
    (cases_Bool (x == b))

count_filter : (q : ℕ → Bool) (b : ℕ) (xs : List ℕ) → count_by (λ c. c == b) (filter q xs) ≤ count_by (λ c. c == b) xs
count_filter q b [] = omega arith
count_filter q b (x ∷ xs) =
    let more = count_filter q b xs in
    let whole = count_by-cons (λ c. c == b) x xs in
    ⊎_elim
    (λ (z : q x ≡ true). let e = ap (count_by (λ c. c == b)) (kept q x xs z) in let first = count_by-cons (λ c. c == b) x (filter q xs) in omega (arith, more, whole, e, first))
    (λ (m : q x ≡ false). let e = ap (count_by (λ c. c == b)) (dropped q x xs m) in omega (arith, more, whole, e))
    (cases_Bool (q x))

count_some : (b : ℕ) (xs : List ℕ) → has b xs ≡ true → 0 < count_by (λ c. c == b) xs
unfolding has
count_some b [] h = cc
count_some b (x ∷ xs) h =
    let whole = count_by-cons (λ c. c == b) x xs in
    ⊎_elim
    (λ (y : (x == b) ≡ true). let one = ap one_if y in omega (arith, whole, one))
    (λ (n : (x == b) ≡ false). let more = count_some b xs (let k = rw n at h in k) in omega (arith, whole, more))
    (cases_Bool (x == b))

all_that_are_there : (q : ℕ → Bool) (xs : List ℕ) → ((b : ℕ) → has b xs ≡ true → q b ≡ true) → list_all q xs ≡ true
all_that_are_there q [] h = refl
all_that_are_there q (x ∷ xs) h =
    let self : (x == x) ≡ true = eq-eqb x x refl in
    and_from _ _ (h x (has-cons x x xs ∙ or_left (x == x) (has x xs) self)) (all_that_are_there q xs (λ b there. h b (has-cons b x xs ∙ or_right (x == b) (has b xs) there)))

there_passes : (q : ℕ → Bool) (b : ℕ) (xs : List ℕ) → has b xs ≡ true → list_all q xs ≡ true → q b ≡ true
unfolding has
there_passes q b [] h all = cc
there_passes q b (x ∷ xs) h all =
    let both = and_parts (q x) (list_all q xs) all in
    ⊎_elim
    (λ (y : (x == b) ≡ true). subst (λ z. q z ≡ true) (eqb-true x b y) both.0)
    (λ (n : (x == b) ≡ false). there_passes q b xs (let k = rw n at h in k) both.1)
    (cases_Bool (x == b))

once_each : list_all (λ b. nat_le (count_by (λ c. c == b) held_letters) 1) held_letters ≡ true
once_each = refl

-- letters that a test picks are letters of the field, each once
picked_letter : (q : ℕ → Bool) (b : ℕ) → has b (filter q held_letters) ≡ true → (has b held_letters && stands_once (filter q held_letters) b) ≡ true
picked_letter q b there =
    let both = and_parts (has b held_letters) (q b) (sym (has-filter q b held_letters) ∙ there) in
    let most : count_by (λ c. c == b) held_letters ≤ 1 = leb-true _ _ (there_passes (λ x. nat_le (count_by (λ c. c == x) held_letters) 1) b held_letters both.0 once_each) in
    let fewer = count_filter q b held_letters in
    let some = count_some b (filter q held_letters) there in
    and_from _ _ both.0 (eq-eqb _ _ (omega (arith, most, fewer, some)))

not_empty : (text : List ℕ) → text ≢ [] → nat_lt 0 (length text) ≡ true
not_empty [] h = absurd (h refl)
not_empty (b ∷ text) h = lt-ltb _ _ (omega arith)

picked_letters : (q : ℕ → Bool) → filter q held_letters ≢ [] → are_letters (filter q held_letters) ≡ true
unfolding are_letters
picked_letters q some =
    and_from _ _ (not_empty (filter q held_letters) some)
    (all_that_are_there (λ b. has b held_letters && stands_once (filter q held_letters) b) (filter q held_letters) (picked_letter q))

-- ---- bits

one_bit : (b : Bool) (n bits : ℕ) → bits + (if b then 2 ^ n else 0) ≡ one_if b * 2 ^ n + bits
one_bit true n bits = omega arith
one_bit false n bits = omega arith

bit_of_one : (b : Bool) (k : ℕ) → k ≡ 0 → bit_at (one_if b) k ≡ one_if b
bit_of_one true k none = rw none refl
bit_of_one false k none = rw none refl

bit_of-said : (test : ℕ → Bool) (n i : ℕ) → i < n → bit_at (bits_of test n) i ≡ one_if (test i)
unfolding bits_of
bit_of-said test zero i below = absurd (omega arith)
bit_of-said test (suc n) i below =
    ap (λ x. bit_at x i) (one_bit (test n) n (bits_of test n))
    ∙ ⊎_elim
    (λ (y : nat_lt i n ≡ true). bit_at_cat_low (one_if (test n)) n (bits_of test n) i (ltb-true _ _ y) ∙ bit_of-said test n i (ltb-true _ _ y))
    (λ (m : nat_lt i n ≡ false).
    let from : n ≤ i = ltb-false _ _ m in
    let same : n ≡ i = omega (arith, from, below) in
    bit_at_cat_high (one_if (test n)) n (bits_of test n) i (bits_of-small test n) from
    ∙ bit_of_one (test n) (i - n) (omega (arith, same)) ∙ ap (λ k. one_if (test k)) same)
    (cases_Bool (nat_lt i n))

bit_of-gate : (gates : List ℕ) (side : Side) (file : ℕ) → bit_at (slice_index gates (side_index side)) file ≡ one_if (has_gate gates side file)
bit_of-gate gates side file =
    ⊎_elim
    (λ (y : has_gate gates side file ≡ true). eqb-true _ _ y ∙ (rw y refl))
    (λ (n : has_gate gates side file ≡ false).
    let other : bit_at (slice_index gates (side_index side)) file ≢ 1 = eqb-false _ _ n in
    let zero : bit_at (slice_index gates (side_index side)) file ≡ 0 = omega (arith, bit_at-lt (slice_index gates (side_index side)) file) in zero ∙ (rw n refl))
    (cases_Bool (has_gate gates side file))

-- ---- what the letters say

-- the letters that are printed of a position
abbrev picked : Rules → Repeat → List ℕ
picked rules r = filter (is_printed rules r) held_letters

right_there : (rules : Rules) (r : Repeat) (side : Side) (wing : Wing) → has (right_letter side wing) (picked rules r) ≡ holds_right r.rights side wing
unfolding has is_printed
right_there rules r White Kingside = has-filter (is_printed rules r) 75 held_letters
right_there rules r White Queenside = has-filter (is_printed rules r) 81 held_letters
right_there rules r Black Kingside = has-filter (is_printed rules r) 107 held_letters
right_there rules r Black Queenside = has-filter (is_printed rules r) 113 held_letters

white_gate_letters : all_below (λ f. has (65 + f) held_letters) 10 ≡ true
unfolding has all_below
white_gate_letters = refl

black_gate_letters : all_below (λ f. has (97 + f) held_letters) 10 ≡ true
unfolding has all_below
black_gate_letters = refl

apart : (a b : ℕ) → a ≢ b → (a == b) ≡ false
apart a b h = ne_eqb a b h

white_printed : (rules : Rules) (r : Repeat) (file : ℕ) → file < 10 → is_printed rules r (65 + file) ≡ prints_gate rules r White file
unfolding is_printed
white_printed rules r file below =
    let a = apart (65 + file) 75 (λ e. absurd (omega (arith, e, below))) in
    let b = apart (65 + file) 81 (λ e. absurd (omega (arith, e, below))) in
    let c = apart (65 + file) 107 (λ e. absurd (omega (arith, e, below))) in
    let d = apart (65 + file) 113 (λ e. absurd (omega (arith, e, below))) in
    let low : nat_le 65 (65 + file) ≡ true = le-leb _ _ (omega arith) in
    let high : nat_le (65 + file) 74 ≡ true = le-leb _ _ (omega (arith, below)) in
    let back : (65 + file) - 65 ≡ file = omega arith in
    rw (a, b, c, d, low, high) (ap (prints_gate rules r White) back)

black_printed : (rules : Rules) (r : Repeat) (file : ℕ) → file < 10 → is_printed rules r (97 + file) ≡ prints_gate rules r Black file
unfolding is_printed
black_printed rules r file below =
    let a = apart (97 + file) 75 (λ e. absurd (omega (arith, e, below))) in
    let b = apart (97 + file) 81 (λ e. absurd (omega (arith, e, below))) in
    let c = apart (97 + file) 107 (λ e. absurd (omega (arith, e, below))) in
    let d = apart (97 + file) 113 (λ e. absurd (omega (arith, e, below))) in
    let upper : (nat_le 65 (97 + file) && nat_le (97 + file) 74) ≡ false = (let over : nat_le (97 + file) 74 ≡ false = lt-leb _ _ (omega arith) in rw over (and_no _)) in
    let low : nat_le 97 (97 + file) ≡ true = le-leb _ _ (omega arith) in
    let high : nat_le (97 + file) 106 ≡ true = le-leb _ _ (omega (arith, below)) in
    let back : (97 + file) - 97 ≡ file = omega arith in
    rw (a, b, c, d, upper, low, high) (ap (prints_gate rules r Black) back)

picked_is : (q : ℕ → Bool) (b : ℕ) (answer : Bool) → has b held_letters ≡ true → q b ≡ answer → has b (filter q held_letters) ≡ answer
picked_is q b answer there is = has-filter q b held_letters ∙ (rw there is)

gate_there : (rules : Rules) (r : Repeat) (side : Side) (file : ℕ) → file < 10 → has (gate_letter side file) (picked rules r) ≡ prints_gate rules r side file
gate_there rules r White file below =
    picked_is (is_printed rules r) (65 + file) _ (all_below-each (λ f. has (65 + f) held_letters) 10 white_gate_letters file below) (white_printed rules r file below)
gate_there rules r Black file below =
    picked_is (is_printed rules r) (97 + file) _ (all_below-each (λ f. has (97 + f) held_letters) 10 black_gate_letters file below) (black_printed rules r file below)

-- ---- gates

not_or_true : (a b : Bool) → (not a || b) ≡ true → a ≡ true → b ≡ true
not_or_true true b h k = h
not_or_true false b h k = cc

-- a held right has the gates of its king and its rook
rook_gates : (rules : Rules) (gates : List ℕ) (side : Side) (file : ℕ) (o : Option ℕ) → rules.gating ≡ true → sound_rook rules gates side o ≡ true → (file == rules.castle_king || is_at file o) ≡ true → has_gate gates side file ≡ true
rook_gates rules gates side file None on h k = cc
rook_gates rules gates side file (Some rook) on h k =
    let both = and_parts (has_gate gates side rules.castle_king) (has_gate gates side rook) (not_or_true rules.gating _ h on) in
    ⊎_elim
    (λ (y : (file == rules.castle_king) ≡ true). subst (λ f. has_gate gates side f ≡ true) (sym (eqb-true _ _ y)) both.0)
    (λ (n : (file == rules.castle_king) ≡ false).
    let at : (rook == file) ≡ true = (let e = rw n at k in e) in
    subst (λ f. has_gate gates side f ≡ true) (eqb-true _ _ at) both.1)
    (cases_Bool (file == rules.castle_king))

implied_gate : (rules : Rules) (r : Repeat) (side : Side) (wing : Wing) (file : ℕ) → rules.gating ≡ true → sound_right rules r side wing ≡ true → right_implies rules r side file wing ≡ true → has_gate r.gates side file ≡ true
unfolding sound_right
implied_gate rules r side wing file on sound implied =
    let both = and_parts (holds_right r.rights side wing) (right_gives rules r.cells side wing file) implied in
    rook_gates rules r.gates side file (rook_file rules r.cells side wing) on (and_parts _ _ (not_or_true _ _ sound both.0)).1 both.1

gate_asks : (rules : Rules) (r : Repeat) (side : Side) (file : ℕ) → sound_gate rules r side file ≡ true → has_gate r.gates side file ≡ true → (rules.gating ≡ true) × (file < rules.files)
unfolding sound_gate
gate_asks rules r side file sound held =
    let both = and_parts (rules.gating && nat_lt file rules.files) _ (not_or_true _ _ sound held) in
    let more = and_parts rules.gating (nat_lt file rules.files) both.0 in
    (more.0, ltb-true _ _ more.1)

left_false : (a b : Bool) → (a || b) ≡ false → a ≡ false
left_false true b h = cc
left_false false b h = refl

few_files : (rules : Rules) → IsFit rules → rules.gating ≡ true → rules.files ≤ 10
unfolding gates_amiss
few_files rules fit on =
    let none = fit.gates in
    let shut = rw on at none in
    ltb-false _ _ (left_false _ _ shut)

-- a gate is said where it is held: by its letter, or by a right
said_or_given : (held given on : Bool) → (held ≡ true → on ≡ true) → (on ≡ true → given ≡ true → held ≡ true) → ((held && not given) || (on && given)) ≡ held
said_or_given true true on f g = let h = f refl in rw h refl
said_or_given true false on f g = refl
said_or_given false true true f g = let h = g refl refl in cc
said_or_given false true false f g = refl
said_or_given false false true f g = refl
said_or_given false false false f g = refl

given_by : (a b : Bool) (P : Type 0) → (a || b) ≡ true → (a ≡ true → P) → (b ≡ true → P) → P
given_by true b P h f g = f refl
given_by false b P h f g = g h

gate_said-is : (rules : Rules) (r : Repeat) (text : List ℕ) (side : Side) (file : ℕ) → has (gate_letter side file) text ≡ prints_gate rules r side file
    → ((wing : Wing) → has (right_letter side wing) text ≡ holds_right r.rights side wing)
    → gate_said rules r.cells text side file ≡ (prints_gate rules r side file || (rules.gating && (right_implies rules r side file Kingside || right_implies rules r side file Queenside)))
unfolding gate_said
gate_said-is rules r text side file letter rights =
    let king = rights Kingside in
    let queen = rights Queenside in
    rw (letter, king, queen) refl

gate_back : (rules : Rules) (p : Position) → Parts rules p → (side : Side) (file : ℕ) → file < 10 → gate_said rules p.cells (picked rules (repeat_of p)) side file ≡ has_gate p.gates side file
gate_back rules p parts side file below =
    let r = repeat_of p in
    let sound = all_below-each (sound_gate rules r side) 16 (parts.gate side) file (omega arith) in
    let given = right_implies rules r side file Kingside || right_implies rules r side file Queenside in
    gate_said-is rules r (picked rules r) side file (gate_there rules r side file below) (right_there rules r side)
    ∙ said_or_given (has_gate p.gates side file) given rules.gating (λ held. (gate_asks rules r side file sound held).0)
    (λ on implied. given_by (right_implies rules r side file Kingside) (right_implies rules r side file Queenside) (has_gate p.gates side file ≡ true) implied
    (λ king. implied_gate rules r side Kingside file on (parts.right side Kingside) king) (λ queen. implied_gate rules r side Queenside file on (parts.right side Queenside) queen))

-- no gate is held beyond the tenth file
no_gate_beyond : (rules : Rules) (p : Position) → IsFit rules → Parts rules p → (side : Side) (file : ℕ) → file < 16 → 10 ≤ file → has_gate p.gates side file ≡ false
no_gate_beyond rules p fit parts side file below from =
    ⊎_elim
    (λ (y : has_gate p.gates side file ≡ true).
    let asks = gate_asks rules (repeat_of p) side file (all_below-each (sound_gate rules (repeat_of p) side) 16 (parts.gate side) file below) y in
    let few = few_files rules fit asks.0 in absurd (omega (arith, few, asks.1, from)))
    (λ (n : has_gate p.gates side file ≡ false). n)
    (cases_Bool (has_gate p.gates side file))

side_gates : (rules : Rules) (p : Position) → IsFit rules → Parts rules p → (side : Side) → slice_index p.gates (side_index side) < 65536 → bits_of (gate_said rules p.cells (picked rules (repeat_of p)) side) 10 ≡ slice_index p.gates (side_index side)
side_gates rules p fit parts side small =
    let said = gate_said rules p.cells (picked rules (repeat_of p)) side in
    let most = bits_of-small said 10 in
    same_from_bits_below 16 (bits_of said 10) (slice_index p.gates (side_index side)) (omega (arith, most)) (omega (arith, small)) (λ file below.
    ⊎_elim
    (λ (y : nat_lt file 10 ≡ true). let low : file < 10 = ltb-true _ _ y in
    bit_of-said said 10 file low ∙ ap one_if (gate_back rules p parts side file low) ∙ sym (bit_of-gate p.gates side file))
    (λ (n : nat_lt file 10 ≡ false). let from : 10 ≤ file = ltb-false _ _ n in
    bit_at_above (bits_of said 10) 10 file most from ∙ sym (bit_of-gate p.gates side file ∙ ap one_if (no_gate_beyond rules p fit parts side file below from)))
    (cases_Bool (nat_lt file 10)))

-- ---- both sides

abbrev held : List (List Bool) → List ℕ → Held
held rights gates = record { rights = rights; gates = gates }

two_gates : (gates : List ℕ) (white black : ℕ) → length gates ≡ 2 → white ≡ slice_index gates 0 → black ≡ slice_index gates 1 → white ∷ black ∷ [] ≡ gates
two_gates [] white black two w b = absurd (omega arith)
two_gates (x ∷ []) white black two w b = absurd (omega arith)
two_gates (x ∷ y ∷ []) white black two w b = rw (w, b) refl
two_gates (x ∷ y ∷ z ∷ gates) white black two w b = absurd (omega arith)

small_gates : (gates : List ℕ) → length gates ≡ 2 → list_all (λ g. nat_lt g 65536) gates ≡ true → (side : Side) → slice_index gates (side_index side) < 65536
small_gates [] two small side = absurd (omega arith)
small_gates (x ∷ []) two small side = absurd (omega arith)
small_gates (x ∷ y ∷ []) two small White = ltb-true _ _ (and_parts (nat_lt x 65536) (nat_lt y 65536 && true) small).0
small_gates (x ∷ y ∷ []) two small Black = ltb-true _ _ (and_parts (nat_lt y 65536) true (and_parts (nat_lt x 65536) (nat_lt y 65536 && true) small).1).0
small_gates (x ∷ y ∷ z ∷ gates) two small side = absurd (omega arith)

two_wings : (wings : List Bool) (king queen : Bool) → length wings ≡ 2 → king ≡ get_or wings 0 false → queen ≡ get_or wings 1 false → king ∷ queen ∷ [] ≡ wings
two_wings [] king queen two k q = absurd (omega arith)
two_wings (x ∷ []) king queen two k q = absurd (omega arith)
two_wings (x ∷ y ∷ []) king queen two k q = rw (k, q) refl
two_wings (x ∷ y ∷ z ∷ wings) king queen two k q = absurd (omega arith)

two_rights : (rights : List (List Bool)) (said : Side → Wing → Bool) → length rights ≡ 2 → list_all (λ wings. length wings == 2) rights ≡ true → ((side : Side) (wing : Wing) → said side wing ≡ holds_right rights side wing)
    → (said White Kingside ∷ said White Queenside ∷ []) ∷ (said Black Kingside ∷ said Black Queenside ∷ []) ∷ [] ≡ rights
two_rights [] said two each same = absurd (omega arith)
two_rights (x ∷ []) said two each same = absurd (omega arith)
two_rights (x ∷ y ∷ []) said two each same =
    let both = and_parts (length x == 2) ((length y == 2) && true) each in
    let white = two_wings x (said White Kingside) (said White Queenside) (eqb-true _ _ both.0) (same White Kingside) (same White Queenside) in
    let black = two_wings y (said Black Kingside) (said Black Queenside) (eqb-true _ _ (and_parts (length y == 2) true both.1).0) (same Black Kingside) (same Black Queenside) in
    ap (λ w. w ∷ (said Black Kingside ∷ said Black Queenside ∷ []) ∷ []) white ∙ ap (λ b. x ∷ b ∷ []) black
two_rights (x ∷ y ∷ z ∷ rights) said two each same = absurd (omega arith)

held_same : (rights others : List (List Bool)) (gates more : List ℕ) → rights ≡ others → gates ≡ more → held rights gates ≡ held others more
held_same rights others gates more r g = ap (λ x. held x gates) r ∙ ap (held others) g

-- the letters say what the position holds
said_back : (rules : Rules) (p : Position) → IsFit rules → Parts rules p → held_said rules p.cells (picked rules (repeat_of p)) ≡ held_in p
said_back rules p fit parts =
    let text = picked rules (repeat_of p) in
    let small = small_gates p.gates parts.sizes.gates parts.sizes.each_gate in
    let rights = two_rights p.rights (λ side wing. has (right_letter side wing) text) parts.sizes.rights parts.sizes.each_right (right_there rules (repeat_of p)) in
    let gates = two_gates p.gates (bits_of (gate_said rules p.cells text White) 10) (bits_of (gate_said rules p.cells text Black) 10) parts.sizes.gates (side_gates rules p fit parts White (small White)) (side_gates rules p fit parts Black (small Black)) in
    held_same _ p.rights _ p.gates rights gates

-- ---- the field

no_letters : (side : Side) (wing : Wing) → has (right_letter side wing) [] ≡ false
unfolding has
no_letters side wing = refl

no_gate_said : (rules : Rules) (cells : List (Option Cell)) (side : Side) (file : ℕ) → gate_said rules cells [] side file ≡ false
unfolding gate_said has
no_gate_said rules cells side file = and_no rules.gating

no_bits : (test : ℕ → Bool) (n : ℕ) → ((file : ℕ) → test file ≡ false) → bits_of test n ≡ 0
unfolding bits_of
no_bits test zero none = refl
no_bits test (suc n) none = let more = no_bits test n none in let last = none n in rw last (omega (arith, more))

none_said : (rules : Rules) (cells : List (Option Cell)) → held_said rules cells [] ≡ nothing_held
unfolding has
none_said rules cells =
    let white = no_bits (gate_said rules cells [] White) 10 (no_gate_said rules cells White) in
    let black = no_bits (gate_said rules cells [] Black) 10 (no_gate_said rules cells Black) in
    held_same _ _ _ _ refl (ap (λ w. w ∷ bits_of (gate_said rules cells [] Black) 10 ∷ []) white ∙ ap (λ b. 0 ∷ b ∷ []) black)

no_dash : has 45 held_letters ≡ false
unfolding has
no_dash = refl

dash_not_there : (q : ℕ → Bool) → has 45 (filter q held_letters) ≡ false
dash_not_there q = has-filter q 45 held_letters ∙ (rw no_dash refl)

dash_alone : (text : List ℕ) → says_none text ≡ true → has 45 text ≡ true
unfolding has
dash_alone [] h = cc
dash_alone (b ∷ []) h = or_left (b == 45) false h
dash_alone (b ∷ c ∷ text) h = cc

says_some : (text : List ℕ) → has 45 text ≡ false → says_none text ≡ false
says_some text none =
    ⊎_elim
    (λ (y : says_none text ≡ true). let there = dash_alone text y in cc)
    (λ (n : says_none text ≡ false). n)
    (cases_Bool (says_none text))

held_of-letters : (rules : Rules) (cells : List (Option Cell)) (text : List ℕ) → says_none text ≡ false → are_letters text ≡ true → may_hold rules cells (held_said rules cells text) ≡ true
    → held_of rules cells text ≡ Ok (held_said rules cells text)
unfolding held_of
held_of-letters rules cells text none letters may = rw (none, letters, may) refl

held_of-none : (rules : Rules) (cells : List (Option Cell)) → held_of rules cells no_text ≡ Ok nothing_held
unfolding held_of
held_of-none rules cells = refl

may_hold-is : (rules : Rules) (p : Position) → Parts rules p → may_hold rules p.cells (held_in p) ≡ true
may_hold-is rules p parts = holds_from rules (repeat_of p) parts.right parts.gate

field_back : (rules : Rules) (p : Position) (text : List ℕ) → IsFit rules → Parts rules p → picked rules (repeat_of p) ≡ text → held_of rules p.cells (or_none text) ≡ Ok (held_in p)
field_back rules p [] fit parts is =
    held_of-none rules p.cells ∙ ap Ok (sym (none_said rules p.cells) ∙ ap (held_said rules p.cells) (sym is) ∙ said_back rules p fit parts)
field_back rules p (b ∷ bs) fit parts is =
    let said : held_said rules p.cells (b ∷ bs) ≡ held_in p = ap (held_said rules p.cells) (sym is) ∙ said_back rules p fit parts in
    let none : has 45 (b ∷ bs) ≡ false = ap (has 45) (sym is) ∙ dash_not_there (is_printed rules (repeat_of p)) in
    let letters : are_letters (b ∷ bs) ≡ true = ap are_letters (sym is) ∙ picked_letters (is_printed rules (repeat_of p)) (λ e. let bad : b ∷ bs ≡ [] = sym is ∙ e in cc) in
    held_of-letters rules p.cells (b ∷ bs) (says_some (b ∷ bs) none) letters (ap (may_hold rules p.cells) said ∙ may_hold-is rules p parts) ∙ ap Ok said

-- rights and gates that are printed are read back
pub held-back : (rules : Rules) (p : Position) → IsFit rules → Parts rules p → held_of rules p.cells (rights_text rules (repeat_of p)) ≡ Ok (held_in p)
unfolding rights_text
held-back rules p fit parts = field_back rules p (picked rules (repeat_of p)) fit parts refl

-- ---- its bytes, and how many they are

all_filter : (t q : ℕ → Bool) (xs : List ℕ) → list_all t xs ≡ true → list_all t (filter q xs) ≡ true
all_filter t q [] all = refl
all_filter t q (x ∷ xs) all =
    let both = and_parts (t x) (list_all t xs) all in
    let more = all_filter t q xs both.1 in
    ⊎_elim
    (λ (y : q x ≡ true). ap (list_all t) (kept q x xs y) ∙ and_from _ _ both.0 more)
    (λ (n : q x ≡ false). ap (list_all t) (dropped q x xs n) ∙ more)
    (cases_Bool (q x))

-- the field has a byte, and each passes a test that its letters and `-` pass
or_none_all : (t : ℕ → Bool) (text : List ℕ) → t 45 ≡ true → list_all t text ≡ true → list_all t (or_none text) ≡ true
or_none_all t [] dash all = and_from _ _ dash refl
or_none_all t (b ∷ text) dash all = all

pub rights-all : (t : ℕ → Bool) (rules : Rules) (r : Repeat) → t 45 ≡ true → list_all t held_letters ≡ true → list_all t (rights_text rules r) ≡ true
unfolding rights_text
rights-all t rules r dash all = or_none_all t (picked rules r) dash (all_filter t (is_printed rules r) held_letters all)

no_digits : (text : List ℕ) → list_all (λ b. not (is_digit b)) (or_none text) ≡ true → list_all is_digit (or_none text) ≡ false
no_digits [] all = refl
no_digits (b ∷ text) all =
    let none = not-true _ (and_parts (not (is_digit b)) _ all).0 in rw none refl

not_digits : (text : List ℕ) → list_all is_digit text ≡ false → are_digits text ≡ false
unfolding are_digits
not_digits text none = rw none (and_no _)

pub rights-no_number : (rules : Rules) (r : Repeat) → are_digits (rights_text rules r) ≡ false
unfolding rights_text
rights-no_number rules r =
    not_digits (or_none (picked rules r)) (no_digits (picked rules r) (or_none_all (λ b. not (is_digit b)) (picked rules r) refl (all_filter (λ b. not (is_digit b)) (is_printed rules r) held_letters refl)))

or_none_short : (text : List ℕ) → length text ≤ 24 → length (or_none text) ≤ 24
or_none_short [] short = omega arith
or_none_short (b ∷ text) short = short

filter_short : (q : ℕ → Bool) (xs : List ℕ) → length (filter q xs) ≤ length xs
filter_short q [] = omega arith
filter_short q (x ∷ xs) =
    let more = filter_short q xs in
    ⊎_elim
    (λ (y : q x ≡ true). let e = ap length (kept q x xs y) in omega (arith, e, more))
    (λ (n : q x ≡ false). let e = ap length (dropped q x xs n) in omega (arith, e, more))
    (cases_Bool (q x))

pub rights-short : (rules : Rules) (r : Repeat) → length (rights_text rules r) ≤ 24
unfolding rights_text
rights-short rules r = or_none_short (picked rules r) (filter_short (is_printed rules r) held_letters)
