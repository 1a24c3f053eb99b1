-- Hands that are printed are read back.
use Rattle.std.proofs.Common.{◌≡◌, ◌≢◌, ◌⊎◌, inl, inr, take, ℕ, zero, suc, ◌+◌, ◌-◌, ◌%◌, ◌<◌, ◌≤◌, nat_lt, ◌==◌, Bool, true, false, ◌&&◌, ◌||◌, not, if◌then◌else◌, List, [], ◌∷◌, ◌++◌, length, get_or, map, replicate, count_by, sum, Option, Some, None, Ok, Err, refl, sym, ap, ◌∙◌, arith, subst, ⊎_elim, length-append}
use Rattle.std.specs.List.{flat_map, list_all, range_with_len}
use Rattle.std.proofs.Math.Seq.{take-append_seam}
use Rattle.std.proofs.lemmas.Bool.{cases_Bool, ltb-false, ltb-true, lt-ltb, eqb-true, eqb-false, eq-eqb, ne_eqb, and_from, and_parts}
use Rattle.std.proofs.lemmas.List.{get_or-append_right, length-replicate}
use Rattle.std.proofs.lemmas.List.Folds.{list_all-append}
use Rattle.std.proofs.lemmas.List.FromFn.{fill_by_all}
use Rattle.std.proofs.lemmas.List.Sums.{sum_by-append}
use Rattle.foundation.proofs.CountLemmas.{all_below-each}
use Rattle.rules_model.specs.declared.board.Kind.{Kind}
use Rattle.rules_model.specs.declared.board.Position.{Position}
use Rattle.rules_model.specs.declared.board.Side.{Side}
use Rattle.rules_model.specs.declared.board.Side.TheVariants.{White, Black}
use Rattle.rules_model.specs.declared.rules.Rules.{Rules}
use Rattle.rules_model.specs.Ends.{is_of, pieces_of}
use Rattle.rules_model.specs.Hands.{hand_of, holds, in_hand}
use Rattle.rules_model.specs.Kinds.{has_kind, is_king}
use Rattle.rules_model.specs.Repeats.{repeat_of}
use Rattle.rules_model.specs.Sound.{has_hands, sound_in_hand}
use Rattle.fen_model.specs.Fields.{says_none}
use Rattle.fen_model.specs.Pocket.{counts_from, hands_inside, hands_of, hands_said, inside_of, is_hand_letter, no_hands}
use Rattle.fen_model.specs.Printing.{hand_text, kind_letter, pocket_text}
use Rattle.fen_model.specs.Tokens.{is_letter, letter_kind}
use Rattle.fen_model.proofs.BackLaws.{kind-back, letter-is}
use Rattle.fen_model.proofs.HandLaws.{IsHands}
use Rattle.fen_model.proofs.SoundParts.{Parts}

-- ---- letters in a row, so many of each

abbrev pub in_a_row : (ℕ → ℕ) → (ℕ → ℕ) → ℕ → ℕ → List ℕ
in_a_row often letter a n = flat_map (λ k. replicate (often k) (letter k)) (range_with_len a n)

count-append : (b : ℕ) (xs ys : List ℕ) → count_by (λ c. c == b) (xs ++ ys) ≡ count_by (λ c. c == b) xs + count_by (λ c. c == b) ys
count-append b xs ys = sum_by-append _ xs ys

count_here : (b n x : ℕ) → (x == b) ≡ true → count_by (λ c. c == b) (replicate n x) ≡ n
count_here b zero x y = refl
count_here b (suc n) x y =
    let more = count_here b n x y in
    let one : count_by (λ c. c == b) (x ∷ []) ≡ 1 = rw y refl in
    count-append b (x ∷ []) (replicate n x) ∙ omega (arith, one, more)

count_other : (b n x : ℕ) → (x == b) ≡ false → count_by (λ c. c == b) (replicate n x) ≡ 0
count_other b zero x m = refl
count_other b (suc n) x m =
    let more = count_other b n x m in
    let none : count_by (λ c. c == b) (x ∷ []) ≡ 0 = rw m refl in
    count-append b (x ∷ []) (replicate n x) ∙ omega (arith, none, more)

-- a byte that is none of the letters
count_none : (often letter : ℕ → ℕ) (b a n : ℕ) → ((k : ℕ) → a ≤ k → k < a + n → (letter k == b) ≡ false) → count_by (λ c. c == b) (in_a_row often letter a n) ≡ 0
count_none often letter b a zero other = refl
count_none often letter b a (suc n) other =
    let here = count_other b (often a) (letter a) (other a (omega arith) (omega arith)) in
    let more = count_none often letter b (a + 1) n (λ k from below. other k (omega arith) (omega arith)) in
    count-append b (replicate (often a) (letter a)) (in_a_row often letter (a + 1) n) ∙ (omega (arith, here, more))

-- a byte that is one of them
count_one : (often letter : ℕ → ℕ) (b i a n : ℕ) → a ≤ i → i < a + n → letter i ≡ b → ((k : ℕ) → k < a + n → k ≢ i → (letter k == b) ≡ false) → count_by (λ c. c == b) (in_a_row often letter a n) ≡ often i
count_one often letter b i a zero from below is other = absurd (omega arith)
count_one often letter b i a (suc n) from below is other =
    count-append b (replicate (often a) (letter a)) (in_a_row often letter (a + 1) n)
    ∙ ⊎_elim
    (λ (y : (i == a) ≡ true).
    let same : i ≡ a = eqb-true i a y in
    let test : (letter a == b) ≡ true = eq-eqb _ _ (ap letter (sym same) ∙ is) in
    let here = count_here b (often a) (letter a) test in
    let none = count_none often letter b (a + 1) n (λ k at_least lower. other k (omega arith) (λ e. absurd (omega (arith, e)))) in
    let often_same = ap often same in
    omega (arith, here, none, often_same))
    (λ (m : (i == a) ≡ false).
    let differs : i ≢ a = eqb-false i a m in
    let test : (letter a == b) ≡ false = other a (omega arith) (λ e. differs (sym e)) in
    let here = count_other b (often a) (letter a) test in
    let one = count_one often letter b i (a + 1) n (omega (arith, differs)) (omega arith) is (λ k lower. other k (omega arith)) in
    omega (arith, here, one))
    (cases_Bool (i == a))

-- all letters of which there is one pass a test
all_replicate : (q : ℕ → Bool) (n x : ℕ) → (0 < n → q x ≡ true) → list_all q (replicate n x) ≡ true
all_replicate q zero x h = refl
all_replicate q (suc n) x h = and_from _ _ (h (omega arith)) (all_replicate q n x (λ some. h (omega arith)))

all_row : (q : ℕ → Bool) (often letter : ℕ → ℕ) (a n : ℕ) → ((k : ℕ) → k < a + n → 0 < often k → q (letter k) ≡ true) → list_all q (in_a_row often letter a n) ≡ true
all_row q often letter a zero h = refl
all_row q often letter a (suc n) h =
    list_all-append q (replicate (often a) (letter a)) (in_a_row often letter (a + 1) n)
    ∙ and_from _ _ (all_replicate q (often a) (letter a) (h a (omega arith))) (all_row q often letter (a + 1) n (λ k below. h k (omega arith)))

length_row : (often letter : ℕ → ℕ) (hand : List ℕ) (a : ℕ) → ((k : ℕ) → k < length hand → often (a + k) ≡ get_or hand k 0) → length (in_a_row often letter a (length hand)) ≡ sum hand
length_row often letter [] a h = refl
length_row often letter (x ∷ hand) a h =
    let first : often a ≡ x = ap often (let e : a ≡ a + 0 = omega arith in e) ∙ h 0 (omega arith) in
    let more = length_row often letter hand (a + 1) (λ k below. ap often (let e : a + 1 + k ≡ a + suc k = omega arith in e) ∙ h (suc k) (omega arith)) in
    let here : length (replicate (often a) (letter a)) ≡ often a = length-replicate (often a) (letter a) in
    let whole = length-append (replicate (often a) (letter a)) (in_a_row often letter (a + 1) (length hand)) in
    let all : sum (x ∷ hand) ≡ sum (x ∷ []) + sum hand = sum_by-append (λ y. y) (x ∷ []) hand in
    let one : sum (x ∷ []) ≡ x = (let e : 0 + x ≡ x = omega arith in e) in
    omega (arith, first, more, here, whole, all, one)

-- ---- a hand

abbrev kind : ℕ → Kind
kind k = record { 0 = k }

hand_is : (hands : List (List ℕ)) (side : Side) → hand_text hands side ≡ in_a_row (λ k. in_hand hands side (kind k)) (λ k. kind_letter side (kind k)) 0 26
unfolding hand_text
hand_is hands side = refl

letter_at : (side : Side) (k : ℕ) → k < 26 → kind_letter side (kind k) ≡ kind_letter side (kind 0) + k
letter_at White k below = omega arith
letter_at Black k below = omega arith

apart : (a b : ℕ) → a ≢ b → (a == b) ≡ false
apart a b h = ne_eqb a b h

count_own : (hands : List (List ℕ)) (side : Side) (k : ℕ) → k < 26 → count_by (λ c. c == kind_letter side (kind 0) + k) (hand_text hands side) ≡ in_hand hands side (kind k)
count_own hands side k below =
    ap (count_by (λ c. c == kind_letter side (kind 0) + k)) (hand_is hands side)
    ∙ count_one (λ j. in_hand hands side (kind j)) (λ j. kind_letter side (kind j)) (kind_letter side (kind 0) + k) k 0 26 (omega arith) below (letter_at side k below)
    (λ j lower differs. apart _ _ (λ e. differs (let at = letter_at side j lower in omega (arith, e, at))))

count_white_in_black : (hands : List (List ℕ)) (k : ℕ) → k < 26 → count_by (λ c. c == 65 + k) (hand_text hands Black) ≡ 0
count_white_in_black hands k below =
    ap (count_by (λ c. c == 65 + k)) (hand_is hands Black)
    ∙ count_none (λ j. in_hand hands Black (kind j)) (λ j. kind_letter Black (kind j)) (65 + k) 0 26 (λ j from lower. apart _ _ (λ e. absurd (omega (arith, e, below))))

count_black_in_white : (hands : List (List ℕ)) (k : ℕ) → k < 26 → count_by (λ c. c == 97 + k) (hand_text hands White) ≡ 0
count_black_in_white hands k below =
    ap (count_by (λ c. c == 97 + k)) (hand_is hands White)
    ∙ count_none (λ j. in_hand hands White (kind j)) (λ j. kind_letter White (kind j)) (97 + k) 0 26 (λ j from lower. apart _ _ (λ e. absurd (omega (arith, e, lower))))

-- what stands between the brackets
abbrev pub inside : List (List ℕ) → List ℕ
inside hands = hand_text hands White ++ hand_text hands Black

white_back : (hands : List (List ℕ)) (k : ℕ) → k < 26 → count_by (λ c. c == 65 + k) (inside hands) ≡ in_hand hands White (kind k)
white_back hands k below =
    count-append (65 + k) (hand_text hands White) (hand_text hands Black)
    ∙ (let own = count_own hands White k below in let none = count_white_in_black hands k below in omega (arith, own, none))

black_back : (hands : List (List ℕ)) (k : ℕ) → k < 26 → count_by (λ c. c == 97 + k) (inside hands) ≡ in_hand hands Black (kind k)
black_back hands k below =
    count-append (97 + k) (hand_text hands White) (hand_text hands Black)
    ∙ (let own = count_own hands Black k below in let none = count_black_in_white hands k below in omega (arith, own, none))

hands_again : (hands : List (List ℕ)) → IsHands hands → hands_said (inside hands) ≡ hands
hands_again [] is = absurd (let two = is.two in omega arith)
hands_again (a ∷ []) is = absurd (let two = is.two in omega arith)
hands_again (a ∷ b ∷ []) is =
    let both = and_parts (length a == 26) ((length b == 26) && true) is.each in
    let hands : List (List ℕ) = a ∷ b ∷ [] in
    let white : a ≡ counts_from 65 (inside hands) = fill_by_all (λ k. count_by (λ c. c == 65 + k) (inside hands)) a 26 0 (eqb-true _ _ both.0) (λ k below. sym (white_back hands k below)) in
    let black : b ≡ counts_from 97 (inside hands) = fill_by_all (λ k. count_by (λ c. c == 97 + k) (inside hands)) b 26 0 (eqb-true _ _ (and_parts _ _ both.1).0) (λ k below. sym (black_back hands k below)) in
    sym (ap (λ x. x ∷ b ∷ []) white ∙ ap (λ y. counts_from 65 (inside hands) ∷ y ∷ []) black)
hands_again (a ∷ b ∷ c ∷ hands) is = absurd (let two = is.two in omega arith)

-- ---- the letters

abbrev pub AreHeldSoundly : Rules → List (List ℕ) → Type 0
AreHeldSoundly rules hands = (side : Side) (k : ℕ) → k < 26 → sound_in_hand rules hands side k ≡ true

not_or_true : (a b : Bool) → (not a || b) ≡ true → a ≡ true → b ≡ true
not_or_true true b h k = h
not_or_true false b h k = cc

held_kind : (rules : Rules) (hands : List (List ℕ)) (side : Side) (k : ℕ) → AreHeldSoundly rules hands → k < 26 → 0 < in_hand hands side (kind k) → (has_hands rules && has_kind rules (kind k) && not (is_king rules (kind k))) ≡ true
unfolding sound_in_hand
held_kind rules hands side k sound below some = not_or_true _ _ (sound side k below) (lt-ltb _ _ some)

hand_letter : (rules : Rules) (hands : List (List ℕ)) (side : Side) (k : ℕ) → AreHeldSoundly rules hands → k < 26 → 0 < in_hand hands side (kind k) → is_hand_letter rules (kind_letter side (kind k)) ≡ true
hand_letter rules hands side k sound below some =
    let held = held_kind rules hands side k sound below some in
    let both = and_parts (has_hands rules && has_kind rules (kind k)) (not (is_king rules (kind k))) held in
    let has = (and_parts (has_hands rules) (has_kind rules (kind k)) both.0).1 in
    let letter = letter-is side (kind k) below in
    subst (λ named. (is_letter (kind_letter side (kind k)) && has_kind rules named && not (is_king rules named)) ≡ true) (sym (kind-back side (kind k) below))
    (and_from _ _ (and_from _ _ letter has) both.1)

side_letters : (rules : Rules) (hands : List (List ℕ)) (side : Side) → AreHeldSoundly rules hands → list_all (is_hand_letter rules) (hand_text hands side) ≡ true
side_letters rules hands side sound =
    ap (list_all (is_hand_letter rules)) (hand_is hands side)
    ∙ all_row (is_hand_letter rules) (λ k. in_hand hands side (kind k)) (λ k. kind_letter side (kind k)) 0 26 (λ k below some. hand_letter rules hands side k sound below some)

letters_back : (rules : Rules) (hands : List (List ℕ)) → AreHeldSoundly rules hands → list_all (is_hand_letter rules) (inside hands) ≡ true
letters_back rules hands sound =
    list_all-append (is_hand_letter rules) (hand_text hands White) (hand_text hands Black) ∙ and_from _ _ (side_letters rules hands White sound) (side_letters rules hands Black sound)

-- ---- the pocket

says_none_not : (rules : Rules) (text : List ℕ) → list_all (is_hand_letter rules) text ≡ true → says_none text ≡ false
says_none_not rules [] all = refl
says_none_not rules (b ∷ []) all =
    let letter : is_letter b ≡ true = (and_parts _ _ (and_parts _ _ (and_parts (is_hand_letter rules b) true all).0).0).0 in
    apart b 45 (λ e. let bad = subst (λ c. is_letter c ≡ true) e letter in cc)
says_none_not rules (b ∷ c ∷ text) all = refl

-- what stands between a first and a last byte
inside_of-between : (first last : ℕ) (text : List ℕ) → inside_of (first ∷ (text ++ last ∷ [])) ≡ (if first == 91 && last == 93 then Some text else None)
inside_of-between first last text =
    let place : length (text ++ last ∷ []) - 1 ≡ length text = omega (arith, length-append text (last ∷ [])) in
    let ending : get_or (text ++ last ∷ []) (length text) 0 ≡ last = get_or-append_right text (last ∷ []) (length text) (length text) 0 refl (omega arith) ∙ (let none : length text - length text ≡ 0 = omega arith in rw none refl) in
    let front : take (length text) (text ++ last ∷ []) ≡ text = take-append_seam text (last ∷ []) in
    rw place (rw ending (rw front refl))

no_length : (text : List ℕ) → (length text == 0) ≡ true → text ≡ []
no_length [] h = refl
no_length (b ∷ text) h = absurd (let e = eqb-true (length (b ∷ text)) 0 h in omega (arith, e))

empty_said : hands_said [] ≡ no_hands
unfolding no_hands
empty_said = refl

inside_back : (rules : Rules) (text : List ℕ) → has_hands rules ≡ true → list_all (is_hand_letter rules) text ≡ true → hands_inside rules (Some text) ≡ Ok (hands_said text)
inside_back rules text hands all =
    let none = says_none_not rules text all in
    ⊎_elim
    (λ (y : (length text == 0) ≡ true). rw y (ap Ok (sym (ap hands_said (no_length text y) ∙ empty_said))))
    (λ (n : (length text == 0) ≡ false). rw (n, none, hands, all) refl)
    (cases_Bool (length text == 0))

zeros : (n : ℕ) (xs : List ℕ) → length xs ≡ n → ((k : ℕ) → k < n → get_or xs k 0 ≡ 0) → xs ≡ replicate n 0
zeros zero [] h z = refl
zeros zero (x ∷ xs) h z = absurd (omega arith)
zeros (suc n) [] h z = absurd (omega arith)
zeros (suc n) (x ∷ xs) h z =
    let first : x ≡ 0 = z 0 (omega arith) in
    let others = zeros n xs (omega arith) (λ k below. z (suc k) (omega arith)) in
    ap (λ y. y ∷ xs) first ∙ ap (λ ys. 0 ∷ ys) others

none_in_hand : (rules : Rules) (hands : List (List ℕ)) (side : Side) (k : ℕ) → has_hands rules ≡ false → AreHeldSoundly rules hands → k < 26 → in_hand hands side (kind k) ≡ 0
none_in_hand rules hands side k off sound below =
    ⊎_elim
    (λ (y : nat_lt 0 (in_hand hands side (kind k)) ≡ true). let held = held_kind rules hands side k sound below (ltb-true _ _ y) in let bad = rw off at held in cc)
    (λ (n : nat_lt 0 (in_hand hands side (kind k)) ≡ false). let few : in_hand hands side (kind k) ≤ 0 = ltb-false _ _ n in omega (arith, few))
    (cases_Bool (nat_lt 0 (in_hand hands side (kind k))))

hands_none : (rules : Rules) (hands : List (List ℕ)) → has_hands rules ≡ false → AreHeldSoundly rules hands → IsHands hands → hands ≡ no_hands
unfolding no_hands
hands_none rules [] off sound is = absurd (let two = is.two in omega arith)
hands_none rules (a ∷ []) off sound is = absurd (let two = is.two in omega arith)
hands_none rules (a ∷ b ∷ []) off sound is =
    let both = and_parts (length a == 26) ((length b == 26) && true) is.each in
    let white = zeros 26 a (eqb-true _ _ both.0) (λ k below. none_in_hand rules (a ∷ b ∷ []) White k off sound below) in
    let black = zeros 26 b (eqb-true _ _ (and_parts _ _ both.1).0) (λ k below. none_in_hand rules (a ∷ b ∷ []) Black k off sound below) in
    ap (λ x. x ∷ b ∷ []) white ∙ ap (λ y. replicate 26 0 ∷ y ∷ []) black
hands_none rules (a ∷ b ∷ c ∷ hands) off sound is = absurd (let two = is.two in omega arith)

-- the pocket of a variant with hands
bracketed : (rules : Rules) (hands : List (List ℕ)) → has_hands rules ≡ true → pocket_text rules hands ≡ 91 ∷ (inside hands ++ 93 ∷ [])
unfolding pocket_text
bracketed rules hands on = rw on refl

no_pocket : (rules : Rules) (hands : List (List ℕ)) → has_hands rules ≡ false → pocket_text rules hands ≡ []
unfolding pocket_text
no_pocket rules hands off = rw off refl

hands_of-none : (rules : Rules) → hands_of rules [] ≡ Ok no_hands
unfolding hands_of
hands_of-none rules = refl

hands_of-between : (rules : Rules) (text : List ℕ) → hands_of rules (91 ∷ (text ++ 93 ∷ [])) ≡ hands_inside rules (Some text)
unfolding hands_of
hands_of-between rules text = ap (hands_inside rules) (inside_of-between 91 93 text)

pub hands-back : (rules : Rules) (hands : List (List ℕ)) → IsHands hands → AreHeldSoundly rules hands → hands_of rules (pocket_text rules hands) ≡ Ok hands
hands-back rules hands is sound =
    ⊎_elim
    (λ (y : has_hands rules ≡ true). ap (hands_of rules) (bracketed rules hands y) ∙ hands_of-between rules (inside hands)
    ∙ inside_back rules (inside hands) y (letters_back rules hands sound) ∙ ap Ok (hands_again hands is))
    (λ (n : has_hands rules ≡ false). ap (hands_of rules) (no_pocket rules hands n) ∙ hands_of-none rules ∙ ap Ok (sym (hands_none rules hands n sound is)))
    (cases_Bool (has_hands rules))

-- ---- its bytes, and how many they are

abbrev pub is_pocket_byte : ℕ → Bool
is_pocket_byte b = is_letter b || b == 91 || b == 93

pocket_byte : (rules : Rules) (b : ℕ) → is_hand_letter rules b ≡ true → is_pocket_byte b ≡ true
pocket_byte rules b h = let letter : is_letter b ≡ true = (and_parts _ _ (and_parts _ _ h).0).0 in rw letter refl

each_pocket_byte : (rules : Rules) (text : List ℕ) → list_all (is_hand_letter rules) text ≡ true → list_all is_pocket_byte text ≡ true
each_pocket_byte rules [] all = refl
each_pocket_byte rules (b ∷ text) all = let both = and_parts (is_hand_letter rules b) (list_all (is_hand_letter rules) text) all in and_from _ _ (pocket_byte rules b both.0) (each_pocket_byte rules text both.1)

pub pocket-bytes : (rules : Rules) (hands : List (List ℕ)) → AreHeldSoundly rules hands → list_all is_pocket_byte (pocket_text rules hands) ≡ true
pocket-bytes rules hands sound =
    ⊎_elim
    (λ (y : has_hands rules ≡ true). ap (list_all is_pocket_byte) (bracketed rules hands y)
    ∙ list_all-append is_pocket_byte (inside hands) (93 ∷ []) ∙ and_from _ _ (each_pocket_byte rules (inside hands) (letters_back rules hands sound)) refl)
    (λ (n : has_hands rules ≡ false). ap (list_all is_pocket_byte) (no_pocket rules hands n))
    (cases_Bool (has_hands rules))

-- a pocket is empty, or begins with its bracket
pub pocket-first : (rules : Rules) (hands : List (List ℕ)) → (pocket_text rules hands ≡ []) ⊎ ((rest : List ℕ) × (pocket_text rules hands ≡ 91 ∷ rest))
pocket-first rules hands =
    ⊎_elim
    (λ (y : has_hands rules ≡ true). inr (_, bracketed rules hands y))
    (λ (n : has_hands rules ≡ false). inl (no_pocket rules hands n))
    (cases_Bool (has_hands rules))

hand_length : (hands : List (List ℕ)) (side : Side) → length (hand_of hands side) ≡ 26 → length (hand_text hands side) ≡ sum (hand_of hands side)
hand_length hands side long =
    ap length (hand_is hands side)
    ∙ ap (λ n. length (in_a_row (λ k. in_hand hands side (kind k)) (λ k. kind_letter side (kind k)) 0 n)) (sym long)
    ∙ length_row (λ k. in_hand hands side (kind k)) (λ k. kind_letter side (kind k)) (hand_of hands side) 0 (λ k below. ap (λ j. in_hand hands side (kind j)) (let e : 0 + k ≡ k = omega arith in e))

each_long : (hands : List (List ℕ)) → IsHands hands → (side : Side) → length (hand_of hands side) ≡ 26
each_long [] is side = absurd (let two = is.two in omega arith)
each_long (a ∷ []) is side = absurd (let two = is.two in omega arith)
each_long (a ∷ b ∷ []) is White = eqb-true _ _ (and_parts (length a == 26) ((length b == 26) && true) is.each).0
each_long (a ∷ b ∷ []) is Black = eqb-true _ _ (and_parts (length b == 26) true (and_parts (length a == 26) ((length b == 26) && true) is.each).1).0
each_long (a ∷ b ∷ c ∷ hands) is side = absurd (let two = is.two in omega arith)

in_hand_few : (p : Position) (side : Side) → sum (hand_of p.hands side) ≤ pieces_of (repeat_of p) side
unfolding pieces_of
in_hand_few p side = omega arith

pub pocket-short : (rules : Rules) (p : Position) → IsHands p.hands → pieces_of (repeat_of p) White + pieces_of (repeat_of p) Black ≤ 240 → length (pocket_text rules p.hands) ≤ 242
pocket-short rules p is few =
    let white = hand_length p.hands White (each_long p.hands is White) in
    let black = hand_length p.hands Black (each_long p.hands is Black) in
    let white_few = in_hand_few p White in
    let black_few = in_hand_few p Black in
    let both = length-append (hand_text p.hands White) (hand_text p.hands Black) in
    let whole = length-append (inside p.hands) (93 ∷ []) in
    ⊎_elim
    (λ (y : has_hands rules ≡ true). let e = ap length (bracketed rules p.hands y) in omega (arith, white, black, white_few, black_few, both, whole, e, few))
    (λ (n : has_hands rules ≡ false). let e = ap length (no_pocket rules p.hands n) in omega (arith, e))
    (cases_Bool (has_hands rules))
