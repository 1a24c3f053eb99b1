-- Fields piece by piece.
use Rattle.std.proofs.Common.{◌≡◌, ◌≢◌, ℕ, zero, suc, ◌+◌, ◌<◌, ◌≤◌, Bool, true, false, List, [], ◌∷◌, ◌++◌, length, get_or, replicate, take, refl, sym, ap, ◌∙◌, arith, append_assoc, length-append}
use Rattle.std.specs.List.{filter, flat_map, join_with_byte, range_with_len}
use Rattle.std.proofs.lemmas.Grind.{flat_map-append}
use Rattle.std.proofs.lemmas.List.{append-nil, take_all}
use Rattle.std.proofs.lemmas.List.Elements.{filter_more}
use Rattle.rules_model.specs.declared.board.Position.{Position}
use Rattle.rules_model.specs.declared.board.Repeat.{Repeat}
use Rattle.rules_model.specs.declared.board.Side.{Side}
use Rattle.rules_model.specs.declared.rules.Rules.{Rules}
use Rattle.rules_model.specs.Hands.{in_hand}
use Rattle.fen_model.specs.Held.{held_letters}
use Rattle.fen_model.specs.Printing.{board_text, count_texts, fen_text, field_texts, hand_text, is_printed, kind_letter, or_none, pocket_text, rights_text, state_texts}
use Rattle.variant_fen.specs.Blanks.{blanked}

-- ---- hands

flat-more : (f : ℕ → List ℕ) (a n : ℕ) → flat_map f (range_with_len a (n + 1)) ≡ flat_map f (range_with_len a n) ++ f (a + n)
flat-more f a zero = append-nil (f a) ∙ ap f (let e : a ≡ a + 0 = omega arith in e)
flat-more f a (suc n) =
    let next : (suc n) + 1 ≡ suc (n + 1) = omega arith in
    let last : (a + 1) + n ≡ a + suc n = omega arith in
    ap (λ k. flat_map f (range_with_len a k)) next
    ∙ ap (λ rest. f a ++ rest) (flat-more f (a + 1) n)
    ∙ ap (λ k. f a ++ (flat_map f (range_with_len (a + 1) n) ++ f k)) last
    ∙ sym (append_assoc (f a) (flat_map f (range_with_len (a + 1) n)) (f (a + suc n)))

-- the letters of the first kinds of a hand
unfoldable pub hand_letters : List (List ℕ) → Side → ℕ → List ℕ
hand_letters hands side n = flat_map (λ kind. replicate (in_hand hands side (record { 0 = kind })) (kind_letter side (record { 0 = kind }))) (range_with_len 0 n)

pub hand_letters-none : (hands : List (List ℕ)) (side : Side) → hand_letters hands side 0 ≡ []
unfolding hand_letters
hand_letters-none hands side = refl

pub hand_letters-more : (hands : List (List ℕ)) (side : Side) (n : ℕ) → hand_letters hands side (n + 1) ≡ hand_letters hands side n ++ replicate (in_hand hands side (record { 0 = n })) (kind_letter side (record { 0 = n }))
unfolding hand_letters
hand_letters-more hands side n =
    let letters : ℕ → List ℕ = λ kind. replicate (in_hand hands side (record { 0 = kind })) (kind_letter side (record { 0 = kind })) in
    flat-more letters 0 n ∙ ap (λ k. flat_map letters (range_with_len 0 n) ++ letters k) (let e : 0 + n ≡ n = omega arith in e)

pub hand_letters-all : (hands : List (List ℕ)) (side : Side) → hand_text hands side ≡ hand_letters hands side 26
unfolding hand_letters hand_text
hand_letters-all hands side = refl

-- ---- rights and gates

pub picked_more : (q : ℕ → Bool) (text letters : List ℕ) (i : ℕ) → i < length letters → q (get_or letters i 0) ≡ true → text ++ filter q (take (i + 1) letters) ≡ (text ++ filter q (take i letters)) ++ get_or letters i 0 ∷ []
picked_more q text letters i below h =
    ap (λ t. text ++ t) (filter_more q letters i 0 below ∙ (rw h refl)) ∙ sym (append_assoc text (filter q (take i letters)) (get_or letters i 0 ∷ []))

pub picked_less : (q : ℕ → Bool) (letters : List ℕ) (i : ℕ) → i < length letters → q (get_or letters i 0) ≡ false → filter q (take (i + 1) letters) ≡ filter q (take i letters)
picked_less q letters i below h = filter_more q letters i 0 below ∙ (rw h (append-nil (filter q (take i letters))))

same_length : (text more : List ℕ) → length (text ++ more) ≡ length text → more ≡ []
same_length text [] h = refl
same_length text (b ∷ more) h = absurd (let e = length-append text (b ∷ more) in omega (arith, h, e))

or_none-some : (text more : List ℕ) → length (text ++ more) ≢ length text → or_none more ≡ more
or_none-some text [] h = absurd (h (ap length (append-nil text)))
or_none-some text (b ∷ more) h = refl

pub rights_none : (rules : Rules) (r : Repeat) (text whole : List ℕ) → whole ≡ text ++ filter (is_printed rules r) held_letters → length whole ≡ length text → whole ++ 45 ∷ [] ≡ text ++ rights_text rules r
unfolding rights_text
rights_none rules r text whole is long =
    let nothing = same_length text (filter (is_printed rules r) held_letters) (sym (ap length is) ∙ long) in
    ap (λ t. t ++ 45 ∷ []) (is ∙ ap (λ t. text ++ t) nothing ∙ append-nil text) ∙ ap (λ t. text ++ or_none t) (sym nothing)

pub rights_some : (rules : Rules) (r : Repeat) (text whole : List ℕ) → whole ≡ text ++ filter (is_printed rules r) held_letters → length whole ≢ length text → whole ≡ text ++ rights_text rules r
unfolding rights_text
rights_some rules r text whole is long =
    is ∙ ap (λ t. text ++ t) (sym (or_none-some text (filter (is_printed rules r) held_letters) (λ e. long (ap length is ∙ e))))

pub all_picked : (rules : Rules) (r : Repeat) (text whole : List ℕ) (i : ℕ) → whole ≡ text ++ filter (is_printed rules r) (take i held_letters) → length held_letters ≤ i → whole ≡ text ++ filter (is_printed rules r) held_letters
all_picked rules r text whole i is done = is ∙ ap (λ t. text ++ filter (is_printed rules r) t) (take_all i held_letters done)

-- ---- blanks

pub blank_then : (text field : List ℕ) → (text ++ 32 ∷ []) ++ field ≡ text ++ 32 ∷ field
blank_then text field = append_assoc text (32 ∷ []) field

pub blanked_more : (text : List ℕ) (fields : List (List ℕ)) (field : List ℕ) → (text ++ blanked fields) ++ 32 ∷ field ≡ text ++ blanked (fields ++ field ∷ [])
blanked_more text fields field =
    append_assoc text (blanked fields) (32 ∷ field) ∙ ap (λ t. text ++ t) (ap (λ t. blanked fields ++ t) (sym (append-nil (32 ∷ field))) ∙ sym (flat_map-append (λ t. 32 ∷ t) fields (field ∷ [])))

pub blanked_both : (text : List ℕ) (first second : List (List ℕ)) → (text ++ blanked first) ++ blanked second ≡ text ++ blanked (first ++ second)
blanked_both text first second = append_assoc text (blanked first) (blanked second) ∙ ap (λ t. text ++ t) (sym (flat_map-append (λ t. 32 ∷ t) first second))

pub joined : (text : List ℕ) (texts : List (List ℕ)) → join_with_byte 32 (text ∷ texts) ≡ text ++ blanked texts
joined text [] = sym (append-nil text)
joined text (next ∷ texts) = ap (λ t. text ++ 32 ∷ t) (joined next texts)

pub fen_is : (rules : Rules) (p : Position) → fen_text rules p ≡ (board_text rules p.cells ++ pocket_text rules p.hands) ++ blanked (state_texts rules p ++ count_texts rules p)
unfolding fen_text field_texts
fen_is rules p = joined (board_text rules p.cells ++ pocket_text rules p.hands) (state_texts rules p ++ count_texts rules p)

-- the board, and then the fields after it
pub fen_pushed : (rules : Rules) (p : Position) (start board text : List ℕ) → start ≡ [] → board ≡ start ++ board_text rules p.cells
    → text ≡ (board ++ pocket_text rules p.hands) ++ blanked (state_texts rules p ++ count_texts rules p) → text ≡ fen_text rules p
fen_pushed rules p start board text a b c =
    c ∙ ap (λ t. (t ++ pocket_text rules p.hands) ++ blanked (state_texts rules p ++ count_texts rules p)) (b ∙ ap (λ t. t ++ board_text rules p.cells) a) ∙ sym (fen_is rules p)

pub ruleset hands = (hand_letters-none, hand_letters-more, hand_letters-all)
