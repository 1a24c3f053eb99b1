-- The hands that a pocket says are sound.
use Rattle.std.proofs.Common.{◌≡◌, ℕ, zero, suc, ◌+◌, ◌-◌, ◌<◌, nat_lt, nat_le, ◌==◌, Bool, true, false, ◌&&◌, ◌||◌, not, if◌then◌else◌, List, [], ◌∷◌, length, get_or, replicate, count_by, Option, Some, None, Ok, Err, refl, sym, ap, ◌∙◌, arith, subst, ⊎_elim}
use Rattle.std.specs.List.{list_all}
use Rattle.std.proofs.lemmas.Bool.{cases_Bool, le-leb, lt-leb, eqb-true, eq-eqb, and_from, and_parts, and_right, or_right, not_from_false}
use Rattle.std.proofs.lemmas.List.FromFn.{get_or-map-range_with_len, length-map-range_with_len}
use Rattle.foundation.specs.Count.{all_below}
use Rattle.foundation.proofs.CountLemmas.{all_below-true}
use Rattle.rules_model.specs.declared.board.Side.{Side}
use Rattle.rules_model.specs.declared.board.Side.TheVariants.{White, Black}
use Rattle.rules_model.specs.declared.rules.Rules.{Rules}
use Rattle.rules_model.specs.Hands.{holds, in_hand}
use Rattle.rules_model.specs.Kinds.{has_kind, is_king}
use Rattle.rules_model.specs.Sound.{has_hands, sound_in_hand}
use Rattle.fen_model.specs.Fields.{says_none}
use Rattle.fen_model.specs.Pocket.{counts_from, hands_inside, hands_of, hands_said, inside_of, is_hand_letter, no_hands}
use Rattle.fen_model.specs.Tokens.{is_letter, is_lower, is_upper, letter_kind}

-- ---- letters of kinds

pub white-upper : (k : ℕ) → k < 26 → is_upper (65 + k) ≡ true
white-upper k h = and_from (nat_le 65 (65 + k)) (nat_le (65 + k) 90) (le-leb _ _ (omega arith)) (le-leb _ _ (omega arith))

pub black-lower : (k : ℕ) → k < 26 → is_lower (97 + k) ≡ true
black-lower k h = and_from (nat_le 97 (97 + k)) (nat_le (97 + k) 122) (le-leb _ _ (omega arith)) (le-leb _ _ (omega arith))

pub black-not_upper : (k : ℕ) → is_upper (97 + k) ≡ false
black-not_upper k = let high : nat_le (97 + k) 90 ≡ false = lt-leb _ _ (omega arith) in rw high (and_right (nat_le 65 (97 + k)) false refl)

kind_of-white : (k : ℕ) → k < 26 → letter_kind (65 + k) ≡ record { 0 = k }
kind_of-white k h = let up = white-upper k h in let e : (65 + k) - 65 ≡ k = omega arith in rw up (rw e refl)

kind_of-black : (k : ℕ) → k < 26 → letter_kind (97 + k) ≡ record { 0 = k }
kind_of-black k h = let up = black-not_upper k in let e : (97 + k) - 97 ≡ k = omega arith in rw up (rw e refl)

-- ---- sizes

pub record IsHands (hands : List (List ℕ)) : Type 0 where
  pub two : length hands ≡ 2
  pub each : list_all (λ hand. length hand == 26) hands ≡ true

none-hands : IsHands no_hands
unfolding no_hands
none-hands = record { two = refl; each = refl }

length-counts : (first : ℕ) (letters : List ℕ) → length (counts_from first letters) ≡ 26
length-counts first letters = length-map-range_with_len (λ k. count_by (λ c. c == first + k) letters) 0 26

said-hands : (letters : List ℕ) → IsHands (hands_said letters)
said-hands letters =
    let white = length-counts 65 letters in
    let black = length-counts 97 letters in
    record { two = refl; each = and_from _ _ (eq-eqb _ _ white) (and_from _ _ (eq-eqb _ _ black) refl) }

-- ---- what is held

none_of : (n k : ℕ) → get_or (replicate {A = ℕ} n 0) k 0 ≡ 0
none_of zero k = refl
none_of (suc n) zero = refl
none_of (suc n) (suc k) = none_of n k

no_piece_in : (rules : Rules) (side : Side) (k : ℕ) → sound_in_hand rules no_hands side k ≡ true
unfolding sound_in_hand no_hands
no_piece_in rules White k = let none = none_of 26 k in rw none refl
no_piece_in rules Black k = let none = none_of 26 k in rw none refl

pub count-at : (first k : ℕ) (letters : List ℕ) → k < 26 → get_or (counts_from first letters) k 0 ≡ count_by (λ c. c == first + k) letters
count-at first k letters below = get_or-map-range_with_len (λ j. count_by (λ c. c == first + j) letters) 0 26 k k 0 below (omega arith)

-- a byte that is there passes the test that all pass
there_passes : (q : ℕ → Bool) (b : ℕ) (text : List ℕ) → nat_lt 0 (count_by (λ c. c == b) text) ≡ true → list_all q text ≡ true → q b ≡ true
there_passes q b [] some all = cc
there_passes q b (x ∷ xs) some all =
    let both = and_parts (q x) (list_all q xs) all in
    ⊎_elim
    (λ y. subst (λ z. q z ≡ true) (eqb-true x b y) both.0)
    (λ n. there_passes q b xs (let k = rw n at some in k) both.1)
    (cases_Bool (x == b))

may_be_held : (rules : Rules) (b k : ℕ) → letter_kind b ≡ record { 0 = k } → has_hands rules ≡ true → is_hand_letter rules b ≡ true
    → (has_hands rules && has_kind rules (record { 0 = k }) && not (is_king rules (record { 0 = k }))) ≡ true
may_be_held rules b k is hands letter =
    let a = and_parts (is_letter b && has_kind rules (letter_kind b)) (not (is_king rules (letter_kind b))) letter in
    let has = (and_parts (is_letter b) (has_kind rules (letter_kind b)) a.0).1 in
    subst (λ kind. (has_hands rules && has_kind rules kind && not (is_king rules kind)) ≡ true) is (and_from _ _ (and_from _ _ hands has) a.1)

not_or : (a b : Bool) → (a ≡ true → b ≡ true) → (not a || b) ≡ true
not_or true b f = f refl
not_or false b f = refl

sound_said : (rules : Rules) (letters : List ℕ) (side : Side) (k : ℕ) → k < 26 → has_hands rules ≡ true → list_all (is_hand_letter rules) letters ≡ true → sound_in_hand rules (hands_said letters) side k ≡ true
unfolding sound_in_hand
sound_said rules letters White k below hands all =
    not_or _ _ (λ some. let count = count-at 65 k letters below in
    may_be_held rules (65 + k) k (kind_of-white k below) hands (there_passes (is_hand_letter rules) (65 + k) letters (let h = rw count at some in h) all))
sound_said rules letters Black k below hands all =
    not_or _ _ (λ some. let count = count-at 97 k letters below in
    may_be_held rules (97 + k) k (kind_of-black k below) hands (there_passes (is_hand_letter rules) (97 + k) letters (let h = rw count at some in h) all))

-- ---- the pocket

abbrev pub AreSound : Rules → List (List ℕ) → Type 0
AreSound rules hands = IsHands hands × ((side : Side) → all_below (sound_in_hand rules hands side) 26 ≡ true)

sound_none : (rules : Rules) → AreSound rules no_hands
sound_none rules = (none-hands, λ side. all_below-true _ 26 (λ k below. no_piece_in rules side k))

inside_sound : (rules : Rules) (inside : Option (List ℕ)) (hands : List (List ℕ)) → hands_inside rules inside ≡ Ok hands → AreSound rules hands
inside_sound rules None hands h = cc
inside_sound rules (Some inside) hands h =
    ⊎_elim
    (λ y. let k = rw y at h in let e : no_hands ≡ hands = cc in subst (AreSound rules) e (sound_none rules))
    (λ (n : (length inside == 0 || says_none inside) ≡ false). ⊎_elim
    (λ (y : (has_hands rules && list_all (is_hand_letter rules) inside) ≡ true). let k = rw (n, y) at h in let e : hands_said inside ≡ hands = cc in
    let both = and_parts (has_hands rules) (list_all (is_hand_letter rules) inside) y in
    subst (AreSound rules) e (said-hands inside, λ side. all_below-true _ 26 (λ k below. sound_said rules inside side k below both.0 both.1)))
    (λ (m : (has_hands rules && list_all (is_hand_letter rules) inside) ≡ false). let k = rw (n, m) at h in cc)
    (cases_Bool (has_hands rules && list_all (is_hand_letter rules) inside)))
    (cases_Bool (length inside == 0 || says_none inside))

-- the hands that a pocket says are sound
pub sound_hands : (rules : Rules) (pocket : List ℕ) (hands : List (List ℕ)) → hands_of rules pocket ≡ Ok hands → AreSound rules hands
unfolding hands_of
sound_hands rules pocket hands h = inside_sound rules (inside_of pocket) hands h
