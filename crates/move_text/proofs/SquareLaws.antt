-- Squares at the front of a text.
use Rattle.std.proofs.Common.{◌≡◌, ◌≢◌, ℕ, ◌+◌, ◌-◌, ◌*◌, ◌/◌, ◌%◌, ◌<◌, ◌≤◌, nat_lt, nat_le, ◌==◌, Bool, true, false, ◌&&◌, List, [], ◌∷◌, ◌++◌, Option, Some, None, if◌then◌else◌, refl, sym, ap, ◌∙◌, arith, subst, ⊎_elim, append_assoc}
use Rattle.std.proofs.lemmas.Bool.{cases_Bool, le-leb, leb-true, lt-ltb, ltb-true, ltb-false, eqb-true, ne_eqb, and_from, and_parts, and_right}
use Rattle.rules_model.specs.declared.board.Square.{Square}
use Rattle.rules_model.specs.MoveText.{digits_of, square_text}
use Rattle.move_text.specs.Squares.{Front, TwoSquares, after_first, on_file, one_digit, rank_front, second_square, square_front, squares_front}

-- the text does not begin with the digit 0
abbrev pub NoZero : List ℕ → Type 0
NoZero [] = Unit {0}
NoZero (b ∷ text) = (b == 48) ≡ false

pub apart : (a b : ℕ) → a ≢ b → (a == b) ≡ false
apart a b h = ne_eqb a b h

abbrev pub front : ℕ → List ℕ → Front
front value rest = record { value = value; rest = rest }

abbrev front_value : Option Front → ℕ
front_value None = 0
front_value (Some f) = f.value

abbrev front_rest : Option Front → List ℕ
front_rest None = []
front_rest (Some f) = f.rest

-- ---- ranks

digit_back : (n : ℕ) (rest : List ℕ) → 1 ≤ n → n < 10 → one_digit (48 + n) rest ≡ Some (front (n - 1) rest)
digit_back n rest some few =
    let low : nat_le 49 (48 + n) ≡ true = le-leb _ _ (omega (arith, some)) in
    let high : nat_le (48 + n) 57 ≡ true = le-leb _ _ (omega (arith, few)) in
    let value : (48 + n) - 49 ≡ n - 1 = omega arith in
    rw (low, high) (ap (λ v. Some (front v rest)) value)

single_back : (b : ℕ) (rest : List ℕ) → NoZero rest → rank_front (b ∷ rest) ≡ one_digit b rest
single_back b [] h = refl
single_back b (c ∷ rest) h = let none : (b == 49 && c == 48) ≡ false = (rw h (and_right (b == 49) false refl)) in rw none refl

rank_back : (n : ℕ) (rest : List ℕ) → 1 ≤ n → n ≤ 10 → NoZero rest → rank_front (digits_of n ++ rest) ≡ Some (front (n - 1) rest)
rank_back n rest some most stops =
    ⊎_elim
    (λ (y : nat_lt n 10 ≡ true). rw y (single_back (48 + n) rest stops ∙ digit_back n rest some (ltb-true _ _ y)))
    (λ (m : nat_lt n 10 ≡ false).
    let from : 10 ≤ n = ltb-false _ _ m in
    let ten : 10 ≡ n = omega (arith, from, most) in
    subst (λ k. rank_front (digits_of k ++ rest) ≡ Some (front (k - 1) rest)) ten refl)
    (cases_Bool (nat_lt n 10))

digit_said : (b : ℕ) (rest : List ℕ) (f : Front) → one_digit b rest ≡ Some f → (f.value < 9) × (b ≡ 49 + f.value) × (rest ≡ f.rest)
digit_said b rest f h =
    ⊎_elim
    (λ (y : (nat_le 49 b && nat_le b 57) ≡ true).
    let both = and_parts (nat_le 49 b) (nat_le b 57) y in
    let low : 49 ≤ b = leb-true _ _ both.0 in
    let high : b ≤ 57 = leb-true _ _ both.1 in
    let k : Some (front (b - 49) rest) ≡ Some f = (let e = rw y at h in e) in
    let value : b - 49 ≡ f.value = ap front_value k in
    (omega (arith, low, high, value), omega (arith, low, value), ap front_rest k))
    (λ (n : (nat_le 49 b && nat_le b 57) ≡ false). let e = rw n at h in cc)
    (cases_Bool (nat_le 49 b && nat_le b 57))

small_digits : (value : ℕ) → value < 9 → digits_of (value + 1) ≡ (49 + value) ∷ []
small_digits value few = let test : nat_lt (value + 1) 10 ≡ true = lt-ltb _ _ (omega (arith, few)) in rw test (ap (λ d. d ∷ []) (omega arith))

digit_text : (b : ℕ) (rest : List ℕ) (f : Front) → one_digit b rest ≡ Some f → (f.value < 10) × (b ∷ rest ≡ digits_of (f.value + 1) ++ f.rest)
digit_text b rest f h =
    let said = digit_said b rest f h in
    (omega (arith, said.0), ap (λ x. x ∷ rest) said.1 ∙ ap (λ t. (49 + f.value) ∷ t) said.2 ∙ ap (λ t. t ++ f.rest) (sym (small_digits f.value said.0)))

rank_said : (text : List ℕ) (f : Front) → rank_front text ≡ Some f → (f.value < 10) × (text ≡ digits_of (f.value + 1) ++ f.rest)
rank_said [] f h = cc
rank_said (b ∷ []) f h = digit_text b [] f h
rank_said (b ∷ c ∷ rest) f h =
    ⊎_elim
    (λ (y : (b == 49 && c == 48) ≡ true).
    let both = and_parts (b == 49) (c == 48) y in
    let k : Some (front 9 rest) ≡ Some f = (let e = rw y at h in e) in
    let value : 9 ≡ f.value = ap front_value k in
    let tail : rest ≡ f.rest = ap front_rest k in
    (omega (arith, value), ap (λ x. x ∷ c ∷ rest) (eqb-true b 49 both.0) ∙ ap (λ x. 49 ∷ x ∷ rest) (eqb-true c 48 both.1) ∙ ap (λ t. 49 ∷ 48 ∷ t) tail ∙ ap (λ v. digits_of (v + 1) ++ f.rest) value))
    (λ (n : (b == 49 && c == 48) ≡ false). digit_text b (c ∷ rest) f (let e = rw n at h in e))
    (cases_Bool (b == 49 && c == 48))

-- ---- squares

pub square-back : (s : Square) (rest : List ℕ) → s.0 < 120 → NoZero rest → square_front (square_text s ++ rest) ≡ Some (front s.0 rest)
unfolding square_front
square-back s rest below stops =
    let low : nat_le 97 (97 + s.0 % 12) ≡ true = le-leb _ _ (omega arith) in
    let high : nat_le (97 + s.0 % 12) 108 ≡ true = le-leb _ _ (omega arith) in
    let file : (97 + s.0 % 12) - 97 ≡ s.0 % 12 = omega arith in
    let whole : 12 * ((s.0 / 12 + 1) - 1) + s.0 % 12 ≡ s.0 = omega arith in
    rw (low, high) (ap (λ f. on_file f (rank_front (digits_of (s.0 / 12 + 1) ++ rest))) file
    ∙ ap (on_file (s.0 % 12)) (rank_back (s.0 / 12 + 1) rest (omega arith) (omega (arith, below)) stops)
    ∙ ap (λ v. Some (front v rest)) whole)

file_said : (file : ℕ) (text : List ℕ) (f : Front) (o : Option Front) → file < 12 → rank_front text ≡ o → on_file file o ≡ Some f → (f.value < 120) × ((97 + file) ∷ text ≡ square_text (record { 0 = f.value }) ++ f.rest)
file_said file text f None few e k = cc
file_said file text f (Some rank) few e k =
    let said = rank_said text rank e in
    let value : 12 * rank.value + file ≡ f.value = ap front_value k in
    let tail : rank.rest ≡ f.rest = ap front_rest k in
    let column : file ≡ f.value % 12 = omega (arith, value, few) in
    let row : rank.value ≡ f.value / 12 = omega (arith, value, few) in (
      omega (arith, value, few, said.0),
      ap (λ t. (97 + file) ∷ t) said.1 ∙ ap (λ c. (97 + c) ∷ (digits_of (rank.value + 1) ++ rank.rest)) column
          ∙ ap (λ r. (97 + f.value % 12) ∷ (digits_of (r + 1) ++ rank.rest)) row ∙ ap (λ t. (97 + f.value % 12) ∷ (digits_of (f.value / 12 + 1) ++ t)) tail,
    )

pub square-said : (text : List ℕ) (f : Front) → square_front text ≡ Some f → (f.value < 120) × (text ≡ square_text (record { 0 = f.value }) ++ f.rest)
unfolding square_front
square-said [] f h = cc
square-said (b ∷ text) f h =
    ⊎_elim
    (λ (y : (nat_le 97 b && nat_le b 108) ≡ true).
    let both = and_parts (nat_le 97 b) (nat_le b 108) y in
    let low : 97 ≤ b = leb-true _ _ both.0 in
    let high : b ≤ 108 = leb-true _ _ both.1 in
    let same : b ≡ 97 + (b - 97) = omega (arith, low) in
    let said = file_said (b - 97) text f (rank_front text) (omega (arith, low, high)) refl (let e = rw y at h in e) in
    (said.0, ap (λ x. x ∷ text) same ∙ said.1))
    (λ (n : (nat_le 97 b && nat_le b 108) ≡ false). let e = rw n at h in cc)
    (cases_Bool (nat_le 97 b && nat_le b 108))

-- ---- two squares

abbrev first_square : Option TwoSquares → ℕ
first_square None = 0
first_square (Some s) = s.from.0

abbrev target_square : Option TwoSquares → ℕ
target_square None = 0
target_square (Some s) = s.to.0

abbrev ending_of : Option TwoSquares → List ℕ
ending_of None = []
ending_of (Some s) = s.ending

abbrev pub two : Square → Square → List ℕ → TwoSquares
two from to ending = record { from = from; to = to; ending = ending }

-- the text of two squares and an ending
abbrev pub two_text : TwoSquares → List ℕ
two_text s = (square_text s.from ++ square_text s.to) ++ s.ending

square_stops : (s : Square) (rest : List ℕ) → NoZero (square_text s ++ rest)
square_stops s rest = apart (97 + s.0 % 12) 48 (λ e. absurd (omega (arith, e)))

pub squares-back : (s : TwoSquares) → s.from.0 < 120 → s.to.0 < 120 → NoZero s.ending → squares_front (two_text s) ≡ Some s
unfolding squares_front
squares-back s start target stops =
    ap (λ t. after_first (square_front t)) (append_assoc (square_text s.from) (square_text s.to) s.ending)
    ∙ ap after_first (square-back s.from (square_text s.to ++ s.ending) start (square_stops s.to s.ending))
    ∙ ap (second_square s.from.0) (square-back s.to s.ending target stops)

pub record AreSquares (text : List ℕ) (s : TwoSquares) : Type 0 where
  pub start : s.from.0 < 120
  pub target : s.to.0 < 120
  pub written : text ≡ two_text s

second_said : (from : ℕ) (rest : List ℕ) (o : Option Front) (s : TwoSquares) → square_front rest ≡ o → second_square from o ≡ Some s → (from ≡ s.from.0) × (s.to.0 < 120) × (rest ≡ square_text s.to ++ s.ending)
second_said from rest None s e h = cc
second_said from rest (Some to) s e h =
    let said = square-said rest to e in
    let start : from ≡ s.from.0 = ap first_square h in
    let target : to.value ≡ s.to.0 = ap target_square h in
    let tail : to.rest ≡ s.ending = ap ending_of h in
    (start, subst (λ v. v < 120) target said.0, said.1 ∙ ap (λ v. square_text (record { 0 = v }) ++ to.rest) target ∙ ap (λ t. square_text s.to ++ t) tail)

first_said : (text : List ℕ) (o : Option Front) (s : TwoSquares) → square_front text ≡ o → after_first o ≡ Some s → AreSquares text s
first_said text None s e h = cc
first_said text (Some from) s e h =
    let said = square-said text from e in
    let more = second_said from.value from.rest (square_front from.rest) s refl h in
    record {
      start = subst (λ v. v < 120) more.0 said.0;
      target = more.1;
      written = said.1 ∙ ap (λ v. square_text (record { 0 = v }) ++ from.rest) more.0 ∙ ap (λ t. square_text s.from ++ t) more.2 ∙ sym (append_assoc (square_text s.from) (square_text s.to) s.ending);
    }

pub squares-said : (text : List ℕ) (s : TwoSquares) → squares_front text ≡ Some s → AreSquares text s
unfolding squares_front
squares-said text s h = first_said text (square_front text) s refl h
