-- Keys are in the order of the texts.
use Rattle.std.proofs.Common.{◌≡◌, ℕ, zero, suc, ◌+◌, ◌*◌, ◌-◌, ◌/◌, ◌%◌, ◌^◌, ◌<◌, ◌≤◌, true, false, nat_lt, ◌==◌, if◌then◌else◌, Option, Some, None, List, [], ◌∷◌, ◌++◌, length, drop, slice_index, refl, sym, ap, ◌∙◌, subst, arith, length-append}
use Rattle.std.specs.Ordering.{nat_cmp, ordering_then}
use Rattle.std.specs.Cmp.Lexicographic.{slice_cmp}
use Rattle.std.specs.declared.cmp.Ordering.TheVariants.{Less, Equal, Greater}
use Rattle.std.proofs.lemmas.Bool.Decides.{nat_tests}
use Rattle.rules_model.specs.declared.board.Kind.{Kind}
use Rattle.rules_model.specs.declared.board.Square.{Square}
use Rattle.rules_model.specs.declared.moves.Move.{Move}
use Rattle.rules_model.specs.declared.moves.Move.TheVariants.{Go, Castle, Drop}
use Rattle.rules_model.specs.declared.moves.Placed.{Placed}
use Rattle.rules_model.specs.declared.moves.Promo.{Promo}
use Rattle.rules_model.specs.declared.moves.Promo.TheVariants.{Stays, Pawn, Plus}
use Rattle.rules_model.specs.Moves.{IsFitMove}
use Rattle.rules_model.specs.MoveText.{castle_text, digits_of, gate_text, lower, promo_text, square_text, text_of}
use Rattle.move_text.specs.Keys.{with_digits, key_of}

-- ---- digits put after numbers

-- the next digit of a list, 0 where it has none
pub next_digit : (a n i : ℕ) (xs : List ℕ) → with_digits a (suc n) (drop i xs) ≡ with_digits (a * 256 + slice_index xs i) n (drop (suc i) xs)
unfolding with_digits
next_digit a n zero [] = ap (λ b. with_digits b n []) (omega arith)
next_digit a n zero (x ∷ xs) = refl
next_digit a n (suc i) [] = ap (λ b. with_digits b n []) (omega arith)
next_digit a n (suc i) (x ∷ xs) = next_digit a n i xs

pub no_digits : (a : ℕ) (xs : List ℕ) → with_digits a 0 xs ≡ a
unfolding with_digits
no_digits a xs = refl

-- digits do not make a number smaller
pub grows : (a n : ℕ) (xs : List ℕ) → a ≤ with_digits a n xs
unfolding with_digits
grows a zero xs = omega arith
grows a (suc n) [] = let h = grows (a * 256) n [] in omega (arith, h)
grows a (suc n) (x ∷ xs) = let h = grows (a * 256 + x) n xs in omega (arith, h)

abbrev pub AreSmall : List ℕ → Type 0
AreSmall [] = Unit {0}
AreSmall (x ∷ xs) = (x < 256) × AreSmall xs

-- what is smaller stays smaller
smaller : (a b n : ℕ) (xs ys : List ℕ) → AreSmall xs → a < b → with_digits a n xs < with_digits b n ys
unfolding with_digits
smaller a b zero xs ys h l = l
smaller a b (suc n) [] [] h l = smaller (a * 256) (b * 256) n [] [] tt (omega (arith, l))
smaller a b (suc n) [] (y ∷ ys) h l = smaller (a * 256) (b * 256 + y) n [] ys tt (omega (arith, l))
smaller a b (suc n) (x ∷ xs) [] h l = smaller (a * 256 + x) (b * 256) n xs [] h.1 (omega (arith, l, h.0))
smaller a b (suc n) (x ∷ xs) (y ∷ ys) h l = smaller (a * 256 + x) (b * 256 + y) n xs ys h.1 (omega (arith, l, h.0))

last_number : with_digits 1 8 [] ≡ 2 ^ 64
unfolding with_digits
last_number = refl

pub key_fits : (xs : List ℕ) → AreSmall xs → with_digits 0 8 xs < 2 ^ 64
key_fits xs h = let l = smaller 0 1 8 xs [] h (omega arith) in let e = last_number in omega (arith, l, e)

pub small_each : (xs : List ℕ) → ((k : ℕ) → slice_index xs k < 256) → AreSmall xs
small_each [] h = tt
small_each (x ∷ xs) h = (h 0, small_each xs (λ k. h (suc k)))

-- one digit more of those of a list, at its place
pub one_more : (a i b : ℕ) (xs : List ℕ) → i < 8 → b ≡ slice_index xs i → with_digits a (8 - i) (drop i xs) ≡ with_digits 0 8 xs
    → with_digits (a * 256 + b) (8 - (i + 1)) (drop (i + 1) xs) ≡ with_digits 0 8 xs
one_more a i b xs l e f =
    let left : 8 - i ≡ suc (8 - (i + 1)) = omega (arith, l) in
    let next : i + 1 ≡ suc i = omega arith in
    ap (λ d. with_digits (a * 256 + d) (8 - (i + 1)) (drop (i + 1) xs)) e
    ∙ ap (λ j. with_digits (a * 256 + slice_index xs i) (8 - (i + 1)) (drop j xs)) next
    ∙ sym (next_digit a (8 - (i + 1)) i xs) ∙ sym (ap (λ n. with_digits a n (drop i xs)) left) ∙ f

pub next_fits : (a i b : ℕ) (xs : List ℕ) → AreSmall xs → i < 8 → b ≡ slice_index xs i → with_digits a (8 - i) (drop i xs) ≡ with_digits 0 8 xs → a * 256 + b < 2 ^ 64
next_fits a i b xs h l e f =
    let less = key_fits xs h in
    let more = grows (a * 256 + b) (8 - (i + 1)) (drop (i + 1) xs) in
    let same = one_more a i b xs l e f in
    omega (arith, less, more, same)

-- ---- the order

abbrev AreBytes : List ℕ → Type 0
AreBytes [] = Unit {0}
AreBytes (x ∷ xs) = (0 < x) × (x < 256) × AreBytes xs

bytes_small : (xs : List ℕ) → AreBytes xs → AreSmall xs
bytes_small [] h = tt
bytes_small (x ∷ xs) h = (h.1, bytes_small xs h.2)

is_less : (x y : ℕ) → x < y → nat_cmp x y ≡ Less
is_less x y l = grind (arith, nat_tests)

is_equal : (x y : ℕ) → x ≡ y → nat_cmp x y ≡ Equal
is_equal x y e = grind (arith, nat_tests)

is_greater : (x y : ℕ) → y < x → nat_cmp x y ≡ Greater
is_greater x y l = grind (arith, nat_tests)

by_three : (x y : ℕ) (P : Type 0) → (x < y → P) → (x ≡ y → P) → (y < x → P) → P
by_three x y P f g h =
    elim (nat_lt x y) as (λ b. nat_lt x y ≡ b → P) [
      | true ↦ λ e. f (grind (arith, nat_tests))
      | false ↦ λ e. elim (x == y) as (λ b. (x == y) ≡ b → P) [ true ↦ λ d. g (grind (arith, nat_tests)) | false ↦ λ d. h (grind (arith, nat_tests)) ] refl
    ] refl

pub same_order : (a n : ℕ) (xs ys : List ℕ) → AreBytes xs → AreBytes ys → length xs ≤ n → length ys ≤ n
    → nat_cmp (with_digits a n xs) (with_digits a n ys) ≡ slice_cmp nat_cmp xs ys
unfolding with_digits
same_order a zero [] [] h k l m = is_equal a a refl
same_order a zero [] (y ∷ ys) h k l m = absurd (omega arith)
same_order a zero (x ∷ xs) ys h k l m = absurd (omega arith)
same_order a (suc n) [] [] h k l m = is_equal (with_digits (a * 256) n []) (with_digits (a * 256) n []) refl
same_order a (suc n) [] (y ∷ ys) h k l m = is_less (with_digits (a * 256) n []) (with_digits (a * 256 + y) n ys) (smaller (a * 256) (a * 256 + y) n [] ys tt (omega (arith, k.0)))
same_order a (suc n) (x ∷ xs) [] h k l m = is_greater (with_digits (a * 256 + x) n xs) (with_digits (a * 256) n []) (smaller (a * 256) (a * 256 + x) n [] xs tt (omega (arith, h.0)))
same_order a (suc n) (x ∷ xs) (y ∷ ys) h k l m =
    by_three x y (nat_cmp (with_digits (a * 256 + x) n xs) (with_digits (a * 256 + y) n ys) ≡ ordering_then (nat_cmp x y) (slice_cmp nat_cmp xs ys))
    (λ o. is_less (with_digits (a * 256 + x) n xs) (with_digits (a * 256 + y) n ys) (smaller (a * 256 + x) (a * 256 + y) n xs ys (bytes_small xs h.2) (omega (arith, o))) ∙ sym (ap (λ r. ordering_then r (slice_cmp nat_cmp xs ys)) (is_less x y o)))
    (λ e. subst (λ z. nat_cmp (with_digits (a * 256 + x) n xs) (with_digits (a * 256 + z) n ys) ≡ slice_cmp nat_cmp xs ys) e (same_order (a * 256 + x) n xs ys h.2 k.2 (omega (arith, l)) (omega (arith, m)))
    ∙ sym (ap (λ r. ordering_then r (slice_cmp nat_cmp xs ys)) (is_equal x y e)))
    (λ o. is_greater (with_digits (a * 256 + x) n xs) (with_digits (a * 256 + y) n ys) (smaller (a * 256 + y) (a * 256 + x) n ys xs (bytes_small ys k.2) (omega (arith, o))) ∙ sym (ap (λ r. ordering_then r (slice_cmp nat_cmp xs ys)) (is_greater x y o)))

-- ---- texts have at most 8 bytes, none of them 0

joined : (xs ys : List ℕ) → AreBytes xs → AreBytes ys → AreBytes (xs ++ ys)
joined [] ys h k = k
joined (x ∷ xs) ys h k = (h.0, h.1, joined xs ys h.2 k)

-- at most n bytes
abbrev IsText : ℕ → List ℕ → Type 0
IsText n xs = AreBytes xs × (length xs ≤ n)

joined_text : (m n k : ℕ) (xs ys : List ℕ) → m + n ≤ k → IsText m xs → IsText n ys → IsText k (xs ++ ys)
joined_text m n k xs ys l h i = (joined xs ys h.0 i.0, omega (arith, length-append xs ys, h.1, i.1, l))

digits_text : (n : ℕ) → n < 100 → IsText 2 (digits_of n)
digits_text n l =
    elim (nat_lt n 10) as (λ b. nat_lt n 10 ≡ b → IsText 2 (if b then (48 + n) ∷ [] else ((48 + n / 10) ∷ (48 + n % 10) ∷ []))) [
      | true ↦ λ e. ((omega arith, omega (arith, l), tt), omega arith)
      | false ↦ λ e. ((omega arith, omega (arith, l), (omega arith, omega arith, tt)), omega arith)
    ] refl

square_is_text : (s : Square) → s.0 < 120 → IsText 3 (square_text s)
square_is_text s l = let h = digits_text (s.0 / 12 + 1) (omega (arith, l)) in ((omega arith, omega arith, h.0), omega (arith, h.1))

letter_text : (kind : Kind) → IsText 1 (lower kind ∷ [])
letter_text kind = ((omega arith, omega arith, tt), omega arith)

promo_is_text : (promo : Promo) → IsText 1 (promo_text promo)
promo_is_text Stays = (tt, omega arith)
promo_is_text (Pawn kind) = letter_text kind
promo_is_text Plus = ((omega arith, omega arith, tt), omega arith)

gate_is_text : (gate : Option Kind) → IsText 1 (gate_text gate)
gate_is_text None = (tt, omega arith)
gate_is_text (Some kind) = letter_text kind

two_squares : (a b : Square) → a.0 < 120 → b.0 < 120 → IsText 6 (square_text a ++ square_text b)
two_squares a b l m = joined_text 3 3 6 (square_text a) (square_text b) (omega arith) (square_is_text a l) (square_is_text b m)

gated_squares : (a b : Square) (kind : Kind) → a.0 < 120 → b.0 < 120 → IsText 8 (square_text a ++ square_text b ++ (lower kind ∷ []))
gated_squares a b kind l m =
    joined_text 6 1 8 (square_text a ++ square_text b) (lower kind ∷ []) (omega arith) (two_squares a b l m) (letter_text kind)

castle_is_text : (from to rook : Square) (gate : Option Placed) → from.0 < 120 → to.0 < 120 → rook.0 < 120 → IsText 8 (castle_text from to rook gate)
castle_is_text from to rook None l m n = let h = two_squares from to l m in (h.0, omega (arith, h.1))
castle_is_text from to rook (Some placed) l m n =
    elim (placed.at.0 == rook.0) as (λ b. IsText 8 (if b then square_text rook ++ square_text from ++ (lower placed.kind ∷ []) else (square_text from ++ square_text to ++ (lower placed.kind ∷ [])))) [
      | true ↦ gated_squares rook from placed.kind n l
      | false ↦ gated_squares from to placed.kind l m
    ]

move_is_text : (m : Move) → IsFitMove m → IsText 8 (text_of m)
unfolding text_of
move_is_text (Go from to promo gate) h =
    joined_text 7 1 8 ((square_text from ++ square_text to) ++ promo_text promo) (gate_text gate) (omega arith)
    (joined_text 6 1 7 (square_text from ++ square_text to) (promo_text promo) (omega arith) (two_squares from to h.0 h.1) (promo_is_text promo)) (gate_is_text gate)
move_is_text (Castle from to rook gate) h = castle_is_text from to rook gate h.0 h.1 h.2
move_is_text (Drop kind to) h =
    let s = square_is_text to h.1 in ((omega arith, omega arith, (omega arith, omega arith, s.0)), omega (arith, s.1))

pub keys_ordered : (a b : Move) → IsFitMove a → IsFitMove b → nat_cmp (key_of a) (key_of b) ≡ slice_cmp nat_cmp (text_of a) (text_of b)
keys_ordered a b h k = let s = move_is_text a h in let t = move_is_text b k in same_order 0 8 (text_of a) (text_of b) s.0 t.0 s.1 t.1
