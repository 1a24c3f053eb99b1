-- Laws of the bits of numbers.
use Rattle.std.proofs.Common.{◌≡◌, ℕ, zero, suc, if◌then◌else◌, sym, ◌+◌, ◌-◌, ◌*◌, ◌/◌, ◌%◌, ◌^◌, ◌<◌, ◌≤◌, min, max, nat_le, nat_lt, true, false, ◌&&◌, ◌||◌, not, ◌==◌, refl, ap, ◌∙◌, arith}
use Rattle.std.specs.Prelude.{bit_and, bit_or, bit_xor}
use Rattle.std.specs.Int.{w128, bit_at}
use Rattle.std.specs.Int.Count.{count_leading_zeros, count_trailing_zeros}
use Rattle.std.proofs.lemmas.Nat.{leading_top, div-add-mod', pow_pos}
use Rattle.std.proofs.lemmas.Bool.{lt-ltb, le-ltb, lt-leb, le-leb}
use Rattle.std.proofs.Math.Nat.{pow-suc, mod-lt}
use Rattle.std.proofs.lemmas.Nat.Bits.{bit_at_xor, bit_at-suc, bit_at_lowest, bit_at-zero, bit_at_and, bit_at_or, bit_at_not, bit_at-lt, bit_at_above, bit_at_set_same, bit_at_set_other, bit_at_clear_same, bit_at_clear_other, bit_at-trailing_zeros, bit_at_cat_low, bit_at_cat_high, bit_at_ones, ones_shl, bit_at_mask_inside, bit_at_mask_below}
use Rattle.std.proofs.Math.Bool.{and-false, and-true, or-false, or-true}
use Rattle.square_set.proofs.Cases.{by_equal, by_order}
use Rattle.square_set.specs.Members.{bit, IsFirst}
use Rattle.square_set.specs.declared.Set.{Set}

min_one : (x y : ℕ) → x < 2 → y < 2 → (min x y == 1) ≡ ((x == 1) && (y == 1))
min_one x y l m = grind arith

max_one : (x y : ℕ) → x < 2 → y < 2 → (max x y == 1) ≡ ((x == 1) || (y == 1))
max_one x y l m = grind arith

pub bit-and : (a b i : ℕ) → bit (bit_and a b) i ≡ (bit a i && bit b i)
bit-and a b i = ap (λ x. x == 1) (bit_at_and a b i) ∙ min_one (bit_at a i) (bit_at b i) (bit_at-lt a i) (bit_at-lt b i)

pub bit-or : (a b i : ℕ) → bit (bit_or a b) i ≡ (bit a i || bit b i)
bit-or a b i = ap (λ x. x == 1) (bit_at_or a b i) ∙ max_one (bit_at a i) (bit_at b i) (bit_at-lt a i) (bit_at-lt b i)

pub one_is : (x : ℕ) → (x == 1) ≡ true → x ≡ 1
one_is x e = grind arith

none_is : (x : ℕ) → x < 2 → (x == 1) ≡ false → x ≡ 0
none_is x l e = grind arith

-- from 128 on a number has no bit
pub bit-above : (a i : ℕ) → a < 2 ^ 128 → 128 ≤ i → bit a i ≡ false
bit-above a i l m = ap (λ x. x == 1) (bit_at_above a 128 i l m)

not_one : (x : ℕ) → x < 2 → (1 - x == 1) ≡ not (x == 1)
not_one x l = grind arith

pub bit-minus : (a o i : ℕ) → a < 2 ^ 128 → o < 2 ^ 128 → bit (bit_and a (2 ^ 128 - 1 - o)) i ≡ (bit a i && not (bit o i))
bit-minus a o i la lo =
    bit-and a (2 ^ 128 - 1 - o) i ∙
    by_order i 128 ((bit a i && bit (2 ^ 128 - 1 - o) i) ≡ (bit a i && not (bit o i)))
    (λ l. ap (λ b. bit a i && b) (ap (λ x. x == 1) (bit_at_not w128 o i lo l) ∙ not_one (bit_at o i) (bit_at-lt o i)))
    (λ l. rw (bit-above a i la l))

pub bit-with : (a s i : ℕ) → s < 128 → bit (bit_or a (1 * 2 ^ s % 2 ^ 128)) i ≡ (bit a i || (i == s))
bit-with a s i l =
    by_equal i s (bit (bit_or a (1 * 2 ^ s % 2 ^ 128)) i ≡ (bit a i || (i == s)))
    (λ e h. rw (e, or-true (bit a i)) (rw h (ap (λ x. x == 1) (bit_at_set_same w128 a s l))))
    (λ e h. rw (e, or-false (bit a i)) (ap (λ x. x == 1) (bit_at_set_other w128 a s l i h)))

pub bit-without : (a s i : ℕ) → a < 2 ^ 128 → s < 128 → bit (bit_and a (2 ^ 128 - 1 - 1 * 2 ^ s % 2 ^ 128)) i ≡ (bit a i && not (i == s))
bit-without a s i la l =
    by_equal i s (bit (bit_and a (2 ^ 128 - 1 - 1 * 2 ^ s % 2 ^ 128)) i ≡ (bit a i && not (i == s)))
    (λ e h. rw (e, and-false (bit a i)) (rw h (ap (λ x. x == 1) (bit_at_clear_same w128 a s l))))
    (λ e h. rw (e, and-true (bit a i)) (by_order i 128 (bit (bit_and a (2 ^ 128 - 1 - 1 * 2 ^ s % 2 ^ 128)) i ≡ bit a i)
    (λ m. ap (λ x. x == 1) (bit_at_clear_other w128 a s l i m h))
    (λ m. bit-and a (2 ^ 128 - 1 - 1 * 2 ^ s % 2 ^ 128) i ∙ rw (bit-above a i la m))))

-- the lowest bit that is 1
pub lowest : (set : Set) → 0 < set.0 → set.0 < 2 ^ 128 → IsFirst set (count_trailing_zeros 128 set.0)
lowest set p l =
    let h = bit_at-trailing_zeros w128 set.0 p l in
    record { small = h.0; member = ap (λ x. x == 1) h.1; lowest = λ i m. ap (λ x. x == 1) (h.2 i m) }

lt-suc : (s i : ℕ) → nat_lt (suc s) (suc i) ≡ nat_lt s i
lt-suc s i = grind arith

-- where two numbers differ by 1, their bits differ up to the lowest bit of the greater one, and agree above it
turned : (s x i : ℕ) → 0 < x → bit_at x s ≡ 1 → ((k : ℕ) → k < s → bit_at x k ≡ 0) → (bit_at x i + bit_at (x - 1) i) % 2 ≡ (if nat_lt s i then 0 else 1)
turned zero x zero p one none =
    let a = bit_at_lowest x in
    let b = bit_at_lowest (x - 1) in
    let e : (bit_at x 0 + bit_at (x - 1) 0) % 2 ≡ 1 = omega (arith, one, a, b, p) in e
turned zero x (suc i) p one none =
    let a = bit_at_lowest x in
    let h : (x - 1) / 2 ≡ x / 2 = omega (arith, one, a) in
    let b = bit_at-suc x i in
    let c = bit_at-suc (x - 1) i ∙ ap (λ y. bit_at y i) h in
    let e : (bit_at x (suc i) + bit_at (x - 1) (suc i)) % 2 ≡ 0 = omega (arith, b, c) in
    rw (lt-ltb 0 (suc i) (omega arith)) e
turned (suc s) x zero p one none =
    let a = bit_at_lowest x in
    let b = bit_at_lowest (x - 1) in
    let z = none 0 (omega arith) in
    let e : (bit_at x 0 + bit_at (x - 1) 0) % 2 ≡ 1 = omega (arith, a, b, z, p) in
    rw (le-ltb (suc s) 0 (omega arith)) e
turned (suc s) x (suc i) p one none =
    let a = bit_at_lowest x in
    let z = none 0 (omega arith) in
    let h : (x - 1) / 2 ≡ x / 2 - 1 = omega (arith, a, z, p) in
    let b = bit_at-suc x i in
    let c = bit_at-suc (x - 1) i ∙ ap (λ y. bit_at y i) h in
    let e = turned s (x / 2) i (omega (arith, a, z, p)) (sym (bit_at-suc x s) ∙ one) (λ k l. sym (bit_at-suc x k) ∙ none (suc k) (omega (arith, l))) in
    rw (b, c, lt-suc s i) e

some_bit : (x s : ℕ) → bit_at x s ≡ 1 → 0 < x
some_bit zero s e = absurd (omega (arith, e, bit_at-zero s))
some_bit (suc x) s e = omega arith

one_or_zero : (s i : ℕ) → ((if nat_lt s i then 0 else 1) == 1) ≡ not (nat_lt s i)
one_or_zero s i = grind arith

-- to turn the bits of a number by those of the one before it
pub bit-turned : (x s i : ℕ) → 0 < x → x < 2 ^ 128 → bit x s ≡ true → ((k : ℕ) → k < s → bit x k ≡ false) → bit (bit_xor x ((x + (2 ^ 128 - 1)) % 2 ^ 128)) i ≡ not (nat_lt s i)
bit-turned x s i p l one none =
    let before : (x + (2 ^ 128 - 1)) % 2 ^ 128 ≡ x - 1 = omega (arith, p, l) in
    let is_one : bit_at x s ≡ 1 = one_is (bit_at x s) one in
    let are_none : (k : ℕ) → k < s → bit_at x k ≡ 0 = λ k m. none_is (bit_at x k) (bit_at-lt x k) (none k m) in
    ap (λ n. n == 1) (ap (λ y. bit_at (bit_xor x y) i) before ∙ bit_at_xor x (x - 1) i ∙ turned s x i p is_one are_none) ∙ one_or_zero s i

even_both : (a b : ℕ) → a < 2 → b < 2 → (a + b) % 2 ≡ 0 → ((a == 1) && (b == 1)) ≡ ((a == 1) && true)
even_both a b l m e = let same : a ≡ b = omega (arith, l, m, e) in rw same grind arith

odd_both : (a b : ℕ) → a < 2 → b < 2 → (a + b) % 2 ≡ 1 → ((a == 1) && (b == 1)) ≡ false
odd_both a b l m e = grind arith

-- a number and the one before it have the same bits above its lowest one, and no other in common
off : (x s i : ℕ) → bit x s ≡ true → ((k : ℕ) → k < s → bit x k ≡ false) → (bit_at x i + bit_at (x - 1) i) % 2 ≡ (if nat_lt s i then 0 else 1)
    → (bit x i && bit (x - 1) i) ≡ (bit x i && not (i == s))
off x s i one none e =
    by_order s i ((bit x i && bit (x - 1) i) ≡ (bit x i && not (i == s)))
    (λ l.
    let apart : (i == s) ≡ false = grind (arith, l) in
    let even = e ∙ ap (λ b. if b then 0 else 1) (lt-ltb s i l) in
    rw apart (even_both (bit_at x i) (bit_at (x - 1) i) (bit_at-lt x i) (bit_at-lt (x - 1) i) even))
    (λ l.
    let odd = odd_both (bit_at x i) (bit_at (x - 1) i) (bit_at-lt x i) (bit_at-lt (x - 1) i) (e ∙ ap (λ b. if b then 0 else 1) (le-ltb s i l)) in
    by_equal i s ((bit x i && bit (x - 1) i) ≡ (bit x i && not (i == s)))
    (λ t h. rw t (odd ∙ sym (and-false (bit x i))))
    (λ t h. rw (none i (omega (arith, l, h)))))

-- without its lowest bit
pub bit-off : (x s i : ℕ) → x < 2 ^ 128 → bit x s ≡ true → ((k : ℕ) → k < s → bit x k ≡ false)
    → bit (bit_and x ((x + (2 ^ 128 - 1)) % 2 ^ 128)) i ≡ (bit x i && not (i == s))
bit-off x s i l one none =
    let is_one : bit_at x s ≡ 1 = one_is (bit_at x s) one in
    let are_none : (k : ℕ) → k < s → bit_at x k ≡ 0 = λ k m. none_is (bit_at x k) (bit_at-lt x k) (none k m) in
    let p = some_bit x s is_one in
    let before : (x + (2 ^ 128 - 1)) % 2 ^ 128 ≡ x - 1 = omega (arith, p, l) in
    bit-and x ((x + (2 ^ 128 - 1)) % 2 ^ 128) i ∙ ap (λ y. bit x i && bit y i) before ∙ off x s i one none (turned s x i p is_one are_none)

-- 0 turned by the greatest number is that number
pub bit-turned_zero : (i : ℕ) → i < 128 → bit (bit_xor 0 ((0 + (2 ^ 128 - 1)) % 2 ^ 128)) i ≡ true
bit-turned_zero i l =
    let a = bit_at_xor 0 (2 ^ 128 - 1) i in
    let b = bit_at-zero i in
    let c = bit_at_ones 128 i l in
    let e : (bit_at 0 i + bit_at (2 ^ 128 - 1) i) % 2 ≡ 1 = omega (arith, b, c) in
    ap (λ n. n == 1) (a ∙ e)

top_bit : (a j : ℕ) → 2 ^ j ≤ a → a < 2 ^ suc j → bit a j ≡ true
top_bit a j l m =
    let r : a ≡ 1 * 2 ^ j + (a - 2 ^ j) = omega (arith, l) in
    let s : a - 2 ^ j < 2 ^ j = let p = pow-suc 2 j in omega (arith, m, p) in
    let z : j - j ≡ 0 = omega arith in
    ap (λ x. bit x j) r ∙ ap (λ x. x == 1) (bit_at_cat_high 1 j (a - 2 ^ j) j s (omega arith) ∙ ap (bit_at 1) z)

-- the highest bit that is 1, where bit 0 is set besides
pub odd-pos : (a : ℕ) → 0 < bit_or a 1
odd-pos a = let h = bit_at_or a 1 0 in let z = bit_at_lowest (bit_or a 1) in let o : bit_at 1 0 ≡ 1 = refl in omega (arith, h, z, o)

pub leading_small : (a : ℕ) → 0 < a → a < 2 ^ 128 → count_leading_zeros 128 a ≤ 127
leading_small a p l = let h = leading_top 128 a p l in omega (arith, h.1)

pub highest : (a : ℕ) → 0 < a → a < 2 ^ 128 → (bit a (127 - count_leading_zeros 128 a) ≡ true) × ((i : ℕ) → 127 - count_leading_zeros 128 a < i → bit a i ≡ false)
highest a p l =
    let h = leading_top 128 a p l in
    let e : 127 - count_leading_zeros 128 a ≡ h.0 = omega (arith, h.1) in
    (rw e (top_bit a h.0 h.2 h.3), λ i m. ap (λ x. x == 1) (bit_at_above a (suc h.0) i h.3 (omega (arith, m, e))))

-- bit 0 that is set besides changes no other bit
pub bit-odd : (a i : ℕ) → 0 < i → bit (bit_or a 1) i ≡ bit a i
bit-odd a i p = bit-or a 1 i ∙ (let e : bit 1 i ≡ false = ap (λ x. x == 1) (bit_at_above 1 1 i (omega arith) (omega (arith, p))) in rw (e, or-false (bit a i)) refl)

-- the bits from s on
pub bit-from : (s i : ℕ) → s < 128 → i < 128 → bit ((2 ^ 128 - 1) * 2 ^ s % 2 ^ 128) i ≡ not (nat_lt i s)
bit-from s i l m =
    ap (λ x. bit x i) (ones_shl 128 s (omega (arith, l))) ∙
    by_order i s (bit (2 ^ 128 - 2 ^ s) i ≡ not (nat_lt i s))
    (λ n. ap (λ x. x == 1) (bit_at_mask_below s 128 i n) ∙ grind arith)
    (λ n. ap (λ x. x == 1) (bit_at_mask_inside s 128 i n m) ∙ grind arith)

-- a number's bits below 128 are those of its rest
bit-rest : (n i : ℕ) → i < 128 → bit (n % 2 ^ 128) i ≡ bit n i
bit-rest n i l =
    ap (λ x. x == 1) (sym (bit_at_cat_low (n / 2 ^ 128) 128 (n % 2 ^ 128) i l) ∙ ap (λ m. bit_at m i) (div-add-mod' n (2 ^ 128)))

cat_none : (a k i : ℕ) → bit (a * 2 ^ k) i ≡ bit (a * 2 ^ k + 0) i
cat_none a k i = ap (λ n. bit n i) (omega arith)

-- a shift to higher numbers
pub bit-up : (a k i : ℕ) → i < 128 → bit (a * 2 ^ k % 2 ^ 128) i ≡ (nat_le k i && bit a (i - k))
bit-up a k i l =
    bit-rest (a * 2 ^ k) i l ∙ cat_none a k i ∙
    by_order i k (bit (a * 2 ^ k + 0) i ≡ (nat_le k i && bit a (i - k)))
    (λ m. rw (lt-leb k i m) (ap (λ x. x == 1) (bit_at_cat_low a k 0 i m ∙ bit_at-zero i)))
    (λ m. rw (le-leb k i m) (ap (λ x. x == 1) (bit_at_cat_high a k 0 i (pow_pos k) m)))

-- a shift to lower numbers
pub bit-down : (a k i : ℕ) → bit (a / 2 ^ k) i ≡ bit a (i + k)
bit-down a k i =
    ap (λ x. x == 1) (sym (
    ap (λ m. bit_at m (i + k)) (sym (div-add-mod' a (2 ^ k)))
    ∙ bit_at_cat_high (a / 2 ^ k) k (a % 2 ^ k) (i + k) (mod-lt a (pow_pos k)) (omega arith)
    ∙ ap (bit_at (a / 2 ^ k)) (omega arith)))
