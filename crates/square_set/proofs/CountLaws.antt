-- Laws of counting the numbers that pass a test.
use Rattle.std.proofs.Common.{◌≤◌, ◌≡◌, ◌≢◌, ℕ, zero, suc, ◌+◌, ◌-◌, ◌/◌, ◌%◌, ◌^◌, ◌<◌, nat_lt, Bool, true, false, ◌&&◌, not, ◌==◌, if◌then◌else◌, refl, ap, ◌∙◌, arith}
use Rattle.std.specs.Int.Count.{ones, ones_step}
use Rattle.std.proofs.lemmas.Bool.{eqb-true, ne_eqb, lt-ltb, le-ltb, false_from_ne_true}
use Rattle.std.proofs.lemmas.Nat.{ones_le_self}
use Rattle.std.proofs.lemmas.Nat.Bits.{bit_at-suc, bit_at_lowest}
use Rattle.std.proofs.Math.Nat.{pow-suc}
use Rattle.square_set.specs.declared.Set.{Set}
use Rattle.std.proofs.Math.Bool.{and-false, and-true}
use Rattle.square_set.proofs.BitLaws.{lowest}
use Rattle.square_set.proofs.Cases.{by_bool, by_equal, by_order}
use Rattle.square_set.specs.Members.{bit, has, size, before, count_below, place}

pub count_below-zero : (f : ℕ → Bool) → count_below f 0 ≡ 0
unfolding count_below
count_below-zero f = refl

pub count_below-suc : (f : ℕ → Bool) (n : ℕ) → count_below f (suc n) ≡ count_below f n + (if f n then 1 else 0)
unfolding count_below
count_below-suc f n = refl

-- tests that agree below n
pub count_below-same : (f g : ℕ → Bool) (n : ℕ) → ((k : ℕ) → k < n → f k ≡ g k) → count_below f n ≡ count_below g n
unfolding count_below
count_below-same f g zero h = refl
count_below-same f g (suc n) h =
    let rest = count_below-same f g n (λ k l. h k (omega (arith, l))) in
    let here = h n (omega arith) in
    rw (rest, here)

-- where none passes
pub count_below-none : (f : ℕ → Bool) (n : ℕ) → ((k : ℕ) → k < n → f k ≡ false) → count_below f n ≡ 0
unfolding count_below
count_below-none f zero h = refl
count_below-none f (suc n) h =
    let rest = count_below-none f n (λ k l. h k (omega (arith, l))) in
    let here = h n (omega arith) in
    rw (rest, here)

-- from the low end
pub count_below-shift : (f : ℕ → Bool) (n : ℕ) → count_below f (suc n) ≡ (if f 0 then 1 else 0) + count_below (λ k. f (suc k)) n
unfolding count_below
count_below-shift f zero = omega arith
count_below-shift f (suc n) = let rest = count_below-shift f n in omega (arith, rest)

lt_other : (s n : ℕ) → s < suc n → n ≢ s → s < n
lt_other s n l q = omega (arith, l, q)

rest_step : (n : ℕ) (b : Bool) → (n - 1) + (if (b && not (n == 0)) then 1 else 0) ≡ (n + (if b then 1 else 0)) - 1
rest_step zero true = refl
rest_step zero false = refl
rest_step (suc n) true = let e : (suc n == 0) ≡ false = ne_eqb (suc n) 0 (λ h. omega (arith, h)) in rw e (omega arith)
rest_step (suc n) false = omega arith

low_digit : (x : ℕ) → x < 2 → (if (x == 1) then 1 else 0) ≡ x
low_digit x l = grind arith

-- the set digits
pub ones-count : (k n : ℕ) → n < 2 ^ k → ones n ≡ count_below (bit n) k
ones-count zero n l = let h = ones_le_self n in let z = count_below-zero (bit n) in omega (arith, h, z, l)
ones-count (suc k) n l =
    let p = pow-suc 2 k in
    let h : n / 2 < 2 ^ k = omega (arith, l, p) in
    let rest = ones-count k (n / 2) h in
    let same : count_below (λ i. bit n (suc i)) k ≡ count_below (bit (n / 2)) k = count_below-same (λ i. bit n (suc i)) (bit (n / 2)) k (λ i m. ap (λ x. x == 1) (bit_at-suc n i)) in
    let low : (if bit n 0 then 1 else 0) ≡ n % 2 = ap (λ x. if (x == 1) then 1 else 0) (bit_at_lowest n) ∙ low_digit (n % 2) (omega arith) in
    let step = ones_step n in
    let shift = count_below-shift (bit n) k in
    omega (arith, rest, same, low, step, shift)

one_less : (a b c d : ℕ) → a + 1 ≡ b → c ≡ d → a + c + 1 ≡ b + d
one_less a b c d e f = omega (arith, e, f)

-- the same without one that passes
pub count_below-without : (f g : ℕ → Bool) (n s : ℕ) → ((t : ℕ) → g t ≡ (f t && not (t == s))) → f s ≡ true → s < n → count_below g n + 1 ≡ count_below f n
count_below-without f g zero s h p l = absurd (omega (arith, l))
count_below-without f g (suc n) s h p l =
    let a = count_below-suc f n in
    let b = count_below-suc g n in
    by_equal n s (count_below g (suc n) + 1 ≡ count_below f (suc n))
    (λ e q.
    let rest : count_below g n ≡ count_below f n = count_below-same g f n (λ k m. h k ∙ (let o : (k == s) ≡ false = ne_eqb k s (λ r. omega (arith, r, q, m)) in rw (o, and-true (f k)))) in
    let here : g n ≡ false = h n ∙ rw (e, and-false (f n)) in
    let there : f n ≡ true = rw (q, p) in
    rw (a, b, here, there) (omega (arith, rest)))
    (λ e q.
    let rest = count_below-without f g n s h p (lt_other s n l q) in
    let here : g n ≡ f n = h n ∙ rw (e, and-true (f n)) in
    rw (a, b, here) (one_less (count_below g n) (count_below f n) _ _ rest refl))

-- where one passes
pub count_below-some : (f : ℕ → Bool) (n s : ℕ) → s < n → f s ≡ true → 0 < count_below f n
count_below-some f n s l p =
    let h = count_below-without f (λ t. f t && not (t == s)) n s (λ t. refl) p l in omega (arith, h)

-- a set that is not 0 has a square
pub size-pos : (set : Set) → set.0 ≢ 0 → set.0 < 2 ^ 128 → 0 < size set
size-pos set e l = let f = lowest set (omega (arith, e)) l in count_below-some (has set) 128 _ f.small f.member

zero_test : (n : ℕ) → n ≡ 0 → (n == 0) ≡ true
zero_test n e = rw e refl

pos_test : (n : ℕ) → 0 < n → (n == 0) ≡ false
pos_test n l = ne_eqb n 0 (λ e. omega (arith, e, l))

-- none of the set stands before a square: none is lower than the lowest
pub none-before : (rising : Bool) (f : ℕ → Bool) (t : ℕ) → ((u : ℕ) → f u ≡ false) → (before rising f t == 0) ≡ true
none-before rising f t h = zero_test _ (count_below-none (λ i. f (place rising i)) (place rising t) (λ k l. h (place rising k)))

pub first-before : (f : ℕ → Bool) (s t : ℕ) → f s ≡ true → ((u : ℕ) → u < s → f u ≡ false) → not (nat_lt s t) ≡ (before true f t == 0)
first-before f s t p h =
    by_order s t (not (nat_lt s t) ≡ (before true f t == 0))
    (λ l. let e = pos_test (count_below f t) (count_below-some f t s l p) in rw e (ap not (lt-ltb s t l)))
    (λ l. let e = zero_test (count_below f t) (count_below-none f t (λ k m. h k (omega (arith, l, m)))) in rw e (ap not (le-ltb s t l)))

pub last-before : (f : ℕ → Bool) (s t : ℕ) → s < 128 → t < 128 → (0 < s → f s ≡ true) → ((u : ℕ) → s < u → f u ≡ false) → not (nat_lt t s) ≡ (before false f t == 0)
last-before f s t ls lt p h =
    by_order t s (not (nat_lt t s) ≡ (before false f t == 0))
    (λ l. let back : 127 - (127 - s) ≡ s = omega (arith, ls) in
    let e = pos_test (before false f t) (count_below-some (λ i. f (127 - i)) (127 - t) (127 - s) (omega (arith, ls, lt, l)) (rw back (p (omega (arith, l))))) in rw e (ap not (lt-ltb t s l)))
    (λ l. let e = zero_test (before false f t) (count_below-none (λ i. f (127 - i)) (127 - t) (λ k m. h (127 - k) (omega (arith, l, m)))) in rw e (ap not (le-ltb t s l)))

-- the numbers that pass and are not the first of them
pub count_below-rest : (f : ℕ → Bool) (n : ℕ) → count_below (λ i. f i && not (count_below f i == 0)) n ≡ count_below f n - 1
count_below-rest f zero = let a = count_below-zero f in let b = count_below-zero (λ i. f i && not (count_below f i == 0)) in omega (arith, a, b)
count_below-rest f (suc n) =
    let a = count_below-suc f n in
    let b = count_below-suc (λ i. f i && not (count_below f i == 0)) n in
    rw (a, b, count_below-rest f n) (rest_step (count_below f n) (f n))

-- a square's place, and the square of a place
pub place-place : (rising : Bool) (s : ℕ) → s < 128 → place rising (place rising s) ≡ s
place-place true s l = refl
place-place false s l = omega (arith, l)

pub place-lt : (rising : Bool) (s : ℕ) → s < 128 → place rising s < 128
place-lt true s l = l
place-lt false s l = omega arith

pub before-same : (rising : Bool) (f g : ℕ → Bool) (s : ℕ) → s < 128 → ((t : ℕ) → t < 128 → f t ≡ g t) → before rising f s ≡ before rising g s
before-same rising f g s l h =
    let m = place-lt rising s l in
    count_below-same (λ i. f (place rising i)) (λ i. g (place rising i)) (place rising s) (λ k n. h (place rising k) (place-lt rising k (omega (arith, m, n))))

pub before-rest : (rising : Bool) (f : ℕ → Bool) (s : ℕ) → s < 128 → before rising (λ t. f t && not (before rising f t == 0)) s ≡ before rising f s - 1
before-rest rising f s l =
    let m = place-lt rising s l in
    count_below-same (λ i. f (place rising i) && not (before rising f (place rising i) == 0)) (λ i. f (place rising i) && not (count_below (λ i. f (place rising i)) i == 0)) (place rising s)
    (λ k n. ap (λ p. f (place rising k) && not (count_below (λ i. f (place rising i)) p == 0)) (place-place rising k (omega (arith, m, n))))
    ∙ count_below-rest (λ i. f (place rising i)) (place rising s)

-- one test more, at a place where the old one does not pass
pub count_below-add : (f g : ℕ → Bool) (n p : ℕ) (b : Bool) → p < n → f p ≡ false → g p ≡ b → ((i : ℕ) → i < n → i ≢ p → g i ≡ f i) → count_below g n ≡ count_below f n + (if b then 1 else 0)
count_below-add f g zero p b l o m h = absurd (omega (arith, l))
count_below-add f g (suc n) p b l o m h =
    let u = count_below-suc f n in
    let v = count_below-suc g n in
    by_equal n p (count_below g (suc n) ≡ count_below f (suc n) + (if b then 1 else 0))
    (λ e q.
    let rest : count_below g n ≡ count_below f n = count_below-same g f n (λ k r. h k (omega (arith, r)) (λ w. omega (arith, w, q, r))) in
    let here : g n ≡ b = rw q m in
    let there : f n ≡ false = rw q o in
    rw (u, v, here, there) (omega (arith, rest)))
    (λ e q.
    let rest = count_below-add f g n p b (lt_other p n l q) o m (λ k r w. h k (omega (arith, r)) w) in
    let here : g n ≡ f n = h n (omega arith) q in
    rw (u, v, here) (omega (arith, rest)))

-- a test that passes below m as another does, and not from there on
pub count_below-cut : (f g : ℕ → Bool) (n m : ℕ) → m ≤ n → ((i : ℕ) → i < m → f i ≡ g i) → ((i : ℕ) → m ≤ i → i < n → f i ≡ false) → count_below f n ≡ count_below g m
count_below-cut f g zero m l below above = let e : m ≡ 0 = omega (arith, l) in let a = count_below-zero f in let b = count_below-zero g in rw (e, a, b) refl
count_below-cut f g (suc n) m l below above =
    by_equal m (suc n) (count_below f (suc n) ≡ count_below g m)
    (λ e q. rw q (count_below-same f g (suc n) (λ i r. below i (omega (arith, r, q)))))
    (λ e q.
    let rest = count_below-cut f g n m (omega (arith, l, q)) below (λ i r s. above i r (omega (arith, s))) in
    let u = count_below-suc f n in
    let here : f n ≡ false = above n (omega (arith, l, q)) (omega arith) in
    rw (u, here) (omega (arith, rest)))

-- where some are counted, one passes
pub count_below-found : (f : ℕ → Bool) (n : ℕ) → 0 < count_below f n → (k : ℕ) × (k < n) × (f k ≡ true)
count_below-found f zero l = absurd (let z = count_below-zero f in omega (arith, z, l))
count_below-found f (suc n) l =
    by_bool (f n) ((k : ℕ) × (k < suc n) × (f k ≡ true))
    (λ e. (n, omega arith, e))
    (λ e. let s = count_below-suc f n ∙ ap (λ b. count_below f n + (if b then 1 else 0)) e in let h = count_below-found f n (omega (arith, s, l)) in (h.0, omega (arith, h.1), h.2))

-- none comes before a square exactly where no square of a smaller place passes
pub before-none : (rising : Bool) (f : ℕ → Bool) (t : ℕ) → t < 128 → ((u : ℕ) → u < 128 → place rising u < place rising t → f u ≡ false) → (before rising f t == 0) ≡ true
before-none rising f t l h =
    let m = place-lt rising t l in
    zero_test _ (count_below-none (λ i. f (place rising i)) (place rising t) (λ k n.
    let small : k < 128 = omega (arith, m, n) in let back = place-place rising k small in h (place rising k) (place-lt rising k small) (rw back n)))

pub before-at : (rising : Bool) (f : ℕ → Bool) (t u : ℕ) → (before rising f t == 0) ≡ true → u < 128 → place rising u < place rising t → f u ≡ false
before-at rising f t u e l m =
    false_from_ne_true (f u) (λ h.
    let some = count_below-some (λ i. f (place rising i)) (place rising t) (place rising u) m (ap f (place-place rising u l) ∙ h) in
    let none = eqb-true (before rising f t) 0 e in omega (arith, some, none))
