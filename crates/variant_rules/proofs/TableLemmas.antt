-- Lists that are filled place by place, and the table of pieces.
use Rattle.std.proofs.Common.{◌≡◌, ℕ, zero, suc, ◌+◌, ◌<◌, Bool, true, false, cond, List, [], ◌∷◌, Option, Some, None, length, get_or, map, count_by, refl, sym, ap, ◌∙◌, arith}
use Rattle.std.specs.List.{find}
use Rattle.std.specs.Prelude.{◌-◌, ◌≤◌, if◌then◌else◌, nat_lt}
use Rattle.std.proofs.lemmas.List.{ext_get_or, get_or-map, length-map}
use Rattle.std.proofs.lemmas.Bool.Decides.{nat_tests}
use Rattle.foundation.specs.Count.{first_below, or_else}
use Rattle.foundation.specs.Tests.{one_if}
use Rattle.foundation.proofs.CountLemmas.{first_below-more}
use Rattle.foundation.proofs.SetLemmas.{count_by-cons}
use Rattle.variant_options.specs.PieceTable.{PieceRow, pieces, wordless}

-- a list with the value of a function at each place is the mapped list
pub fill_map : {X Y : Type 0} (f : X → Y) (xs : List X) (ys : List Y) (dx : X) (dy : Y) → length ys ≡ length xs → ((k : ℕ) → k < length xs → get_or ys k dy ≡ f (get_or xs k dx)) → ys ≡ map f xs
fill_map f xs ys dx dy long each =
    ext_get_or dy ys (map f xs) (long ∙ sym (length-map xs f))
    (λ k l. let below : k < length xs = omega (arith, l, long) in each k below ∙ sym (get_or-map f xs k dx dy below))

-- the same over the table of pieces
pub fill_pieces : {Y : Type 0} (f : PieceRow → Y) (ys : List Y) (d : Y) → length ys ≡ 56 → ((k : ℕ) → k < 56 → get_or ys k d ≡ f (get_or pieces k (wordless []))) → ys ≡ map f pieces
fill_pieces f ys d long each = fill_map f pieces ys (wordless []) d long each

-- what a list that is mapped from the table has at a place
pub piece_mapped : {Y : Type 0} (f : PieceRow → Y) (ys : List Y) (d : Y) (k : ℕ) → ys ≡ map f pieces → k < 56 → get_or ys k d ≡ f (get_or pieces k (wordless []))
piece_mapped f ys d k is l = ap (λ zs. get_or zs k d) is ∙ get_or-map f pieces k (wordless []) d l

pub count_by-map : {X Y : Type 0} (f : X → Y) (test : Y → Bool) (xs : List X) → count_by test (map f xs) ≡ count_by (λ x. test (f x)) xs
count_by-map f test [] = refl
count_by-map f test (x ∷ xs) =
    count_by-cons test (f x) (map f xs)
    ∙ ap (λ n. one_if (test (f x)) + n) (count_by-map f test xs)
    ∙ sym (count_by-cons (λ y. test (f y)) x xs)

-- ---- what is found first

find_step : {X : Type 0} (b : Bool) (x : X) (found : Option X) → b ≡ false → cond b (Some x) found ≡ found
find_step true x found e = cc
find_step false x found e = refl

-- the first that passes
pub find_first : {X : Type 0} (test : X → Bool) (xs : List X) (i : ℕ) (d : X) → i < length xs → test (get_or xs i d) ≡ true → ((k : ℕ) → k < i → test (get_or xs k d) ≡ false) → find test xs ≡ Some (get_or xs i d)
find_first test [] i d l e none = absurd (omega arith)
find_first test (x ∷ xs) zero d l e none = ap (λ b. cond b (Some x) (find test xs)) e
find_first test (x ∷ xs) (suc i) d l e none =
    find_step (test x) x (find test xs) (none 0 (omega arith))
    ∙ find_first test xs i d (omega arith) e (λ k below. none (suc k) (omega arith))

-- none passes
pub find_none : {X : Type 0} (test : X → Bool) (xs : List X) (d : X) → ((k : ℕ) → k < length xs → test (get_or xs k d) ≡ false) → find test xs ≡ None
find_none test [] d none = refl
find_none test (x ∷ xs) d none =
    find_step (test x) x (find test xs) (none 0 (omega arith))
    ∙ find_none test xs d (λ k below. none (suc k) (omega arith))

-- ---- the first number that passes

first_step : (found : Option ℕ) (b : Bool) (n : ℕ) → found ≡ None → b ≡ false → or_else found b n ≡ None
first_step (Some k) b n e f = cc
first_step None true n e f = cc
first_step None false n e f = refl

pub first_below-next : (f : ℕ → Bool) (n : ℕ) → first_below f n ≡ None → f n ≡ false → first_below f (n + 1) ≡ None
first_below-next f n e h = first_below-more f n ∙ first_step (first_below f n) (f n) n e h

first_kept : (f : ℕ → Bool) (n m k : ℕ) → first_below f n ≡ Some k → first_below f (n + m) ≡ Some k
unfolding first_below
first_kept f n zero k e = let same : n + zero ≡ n = omega arith in ap (first_below f) same ∙ e
first_kept f n (suc m) k e =
    let next : n + suc m ≡ suc (n + m) = omega arith in
    ap (first_below f) next ∙ ap (λ found. or_else found (f (n + m)) (n + m)) (first_kept f n m k e)

-- the first number that passes
pub first_below-here : (f : ℕ → Bool) (n k : ℕ) → k < n → first_below f k ≡ None → f k ≡ true → first_below f n ≡ Some k
first_below-here f n k l none e =
    let here : first_below f (k + 1) ≡ Some k = first_below-more f k ∙ ap (λ found. or_else found (f k) k) none ∙ ap (λ b. if b then Some k else None) e in
    let rest : (k + 1) + (n - (k + 1)) ≡ n = omega (arith, l) in
    ap (first_below f) (sym rest) ∙ first_kept f (k + 1) (n - (k + 1)) k here

pub more_than_one : (n m : ℕ) → n ≡ m → 1 < n → nat_lt 1 m ≡ true
more_than_one n m e l = grind (arith, nat_tests, e, l)

pub at_most_one : (n m : ℕ) → n ≡ m → n ≤ 1 → nat_lt 1 m ≡ false
at_most_one n m e l = grind (arith, nat_tests, e, l)
