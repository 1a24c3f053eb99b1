-- Numbers that are printed are read back.
use Rattle.std.proofs.Common.{◌≡◌, ℕ, zero, suc, ◌+◌, ◌/◌, ◌%◌, ◌^◌, ◌<◌, ◌≤◌, nat_lt, nat_le, ◌==◌, true, false, ◌||◌, not, List, [], ◌∷◌, ◌++◌, length, get_or, Some, Ok, refl, ◌∙◌, arith, length-append}
use Rattle.std.specs.Fmt.{decimal}
use Rattle.std.specs.List.{list_all}
use Rattle.std.proofs.lemmas.Bool.{le-leb, lt-ltb, ne_eqb, and_from, or_right}
use Rattle.std.proofs.lemmas.Fmt.{decimal_by_steps, decimal_digit, first_decimal}
use Rattle.std.proofs.lemmas.List.Folds.{list_all-append}
use Rattle.fen_model.specs.Counts.{count_of}
use Rattle.foundation.specs.Numbers.{are_digits, begins_with_zero, is_digit, is_number, number_of, value_after, value_of}
use Rattle.foundation.proofs.NumberLemmas.{value_after-append}

-- digits, at least one, that write the number
pub record Writes (n : ℕ) (ds : List ℕ) : Type 0 where
  pub digits : list_all is_digit ds ≡ true
  pub value : value_of ds ≡ n
  pub some : 0 < length ds
  pub short : length ds ≤ n + 1

digit-is : (d : ℕ) → d < 10 → is_digit (48 + d) ≡ true
digit-is d h = and_from _ _ (le-leb 48 (48 + d) (omega arith)) (le-leb (48 + d) 57 (omega arith))

one-writes : (n : ℕ) → n < 10 → Writes n ((48 + n) ∷ [])
unfolding value_after
one-writes n h = record {
  digits = and_from _ _ (digit-is n h) refl;
  value = omega arith;
  some = omega arith;
  short = omega arith;
}

more-write : (n : ℕ) (ds : List ℕ) → 10 ≤ n → Writes (n / 10) ds → Writes n (ds ++ (48 + n % 10) ∷ [])
more-write n ds h w = record {
  digits = list_all-append is_digit ds ((48 + n % 10) ∷ []) ∙ and_from _ _ w.digits (and_from _ _ (digit-is (n % 10) (omega arith)) refl);
  value = value_after-append 0 ds (48 + n % 10) ∙ (let v = w.value in omega arith);
  some = omega (arith, length-append ds ((48 + n % 10) ∷ []));
  short = omega (arith, length-append ds ((48 + n % 10) ∷ []), w.short);
}

pub decimal-writes : (n : ℕ) → n < 2 ^ 64 → Writes n (decimal n)
decimal-writes n small = decimal_by_steps Writes one-writes more-write n small

pub not-zero : (n : ℕ) → 0 < n → n < 2 ^ 64 → begins_with_zero (decimal n) ≡ false
not-zero n some small = let above : 48 < get_or (decimal n) 0 0 = first_decimal n some small in ne_eqb _ _ (omega arith)

first_is : (n : ℕ) → n < 2 ^ 64 → (length (decimal n) == 1 || not (begins_with_zero (decimal n))) ≡ true
first_is zero small = let one = decimal_digit 0 (omega arith) in rw one refl
first_is (suc n) small = let first = not-zero (suc n) (omega arith) small in rw first (or_right (length (decimal (suc n)) == 1) true refl)

pub number-back : (n : ℕ) → n < 2 ^ 64 → number_of (decimal n) ≡ Some n
unfolding number_of is_number are_digits
number-back n small =
    let w = decimal-writes n small in
    let some : nat_lt 0 (length (decimal n)) ≡ true = lt-ltb _ _ w.some in
    let digits = w.digits in
    let first = first_is n small in
    let value = w.value in
    rw (some, digits, first, value) refl

-- a count that is printed is read back
pub count-back : (n : ℕ) → n ≤ 9999 → count_of (decimal n) ≡ Ok n
unfolding count_of
count-back n small =
    let number = number-back n (omega arith) in
    let most : nat_le n 9999 ≡ true = le-leb _ _ small in
    rw (number, most) refl
