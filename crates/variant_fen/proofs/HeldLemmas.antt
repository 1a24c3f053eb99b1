-- Gates file by file.
use Rattle.std.proofs.Common.{◌≡◌, ℕ, suc, ◌+◌, ◌*◌, ◌^◌, ◌%◌, ◌<◌, nat_lt, Bool, true, false, if◌then◌else◌, refl, arith, add-one}
use Rattle.std.proofs.lemmas.Bool.{ltb-true}
use Rattle.foundation.specs.Count.{all_below}
use Rattle.foundation.proofs.CountLemmas.{all_below-each}
use Rattle.fen_model.specs.Held.{bits_of}
use Rattle.fen_model.proofs.HeldLaws.{bits_of-small}

pub bits_of-none : (test : ℕ → Bool) → bits_of test 0 ≡ 0
unfolding bits_of
bits_of-none test = refl

pub bits_of-yes : (test : ℕ → Bool) (n : ℕ) → test n ≡ true → bits_of test (n + 1) ≡ bits_of test n + 2 ^ n
unfolding bits_of
bits_of-yes test n h = rw (add-one, h) refl

pub bits_of-no : (test : ℕ → Bool) (n : ℕ) → test n ≡ false → bits_of test (n + 1) ≡ bits_of test n
unfolding bits_of
bits_of-no test n h = rw (add-one, h) (omega arith)

small_powers : all_below (λ n. nat_lt (2 ^ n) 1024) 10 ≡ true
unfolding all_below
small_powers = refl

small_power : (n : ℕ) → n < 10 → 2 ^ n < 1024
small_power n below = ltb-true _ _ (all_below-each (λ k. nat_lt (2 ^ k) 1024) 10 small_powers n below)

-- a bit as a number of 16 bits
pub one_bit : (n : ℕ) → n < 10 → 1 * 2 ^ n % 65536 ≡ 2 ^ n
one_bit n below = let small = small_power n below in omega (arith, small)

pub bits_fit : (test : ℕ → Bool) (n gates : ℕ) → n < 10 → gates ≡ bits_of test n → gates + 1 * 2 ^ n % 65536 < 65536
bits_fit test n gates below is =
    let small = small_power n below in
    let lower = bits_of-small test n in
    omega (arith, small, lower, is, one_bit n below)

pub ruleset gates = bits_of-none
