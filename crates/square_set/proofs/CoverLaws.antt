-- What the turned bits and the shifted ones have: the squares before which a set has none.
use Rattle.std.proofs.Common.{◌≡◌, ℕ, ◌+◌, ◌-◌, ◌*◌, ◌%◌, ◌^◌, ◌<◌, ◌==◌, true, false, ap, sym, ◌∙◌, arith}
use Rattle.std.specs.Prelude.{bit_or, bit_xor}
use Rattle.std.specs.Int.Count.{count_leading_zeros, count_trailing_zeros}
use Rattle.std.proofs.lemmas.Nat.Bits.{bit_at-zero}
use Rattle.square_set.specs.declared.Set.{Set}
use Rattle.square_set.specs.Members.{bit, has, before}
use Rattle.square_set.proofs.Cases.{by_equal}
use Rattle.square_set.proofs.BitLaws.{lowest, bit-turned, bit-turned_zero, odd-pos, highest, bit-odd, bit-from}
use Rattle.square_set.proofs.CountLaws.{none-before, first-before, last-before}

-- the set of no square
pub has-zero : (set : Set) → set.0 ≡ 0 → (s : ℕ) → has set s ≡ false
has-zero set e s = ap (λ n. bit n s) e ∙ ap (λ x. x == 1) (bit_at-zero s)

pub rising_cover : (set : Set) → set.0 < 2 ^ 128 → (s : ℕ) → s < 128 → bit (bit_xor set.0 ((set.0 + (2 ^ 128 - 1)) % 2 ^ 128)) s ≡ (before true (has set) s == 0)
rising_cover set l s m =
    by_equal set.0 0 (bit (bit_xor set.0 ((set.0 + (2 ^ 128 - 1)) % 2 ^ 128)) s ≡ (before true (has set) s == 0))
    (λ t e. ap (λ n. bit (bit_xor n ((n + (2 ^ 128 - 1)) % 2 ^ 128)) s) e ∙ bit-turned_zero s m ∙ sym (none-before true (has set) s (has-zero set e)))
    (λ t e.
    let p : 0 < set.0 = omega (arith, e) in
    let f = lowest set p l in
    bit-turned set.0 (count_trailing_zeros 128 set.0) s p l f.member f.lowest ∙ first-before (has set) (count_trailing_zeros 128 set.0) s f.member f.lowest)

pub falling_cover : (set : Set) → bit_or set.0 1 < 2 ^ 128 → (s : ℕ) → s < 128 → bit ((2 ^ 128 - 1) * 2 ^ (127 - count_leading_zeros 128 (bit_or set.0 1)) % 2 ^ 128) s ≡ (before false (has set) s == 0)
falling_cover set l s m =
    let p = odd-pos set.0 in
    let h = highest (bit_or set.0 1) p l in
    let top = 127 - count_leading_zeros 128 (bit_or set.0 1) in
    bit-from top s (omega arith) m
    ∙ last-before (has set) top s (omega arith) m (λ q. sym (bit-odd set.0 top q) ∙ h.0) (λ u q. sym (bit-odd set.0 u (omega (arith, q))) ∙ h.1 u q)
