-- Numbers of a range.
use Rattle.std.proofs.Common.{◌≡◌, ℕ, ◌≤◌, nat_le, Bool, true, false, ◌&&◌, List, Option, Some, None, if◌then◌else◌, refl, sym, subst}
use Rattle.std.specs.Option.{IfSome}
use Rattle.std.specs.Prelude.{option_and_then}
use Rattle.std.proofs.lemmas.Bool.{and_parts, leb-true}
use Rattle.foundation.specs.Numbers.{number_of, number_within, within}
use Rattle.game_text.specs.Goal.{after_words}
use Rattle.proof_text.specs.Words.{number_said}

within_if : (low high n : ℕ) (t : Bool) → (nat_le low n && nat_le n high) ≡ t → IfSome (if t then Some n else None) (λ m. m ≤ high)
within_if low high n false is = tt
within_if low high n true is = leb-true n high (and_parts (nat_le low n) (nat_le n high) is).1

within_high : (low high : ℕ) (o : Option ℕ) → IfSome (option_and_then (within low high) o) (λ n. n ≤ high)
within_high low high None = tt
within_high low high (Some n) = within_if low high n (nat_le low n && nat_le n high) refl

said_high : (low high : ℕ) (o : Option (List ℕ)) → IfSome (option_and_then (number_within low high) o) (λ n. n ≤ high)
said_high low high None = tt
said_high low high (Some text) = within_high low high (number_of text)

-- the number is at most the last of the range
pub number-high : (words : List ℕ) (low high : ℕ) (text : List ℕ) (o : Option ℕ) → o ≡ number_said words low high text → IfSome o (λ n. n ≤ high)
number-high words low high text o is = subst (λ o. IfSome o (λ n. n ≤ high)) (sym is) (said_high low high (after_words words text))
