-- The first place at which a test passes, or 0, is within the list.
use Rattle.std.proofs.Common.{ℕ, ◌≤◌, Bool, true, false, not, cond, Some, None, List, length, position, unwrap_or, arith}
use Rattle.std.specs.Prelude.{nat_lt}
use Rattle.std.specs.List.{position_or_len}
use Rattle.std.proofs.lemmas.List.Sums.{prefix_len-le-length}

chosen : (b : Bool) (n m : ℕ) → n ≤ m → unwrap_or (cond b (Some n) None) 0 ≤ m
chosen true n m h = h
chosen false n m h = omega arith

pub place_within : (p : ℕ → Bool) (xs : List ℕ) → unwrap_or (position p xs) 0 ≤ length xs
place_within p xs =
    chosen (nat_lt (position_or_len p xs) (length xs)) (position_or_len p xs) (length xs) (prefix_len-le-length (λ x. not (p x)) xs)

pub ruleset places = (place_within)
