-- Numbers of command words.
use Rattle.std.specs.Prelude.{ℕ, nat_lt, nat_le, List, length, Option, Some, None, ◌&&◌, if◌then◌else◌}
use Rattle.std.specs.Str.{all_ascii_digits}
use Rattle.std.specs.Str.Parse.{digits_value}

-- the number that a text writes, from least to most: decimal digits alone, at most 20 of them; zeros may lead
abbrev pub number_in : ℕ → ℕ → List ℕ → Option ℕ
number_in least most text =
    if nat_lt 0 (length text) && nat_le (length text) 20 && all_ascii_digits text
    && nat_le least (digits_value 10 text) && nat_le (digits_value 10 text) most
    then Some (digits_value 10 text) else None
