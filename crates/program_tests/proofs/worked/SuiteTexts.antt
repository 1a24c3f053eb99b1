-- Lines that have the form of a problem, and near misses.
use Rattle.std.proofs.Common.{◌≡◌, true, false, Some, None, refl, codes}
use Rattle.foundation.specs.Cuts.{cut}
use Rattle.foundation.specs.Numbers.{are_digits, is_number, number_of, value_after}
use Rattle.suite.specs.Suite.{is_skipped, row_of}

good : row_of (codes "chess 12 startpos") ≡ Some (record { name = codes "chess"; moves = 12; position = codes "startpos" })
unfolding row_of cut number_of is_number are_digits value_after
good = refl

-- the position goes on to the end of the line
whole : row_of (codes "a 1 8/8 w -") ≡ Some (record { name = codes "a"; moves = 1; position = codes "8/8 w -" })
unfolding row_of cut number_of is_number are_digits value_after
whole = refl

-- 20 is the most
too_many : row_of (codes "chess 21 startpos") ≡ None
unfolding row_of cut number_of is_number are_digits value_after
too_many = refl

none_at_all : row_of (codes "chess 0 startpos") ≡ None
unfolding row_of cut number_of is_number are_digits value_after
none_at_all = refl

leading_zero : row_of (codes "chess 01 startpos") ≡ None
unfolding row_of cut number_of is_number are_digits value_after
leading_zero = refl

-- two spaces: the number is empty
two_spaces : row_of (codes "chess  1 startpos") ≡ None
unfolding row_of cut number_of is_number are_digits value_after
two_spaces = refl

two_later : row_of (codes "chess 1  startpos") ≡ None
unfolding row_of cut number_of is_number are_digits value_after
two_later = refl

empty_position : row_of (codes "chess 1 ") ≡ None
unfolding row_of cut number_of is_number are_digits value_after
empty_position = refl

no_name : row_of (codes " 1 startpos") ≡ None
unfolding row_of cut number_of is_number are_digits value_after
no_name = refl

no_position : row_of (codes "chess 1") ≡ None
unfolding row_of cut number_of is_number are_digits value_after
no_position = refl

-- an empty line and a comment are skipped, and a space before the comment is not
empty : is_skipped (codes "") ≡ true
empty = refl

comment : is_skipped (codes "# chess 1 startpos") ≡ true
comment = refl

later : is_skipped (codes " # chess 1 startpos") ≡ false
later = refl
