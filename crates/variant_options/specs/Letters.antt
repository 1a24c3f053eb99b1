-- The letters of pieces, which a variants file may write in either case.
use Rattle.std.specs.Prelude.{ℕ, ◌-◌, nat_le, Bool, ◌&&◌, List, Option, Some, None, if◌then◌else◌, map}
use Rattle.std.specs.List.{list_any, range_with_len}
use Rattle.rules_model.specs.declared.board.Kind.{Kind}
use Rattle.rules_model.specs.Kinds.{names}

abbrev pub is_lower : ℕ → Bool
is_lower b = nat_le 97 b && nat_le b 122

abbrev pub is_upper : ℕ → Bool
is_upper b = nat_le 65 b && nat_le b 90

abbrev pub kind : ℕ → Kind
kind k = record { 0 = k }

-- the kind that a letter names
abbrev pub letter_of : ℕ → Option Kind
letter_of b = if is_lower b then Some (kind (b - 97)) else if is_upper b then Some (kind (b - 65)) else None

-- a mask of the 26 kinds, by a test
abbrev pub mask_where : (Kind → Bool) → List Bool
mask_where test = map (λ k. test (kind k)) (range_with_len 0 26)

-- the mask of the kind that is named, or of none
abbrev pub mask_of : Option Kind → List Bool
mask_of named = mask_where (names named)

-- the mask of the kinds whose letters are among the bytes
abbrev pub mask_in : List ℕ → List Bool
mask_in bytes = mask_where (λ k. list_any (λ b. names (letter_of b) k) bytes)
