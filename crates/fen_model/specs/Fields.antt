-- How a text is cut into its fields.
use Rattle.std.specs.Prelude.{ℕ, nat_lt, Bool, false, ◌==◌, List, [], ◌∷◌, Option, Some, None, Result, Err, if◌then◌else◌, length, take, drop}
use Rattle.std.specs.List.{slice_split, position_or_len}
use Rattle.rules_model.specs.declared.rules.Rules.{Rules}
use Rattle.fen_model.specs.declared.fault.FenFault.{FenFault}
use Rattle.fen_model.specs.declared.fault.FenFault.TheVariants.{Length}
use Rattle.fen_model.specs.Chain.{or_fault}
use Rattle.foundation.specs.Numbers.{are_digits}

-- a blank is one space
abbrev pub is_space : ℕ → Bool
is_space b = b == 32

abbrev pub is_bracket : ℕ → Bool
is_bracket b = b == 91

-- what a text says in each field
pub record Fields : Type 0 where
  -- the first field up to its first `[`, and from there on
  pub board : List ℕ
  pub pocket : List ℕ
  pub side : List ℕ
  pub rights : List ℕ
  pub ep : List ℕ
  pub checks : List ℕ
  pub halfmoves : List ℕ
  pub number : List ℕ

-- the texts of what is not there: `-`, `0+0`, `0` and `1`
abbrev pub no_text : List ℕ
no_text = 45 ∷ []

abbrev pub says_none : List ℕ → Bool
says_none (b ∷ []) = b == 45
says_none text = false

abbrev pub no_checks : List ℕ
no_checks = 48 ∷ 43 ∷ 48 ∷ []

abbrev pub no_halfmoves : List ℕ
no_halfmoves = 48 ∷ []

abbrev pub first_number : List ℕ
first_number = 49 ∷ []

-- the place of the first `[`, or the end
unfoldable pub pocket_place : List ℕ → ℕ
pocket_place field = position_or_len is_bracket field

abbrev pub fields : List ℕ → List ℕ → List ℕ → List ℕ → List ℕ → List ℕ → List ℕ → Fields
fields placement side rights ep checks halfmoves number = record {
  board = take (pocket_place placement) placement;
  pocket = drop (pocket_place placement) placement;
  side = side;
  rights = rights;
  ep = ep;
  checks = checks;
  halfmoves = halfmoves;
  number = number;
}

-- the fields of a variant that counts no checks. Where the third is a number, rights and en passant are left out, and
-- it and the fourth are the counts
abbrev pub plain_fields : List (List ℕ) → Option Fields
plain_fields (placement ∷ side ∷ third ∷ fourth ∷ []) =
    if are_digits third then Some (fields placement side no_text no_text no_checks third fourth)
    else Some (fields placement side third fourth no_checks no_halfmoves first_number)
plain_fields (placement ∷ side ∷ third ∷ fourth ∷ halfmoves ∷ number ∷ []) =
    if are_digits third then None else Some (fields placement side third fourth no_checks halfmoves number)
plain_fields parts = None

-- those of a variant that counts them
abbrev pub counted_fields : List (List ℕ) → Option Fields
counted_fields (placement ∷ side ∷ rights ∷ ep ∷ checks ∷ []) =
    Some (fields placement side rights ep checks no_halfmoves first_number)
counted_fields (placement ∷ side ∷ rights ∷ ep ∷ checks ∷ halfmoves ∷ number ∷ []) =
    Some (fields placement side rights ep checks halfmoves number)
counted_fields parts = None

abbrev pub fields_in : Rules → List (List ℕ) → Option Fields
fields_in rules parts = if rules.check_counting then counted_fields parts else plain_fields parts

-- the fields, separated by single blanks, of a text of at most 1,024 bytes
unfoldable pub fields_of : Rules → List ℕ → Result Fields FenFault
fields_of rules text =
    if nat_lt 1024 (length text) then Err Length else or_fault Length (fields_in rules (slice_split is_space text))
