-- What a value says, by its kind (the variants.ini documentation of Fairy-Stockfish). None: it is not of the kind.
use Rattle.std.specs.Prelude.{ℕ, ◌+◌, ◌-◌, ◌*◌, ◌/◌, nat_lt, Bool, true, false, ◌&&◌, ◌||◌, ◌==◌, List, [], ◌∷◌, Option, Some, None, if◌then◌else◌, map, length, codes, replicate}
use Rattle.std.specs.Option.{option_map, option_or}
use Rattle.std.specs.List.{list_any, list_all, range_with_len}
use Rattle.std.specs.Str.{bytes_eq}
use Rattle.rules_model.specs.declared.board.Kind.{Kind}
use Rattle.rules_model.specs.declared.board.Region.{Region}
use Rattle.rules_model.specs.declared.moves.Value.{Value}
use Rattle.rules_model.specs.declared.moves.Value.TheVariants.{Win, Loss, Draw}
use Rattle.variant_options.specs.declared.value.Area.{Area}
use Rattle.variant_options.specs.declared.value.Area.TheVariants.{Square, Rank}
use Rattle.variant_options.specs.declared.value.Listed.{Listed}
use Rattle.variant_options.specs.declared.value.Listed.TheVariants.{All, Only}
use Rattle.variant_options.specs.Letters.{is_lower, is_upper, letter_of, mask_in}
use Rattle.foundation.specs.Numbers.{number_within}
use Rattle.variant_options.specs.Words.{is_space, is_hyphen, listed}

-- ---- switches and numbers

-- `true` or `false`
abbrev pub read_flag : List ℕ → Option Bool
read_flag text =
    if bytes_eq text (codes "true") then Some true else if bytes_eq text (codes "false") then Some false else None

-- 0, or a number from 2 to 100
abbrev pub read_fold : List ℕ → Option ℕ
read_fold text = option_or (number_within 0 0 text) (number_within 2 100 text)

-- ---- files

abbrev pub file_named : Option Kind → Option ℕ
file_named None = None
file_named (Some k) = if nat_lt k.0 12 then Some k.0 else None

-- a letter from a to l
abbrev pub file_of_letter : ℕ → Option ℕ
file_of_letter b = file_named (letter_of b)

abbrev pub lettered_file : List ℕ → Option ℕ
lettered_file (b ∷ []) = file_of_letter b
lettered_file text = None

-- a letter from a to l or a number from 1 to 12, as the file counted from 0
abbrev pub read_file : List ℕ → Option ℕ
read_file text = option_or (lettered_file text) (option_map (λ n. n - 1) (number_within 1 12 text))

-- ---- results

-- `win`, `loss` or `draw`
abbrev pub read_result : List ℕ → Option Value
read_result text =
    if bytes_eq text (codes "win") then Some Win
    else if bytes_eq text (codes "loss") then Some Loss
    else if bytes_eq text (codes "draw") then Some Draw
    else None

-- one of these, or `none`
abbrev pub read_result_or_none : List ℕ → Option (Option Value)
read_result_or_none text =
    if bytes_eq text (codes "none") then Some None else option_map (λ value. Some value) (read_result text)

-- ---- letters

-- one letter, or `-`
abbrev pub read_letter : List ℕ → Option (Option Kind)
read_letter (b ∷ []) = if b == 45 then Some None else option_map (λ k. Some k) (letter_of b)
read_letter text = None

abbrev pub is_letter_or_space : ℕ → Bool
is_letter_or_space b = is_lower b || is_upper b || is_space b

-- letters with or without spaces, or `-`, as a mask of kinds
abbrev pub read_letters : List ℕ → Option (List Bool)
read_letters text =
    if is_hyphen text then Some (mask_in [])
    else if nat_lt 0 (length text) && list_all is_letter_or_space text then Some (mask_in text)
    else None

abbrev pub is_star : List ℕ → Bool
is_star (b ∷ []) = b == 42
is_star text = false

-- letters, or `*`
abbrev pub read_letters_or_all : List ℕ → Option Listed
read_letters_or_all text = if is_star text then Some All else option_map (λ mask. Only mask) (read_letters text)

-- ---- pairs of letters

abbrev pub paired : Option Kind → Option Kind → Option (Kind × Kind)
paired None right = None
paired (Some left) None = None
paired (Some left) (Some right) = Some (left, right)

-- `p:g`
abbrev pub pair_of_kinds : List ℕ → Option (Kind × Kind)
pair_of_kinds (left ∷ colon ∷ right ∷ []) = if colon == 58 then paired (letter_of left) (letter_of right) else None
pair_of_kinds word = None

-- pairs, or `-`
abbrev pub read_pairs : List ℕ → Option (List (Kind × Kind))
read_pairs text = listed pair_of_kinds text

-- ---- regions of the largest board

abbrev pub covers : Area → ℕ → Bool
covers (Square at) s = s == at
covers (Rank rank) s = s / 12 == rank

abbrev pub area_on : ℕ → Option ℕ → Option Area
area_on b None = None
area_on b (Some rank) =
    if b == 42 then Some (Rank (rank - 1)) else option_map (λ file. Square (12 * (rank - 1) + file)) (file_of_letter b)

-- `d4`, or `*8` for a rank; ranks are counted from 1 to 10
abbrev pub area_of : List ℕ → Option Area
area_of [] = None
area_of (b ∷ digits) = area_on b (number_within 1 10 digits)

-- the squares that some area covers
abbrev pub region_of : List Area → Region
region_of areas = record { squares = map (λ s. list_any (λ area. covers area s) areas) (range_with_len 0 120) }

-- squares and ranks, or `-`
abbrev pub read_region : List ℕ → Option Region
read_region text = option_map region_of (listed area_of text)

abbrev pub all_squares : Region
all_squares = record { squares = replicate 120 true }
