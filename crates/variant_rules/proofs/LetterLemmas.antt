-- The letters of pieces, from section to section.
use Rattle.std.proofs.Common.{◌≡◌, ℕ, ◌+◌, ◌<◌, List, [], ◌∷◌, ◌++◌, Option, Some, None, length, get_or, replicate, count_by, map, refl, sym, ap, ◌∙◌, arith, option_and_then}
use Rattle.std.specs.Prelude.{if◌then◌else◌}
use Rattle.std.specs.List.{list_any}
use Rattle.std.specs.Option.{option_map}
use Rattle.std.proofs.lemmas.List.FromFn.{get_or-map-range_with_len, length-map-range_with_len, map-range_with_len_more}
use Rattle.rules_model.specs.declared.board.Kind.{Kind}
use Rattle.rules_model.specs.Kinds.{names}
use Rattle.variant_ini.specs.declared.key_line.KeyLine.{KeyLine}
use Rattle.variant_ini.specs.OptionValue.{parent_place}
use Rattle.variant_ini.specs.Section.{Section, last_value, section_at}
use Rattle.variant_options.specs.PieceTable.{PieceRow, pieces}
use Rattle.variant_options.proofs.FindLemmas.{list_any-map}
use Rattle.variant_model.specs.PieceLetters.{gives_letter, letter_in, letter_with, own_letter, parent_letter, piece_letter}
use Rattle.variant_model.proofs.LetterLaws.{piece_letter_is}
use Rattle.rules_model.specs.declared.board.BoardSize.{BoardSize}
use Rattle.rules_model.specs.declared.board.Region.{Region}
use Rattle.rules_model.specs.declared.board.Side.{Side}
use Rattle.rules_model.specs.declared.board.Side.TheVariants.{White, Black}
use Rattle.variant_options.specs.Options.{mobility_key}
use Rattle.variant_options.specs.Readings.{all_squares, read_region}
use Rattle.variant_model.specs.PieceRules.{Resolved, both_sides, mobility, on_the_board, piece_row}
use Rattle.variant_rules.specs.Said.{board_of, cut_to, letters_in, regions_on, resolved_at, value_or}
use Rattle.variant_rules.specs.Own.{flat, letter_count, letter_given, own_value}
use Rattle.variant_rules.specs.Letters.{inherited, letter_by, letters_before, letters_by, letters_of}
use Rattle.variant_rules.proofs.TableLemmas.{count_by-map, fill_pieces, piece_mapped}

abbrev Said : Type 0
Said = Option (Option Kind)

flat_own : (value : Option (List ℕ)) → flat (option_map letter_in value) ≡ option_and_then letter_in value
flat_own None = refl
flat_own (Some v) = refl

given_own : (lines : List KeyLine) (own : List Said) (k : Kind) → own ≡ map (λ piece. own_value lines piece.key) pieces → letter_given own k ≡ gives_letter lines k
given_own lines own k is =
    ap (λ letters. letter_given letters k) is
    ∙ list_any-map (λ piece. own_value lines piece.key) (λ letter. names (flat letter) k) pieces
    ∙ (λ i. list_any (λ piece. names (flat_own (last_value lines piece.key) i) k) pieces)

step : (lines : List KeyLine) (own : List Said) (value : Option (List ℕ)) (above : Option Kind) → own ≡ map (λ piece. own_value lines piece.key) pieces → letter_by (option_map letter_in value) above own ≡ letter_with lines value above
step lines own (Some v) above is = refl
step lines own None None is = refl
step lines own None (Some k) is = ap (λ b. if b then None else Some k) (given_own lines own k is)

-- the letters of a section, by its lines and by its parent's letters
pub letters_are : (sections : List Section) (place : ℕ) (own : List (Option (Option Kind))) (above : List (Option Kind)) → own ≡ map (λ piece. own_value (section_at sections place).lines piece.key) pieces → above ≡ inherited sections place → letters_by own above ≡ letters_of sections place
unfolding letters_of inherited
letters_are sections place own above is from =
    fill_pieces (λ piece. piece_letter sections place piece.key) (letters_by own above) None
    (length-map-range_with_len (λ i. letter_by (get_or own i None) (get_or above i None) own) 0 56)
    (λ k l.
    get_or-map-range_with_len (λ i. letter_by (get_or own i None) (get_or above i None) own) 0 56 k k None l (omega arith)
    ∙ ap (λ said. letter_by said (get_or above k None) own) (piece_mapped (λ piece. own_value (section_at sections place).lines piece.key) own None k is l)
    ∙ ap (λ letter. letter_by (own_value (section_at sections place).lines (piece_row k).key) letter own) (piece_mapped (λ piece. parent_letter sections place piece.key) above None k from l)
    ∙ step (section_at sections place).lines own (last_value (section_at sections place).lines (piece_row k).key) (parent_letter sections place (piece_row k).key) is
    ∙ sym (piece_letter_is sections (piece_row k).key place))

-- no parent has a letter
pub nothing_inherited : (sections : List Section) (place : ℕ) → None ≡ parent_place sections place → replicate 56 None ≡ inherited sections place
unfolding inherited
nothing_inherited sections place none =
    ap (λ parent. map (λ piece. option_and_then (λ place. piece_letter sections place piece.key) parent) pieces) none

-- the letters of a section before a place
pub letters_above : (sections : List Section) (place at : ℕ) (d : List (Option Kind)) → at < place → get_or (letters_before sections place) at d ≡ letters_of sections at
unfolding letters_before
letters_above sections place at d above = get_or-map-range_with_len (letters_of sections) 0 place at at d above (omega arith)

pub length_before : (sections : List Section) (place : ℕ) → length (letters_before sections place) ≡ place
unfolding letters_before
length_before sections place = length-map-range_with_len (letters_of sections) 0 place

-- the letters of the parent
pub parents_inherited : (sections : List Section) (place parent : ℕ) → Some parent ≡ parent_place sections place → letters_of sections parent ≡ inherited sections place
unfolding letters_of inherited
parents_inherited sections place parent is =
    ap (λ parent. map (λ piece. option_and_then (λ place. piece_letter sections place piece.key) parent) pieces) is

pub none_before : (sections : List Section) → letters_before sections 0 ≡ []
unfolding letters_before
none_before sections = refl

pub one_more : (sections : List Section) (place : ℕ) → letters_before sections (place + 1) ≡ letters_before sections place ++ letters_of sections place ∷ []
unfolding letters_before
one_more sections place = map-range_with_len_more (letters_of sections) 0 place place (omega arith)

-- how many pieces have a letter
pub count_own : (lines : List KeyLine) (own : List (Option (Option Kind))) (k : Kind) → own ≡ map (λ piece. own_value lines piece.key) pieces → letter_count own k ≡ count_by (λ piece. names (own_letter lines piece.key) k) pieces
count_own lines own k is =
    ap (λ letters. letter_count letters k) is
    ∙ count_by-map (λ piece. own_value lines piece.key) (λ letter. names (flat letter) k) pieces
    ∙ (λ i. count_by (λ piece. names (flat_own (last_value lines piece.key) i) k) pieces)

pub letters_same : (at : List Section × ℕ) → letters_of at.0 at.1 ≡ letters_in (resolved_at at)
unfolding letters_of letters_in
letters_same at = refl

-- ---- regions

pub on_board_is : (section : Resolved) (region : Region) → cut_to (board_of section) region ≡ on_the_board section region
unfolding cut_to on_the_board
on_board_is section region = refl

pub regions_are : (section : Resolved) (board : BoardSize) (white black : List ℕ) (w b : Region) (f : Side → Region) → board ≡ board_of section → value_or section white read_region w ≡ f White → value_or section black read_region b ≡ f Black → regions_on board section (white, black) (w ∷ b ∷ []) ≡ both_sides section f
regions_are section board white black w b f is for_white for_black =
    (λ i. cut_to (is i) (for_white i) ∷ cut_to (is i) (for_black i) ∷ [])
    ∙ (λ i. on_board_is section (f White) i ∷ on_board_is section (f Black) i ∷ [])

-- the regions of a piece
pub mobility_is : (section : Resolved) (board : BoardSize) (white black : List ℕ) (piece : PieceRow) → board ≡ board_of section → white ≡ mobility_key White piece.key → black ≡ mobility_key Black piece.key → regions_on board section (white, black) (all_squares ∷ all_squares ∷ []) ≡ both_sides section (mobility section piece)
mobility_is section board white black piece is w b =
    regions_are section board white black all_squares all_squares (mobility section piece) is
    (ap (λ key. value_or section key read_region all_squares) w) (ap (λ key. value_or section key read_region all_squares) b)
