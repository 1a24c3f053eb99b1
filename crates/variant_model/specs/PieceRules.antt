-- The rules of the pieces that a section has.
use Rattle.std.specs.Prelude.{ℕ, ◌/◌, ◌%◌, ◌+◌, nat_lt, Bool, false, ◌&&◌, ◌==◌, is_some, List, [], ◌∷◌, Option, Some, None, Result, Ok, Err, unwrap_or, option_and_then, if◌then◌else◌, map, filter, slice_index_or}
use Rattle.std.specs.Option.{option_map, option_or}
use Rattle.std.specs.List.{find, range_with_len}
use Rattle.betza_text.specs.declared.fault.BetzaFault.{BetzaFault}
use Rattle.rules_model.specs.declared.board.Kind.{Kind}
use Rattle.rules_model.specs.declared.board.Region.{Region}
use Rattle.rules_model.specs.declared.board.Side.{Side}
use Rattle.rules_model.specs.declared.board.Side.TheVariants.{White, Black}
use Rattle.rules_model.specs.declared.rules.KindRule.{KindRule}
use Rattle.rules_model.specs.declared.rules.Term.{Term}
use Rattle.rules_model.specs.Kinds.{names}
use Rattle.variant_options.specs.Letters.{kind, mask_where}
use Rattle.variant_options.specs.PieceTable.{PieceRow, wordless, pieces, read_piece, value_word}
use Rattle.variant_options.specs.Options.{OptionRow, Said, read, PieceLetters, max_rank, max_file, promoted_piece_type, mobility_region, is_pawn_key}
use Rattle.variant_options.specs.BetzaWords.{terms_in}

-- what a section says: the values of its keys and the letters of its pieces, both inherited where they are not its own
pub record Resolved : Type 0 where
  pub value : List ℕ → Option (List ℕ)
  pub letter : PieceLetters

-- what an option says: what its value says, else its default. Every value of an accepted section is of its kind
abbrev pub said : Resolved → (option : OptionRow) → Said option.values
said section option =
    unwrap_or (option_and_then (read option.values) (section.value option.key)) (option.default section.letter)

-- ---- the board

abbrev pub files_of : Resolved → ℕ
files_of section = said section max_file + 1

abbrev pub is_on_board : Resolved → ℕ → Bool
is_on_board section s = nat_lt (s % 12) (files_of section) && nat_lt (s / 12) (said section max_rank)

-- the squares of a region that are on the board
unfoldable pub on_the_board : Resolved → Region → Region
on_the_board section region =
    record {
      squares = map (λ s. slice_index_or region.squares s false && is_on_board section s)
          (range_with_len 0 120);
    }

-- the regions of an option for White and Black
abbrev pub both_sides : Resolved → (Side → Region) → List Region
both_sides section region = on_the_board section (region White) ∷ on_the_board section (region Black) ∷ []

-- ---- kinds

-- the piece at a place of the table
abbrev pub piece_row : ℕ → PieceRow
piece_row place = slice_index_or pieces place (wordless [])

-- the piece that has the letter
abbrev pub holder : Resolved → Kind → Option PieceRow
holder section k = find (λ piece. names (section.letter piece.key) k) pieces

abbrev pub has_piece : Resolved → Kind → Bool
has_piece section k = is_some (holder section k)

-- the letters of a mask that pieces have
abbrev pub held_letters : Resolved → List Bool → List Bool
held_letters section mask = mask_where (λ k. slice_index_or mask k.0 false && has_piece section k)

-- a letter, where a piece has it
abbrev pub held_letter : Resolved → Option Kind → Option Kind
held_letter section None = None
held_letter section (Some k) = if has_piece section k then Some k else None

-- the pairs of which pieces have both letters
abbrev pub held_pairs : Resolved → List (Kind × Kind)
held_pairs section =
    filter (λ pair. has_piece section pair.0 && has_piece section pair.1) (said section promoted_piece_type)

abbrev pub right_of : Kind × Kind → Kind
right_of pair = pair.1

-- what the pairs make of a kind
abbrev pub promoted_by : List (Kind × Kind) → Kind → Option Kind
promoted_by pairs k = option_map right_of (find (λ pair. pair.0.0 == k.0) pairs)

-- ---- the rule of a piece

abbrev pub or_no_terms : Result (List Term) BetzaFault → List Term
or_no_terms (Ok terms) = terms
or_no_terms (Err fault) = []

abbrev pub word_terms : Option (List ℕ) → List Term
word_terms None = []
word_terms (Some word) = or_no_terms (terms_in word)

-- the word of a piece: that of its value, else its own
abbrev pub piece_word : Resolved → PieceRow → Option (List ℕ)
piece_word section piece = option_or (value_word (option_and_then read_piece (section.value piece.key))) piece.word

-- where a side's pieces may go: the chess pawn has no such option, and may go everywhere
abbrev pub mobility : Resolved → PieceRow → Side → Region
mobility section piece side = said section (mobility_region side piece.key)

unfoldable pub kind_rule_of : Resolved → Kind → PieceRow → KindRule
kind_rule_of section k piece = record {
  terms = word_terms (piece_word section piece);
  mobility = both_sides section (mobility section piece);
  pawn = is_pawn_key piece.key;
  promoted = promoted_by (held_pairs section) k;
}

abbrev pub kind_at : Resolved → ℕ → Option KindRule
kind_at section k = option_map (kind_rule_of section (kind k)) (holder section (kind k))
