-- What a section says of one key, and of the pieces of the table.
use Rattle.std.specs.Prelude.{◌≡◌, ℕ, ◌%◌, ◌/◌, nat_lt, Bool, false, ◌&&◌, List, [], ◌∷◌, Option, unwrap_or, option_and_then, map, slice_index_or}
use Rattle.std.specs.List.{range_with_len}
use Rattle.std.specs.Borrow.{Bor}
use Rattle.rules_model.specs.declared.board.BoardSize.{BoardSize}
use Rattle.rules_model.specs.declared.board.Kind.{Kind}
use Rattle.rules_model.specs.declared.board.Region.{Region}
use Rattle.rules_model.specs.declared.board.Side.{Side}
use Rattle.rules_model.specs.declared.rules.KindRule.{KindRule}
use Rattle.rules_model.specs.declared.rules.Term.{Term}
use Rattle.variant_ini.specs.Section.{Section}
use Rattle.variant_options.specs.declared.pieces.RegionKeys.{RegionKeys}
use Rattle.variant_options.specs.Letters.{mask_of}
use Rattle.variant_options.specs.PieceView.{key_pair}
use Rattle.variant_options.specs.PieceTable.{PieceRow, pieces, read_piece, value_word}
use Rattle.variant_options.specs.Readings.{read_letters, read_region}
use Rattle.variant_options.specs.Options.{max_rank, mobility_key, region_keys}
use Rattle.variant_model.specs.Made.{resolved}
use Rattle.variant_model.specs.PieceRules.{Resolved, files_of, has_piece, held_letters, kind_at, piece_word, said, word_terms}

-- what the section at a place says
abbrev pub resolved_at : List Section × ℕ → Resolved
resolved_at at = resolved at.0 at.1

-- the letters of the pieces of the table
unfoldable pub letters_in : Resolved → List (Option Kind)
letters_in section = map (λ piece. section.letter piece.key) pieces

-- what the value of a key says, else the default
abbrev pub value_or : {X : Type 0} → Resolved → List ℕ → (List ℕ → Option X) → X → X
value_or section key read default = unwrap_or (option_and_then read (section.value key)) default

abbrev pub board_of : Resolved → BoardSize
board_of section = record { files = files_of section; ranks = said section max_rank }

-- the squares of a region that are on a board
unfoldable pub cut_to : BoardSize → Region → Region
cut_to board region =
    record {
      squares = map (λ s. slice_index_or region.squares s false
          && (nat_lt (s % 12) board.files && nat_lt (s / 12) board.ranks)) (range_with_len 0 120);
    }

-- the region of a key on a board
abbrev pub region_on : BoardSize → Resolved → List ℕ → Region → Region
region_on board section key default = cut_to board (value_or section key read_region default)

-- the regions of two keys, of White's and of Black's
abbrev pub regions_on : BoardSize → Resolved → List ℕ × List ℕ → List Region → List Region
regions_on board section keys defaults =
    region_on board section keys.0 (slice_index_or defaults 0 (record { squares = [] }))
    ∷ region_on board section keys.1 (slice_index_or defaults 1 (record { squares = [] })) ∷ []

-- the word of the value of a piece
abbrev pub own_word : Resolved → List ℕ → Option (List ℕ)
own_word section key = value_word (option_and_then read_piece (section.value key))

-- a mask has the letter of a piece
unfoldable pub held_at : Resolved → List Bool → Kind → Bool
held_at section mask k = slice_index_or mask k.0 false && has_piece section k

-- pieces have both letters of a pair
unfoldable pub holds_pair : Resolved → Kind × Kind → Bool
holds_pair section pair = has_piece section pair.0 && has_piece section pair.1

-- the rule of a kind
unfoldable pub rule_at : Resolved → ℕ → Option KindRule
rule_at section k = kind_at section k

-- the letters of a key that pieces have, by default the one that is given
abbrev pub held_by : Resolved → List ℕ → Option Kind → List Bool
held_by section key default = held_letters section (value_or section key read_letters (mask_of default))

-- the terms of a piece
abbrev pub terms_by : Resolved → PieceRow → List Term
terms_by section piece = word_terms (piece_word section piece)

-- ---- keys as code holds them

abbrev pub both_now : Bor (List ℕ) × Bor (List ℕ) → List ℕ × List ℕ
both_now keys = (keys.0.now, keys.1.now)

-- the key of a side's region, whichever piece the keys are of
abbrev pub IsKeyOf : RegionKeys → Side → List ℕ → Type 0
IsKeyOf keys side key = (piece : PieceRow) → key_pair keys ≡ region_keys piece → key ≡ mobility_key side piece.key
