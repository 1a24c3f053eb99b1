-- The table of pieces as code holds it, without where its bytes lie in memory.
use Rattle.std.specs.Prelude.{ℕ, Bool, true, false, List, Option, Some, None}
use Rattle.variant_options.specs.declared.pieces.Movement.{Movement}
use Rattle.variant_options.specs.declared.pieces.Movement.TheVariants.{Wordless, Fixed, Default, Custom}
use Rattle.variant_options.specs.declared.pieces.Piece.{Piece}
use Rattle.variant_options.specs.declared.pieces.RegionKeys.{RegionKeys}
use Rattle.variant_options.specs.declared.pieces.RegionKeys.TheVariants.{Everywhere, Keys}
use Rattle.variant_options.specs.PieceTable.{PieceRow}

abbrev pub movement_word : Movement → Option (List ℕ)
movement_word Wordless = None
movement_word (Fixed word) = Some word.now
movement_word (Default word) = Some word.now
movement_word Custom = None

abbrev pub movement_is_spelled : Movement → Bool
movement_is_spelled Wordless = false
movement_is_spelled (Fixed word) = false
movement_is_spelled (Default word) = true
movement_is_spelled Custom = true

abbrev pub piece_view : Piece → PieceRow
piece_view piece = record { key = piece.0.now; word = movement_word piece.1; is_spelled = movement_is_spelled piece.1 }

abbrev pub key_pair : RegionKeys → Option (List ℕ × List ℕ)
key_pair Everywhere = None
key_pair (Keys white black) = Some (white.now, black.now)
