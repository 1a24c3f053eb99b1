-- What is wrong with a line of a section.
use Rattle.std.specs.Prelude.{ℕ, Bool, true, false, ◌&&◌, is_none, List, Option, Some, None, Result, Ok, Err, if◌then◌else◌}
use Rattle.std.specs.List.{find}
use Rattle.std.specs.Str.{bytes_eq}
use Rattle.betza_text.specs.declared.fault.BetzaFault.{BetzaFault}
use Rattle.rules_model.specs.declared.rules.Term.{Term}
use Rattle.variant_ini.specs.declared.key_line.KeyLine.{KeyLine}
use Rattle.variant_options.specs.declared.fault.LineFault.{LineFault}
use Rattle.variant_options.specs.declared.fault.LineFault.TheVariants.{UnsupportedOption, BadValue, BadPiece}
use Rattle.variant_options.specs.declared.value.ValueKind.{ValueKind}
use Rattle.variant_options.specs.BetzaWords.{terms_in}
use Rattle.variant_options.specs.Options.{read, option_kind, is_skipped}
use Rattle.variant_options.specs.PieceTable.{PieceRow, PieceValue, removed, lettered, spelled, pieces, read_piece}

-- ---- pieces

abbrev pub word_fault : Result (List Term) BetzaFault → Option LineFault
word_fault (Ok terms) = None
word_fault (Err fault) = Some (BadPiece fault)

-- a word where one may stand, none where none is needed
abbrev pub piece_fault : PieceRow → Option PieceValue → Option LineFault
piece_fault piece None = Some BadValue
piece_fault piece (Some removed) = None
piece_fault piece (Some (lettered kind)) = if piece.is_spelled && is_none piece.word then Some BadValue else None
piece_fault piece (Some (spelled kind word)) = if piece.is_spelled then word_fault (terms_in word) else Some BadValue

abbrev pub piece_named : List ℕ → Option PieceRow
piece_named key = find (λ piece. bytes_eq piece.key key) pieces

-- ---- options

abbrev pub option_fault : ValueKind → List ℕ → Option LineFault
option_fault values text = if is_none (read values text) then Some BadValue else None

-- ---- the whole

abbrev pub fault_with : Option PieceRow → Option ValueKind → Bool → List ℕ → Option LineFault
fault_with (Some piece) other skipped value = piece_fault piece (read_piece value)
fault_with None (Some values) skipped value = option_fault values value
fault_with None None true value = None
fault_with None None false value = Some UnsupportedOption

-- the fault of a pair: its key is that of a piece or of an option, and its value is of the key's kind; or it is read
-- over
unfoldable pub line_fault : KeyLine → Option LineFault
line_fault line = fault_with (piece_named line.key) (option_kind line.key) (is_skipped line.key) line.value
