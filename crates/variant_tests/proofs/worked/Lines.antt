-- Lines and their faults, with lines that are nearly the same.
use Rattle.std.proofs.Common.{◌≡◌, Some, None, refl}
use Rattle.std.specs.Prelude.{codes}
use Rattle.betza_text.specs.declared.fault.BetzaFault.TheVariants.{Empty}
use Rattle.variant_ini.specs.Section.{key_line}
use Rattle.variant_options.specs.declared.fault.LineFault.TheVariants.{UnsupportedOption, BadValue, BadPiece}
use Rattle.variant_options.specs.BetzaWords.{parts_of}
use Rattle.variant_options.specs.LineFaults.{line_fault}
use Rattle.variant_options.specs.Options.{options, option_kind, skipped_keys}

knight : line_fault (key_line (codes "knight") (codes "N")) ≡ None
unfolding line_fault options option_kind skipped_keys
knight = refl

knight_gone : line_fault (key_line (codes "knight") (codes "-")) ≡ None
unfolding line_fault options option_kind skipped_keys
knight_gone = refl

knight_with_word : line_fault (key_line (codes "knight") (codes "n:N")) ≡ Some BadValue
unfolding line_fault options option_kind skipped_keys
knight_with_word = refl

custom_without_word : line_fault (key_line (codes "customPiece24") (codes "c")) ≡ Some BadValue
unfolding line_fault options option_kind skipped_keys
custom_without_word = refl

custom_gone : line_fault (key_line (codes "customPiece1") (codes "-")) ≡ None
unfolding line_fault options option_kind skipped_keys
custom_gone = refl

empty_word : line_fault (key_line (codes "customPiece1") (codes "c:")) ≡ Some (BadPiece (Empty 0))
unfolding line_fault options option_kind skipped_keys parts_of
empty_word = refl

no_custom_piece : line_fault (key_line (codes "customPiece25") (codes "c:C")) ≡ Some UnsupportedOption
unfolding line_fault options option_kind skipped_keys
no_custom_piece = refl

no_leading_zero : line_fault (key_line (codes "customPiece01") (codes "c:C")) ≡ Some UnsupportedOption
unfolding line_fault options option_kind skipped_keys
no_leading_zero = refl

-- the chess pawn has no region, other pieces have
pawn_region : line_fault (key_line (codes "mobilityRegionWhitePawn") (codes "-")) ≡ Some UnsupportedOption
unfolding line_fault options option_kind skipped_keys
pawn_region = refl

lower_case_region : line_fault (key_line (codes "mobilityRegionWhiteking") (codes "-")) ≡ Some UnsupportedOption
unfolding line_fault options option_kind skipped_keys
lower_case_region = refl

unknown : line_fault (key_line (codes "blastOnCapture") (codes "true")) ≡ Some UnsupportedOption
unfolding line_fault options option_kind skipped_keys
unknown = refl

other_case : line_fault (key_line (codes "Castling") (codes "true")) ≡ Some UnsupportedOption
unfolding line_fault options option_kind skipped_keys
other_case = refl

skipped : line_fault (key_line (codes "pocketSize") (codes "much")) ≡ None
unfolding line_fault options option_kind skipped_keys
skipped = refl
