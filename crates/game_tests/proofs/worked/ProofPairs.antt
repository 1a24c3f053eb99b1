-- Lines of the rules and lines that are nearly such lines.
use Rattle.std.proofs.Common.{◌≡◌, true, [], ◌∷◌, ◌++◌, Some, None, replicate, refl}
use Rattle.std.specs.Prelude.{codes}
use Rattle.foundation.specs.Cuts.{cut}
use Rattle.variant_ini.specs.Cuts.{trimmed}
use Rattle.variant_ini.specs.LineKind.{header_of, pair_of, text_kind, line_kind}
use Rattle.variant_ini.specs.Section.{key_line}
use Rattle.proof_text.specs.Pairs.{is_read_back, pair_said}

plain : pair_said (codes "rook = r") ≡ Some (key_line (codes "rook") (codes "r"))
unfolding trimmed cut header_of pair_of text_kind line_kind is_read_back pair_said
plain = refl

-- blanks at the ends of both parts are left out; those inside stay, and so does a second `=`
blanks : pair_said (codes "\t flag  Region =d4  e4 = \t") ≡ Some (key_line (codes "flag  Region") (codes "d4  e4 ="))
unfolding trimmed cut header_of pair_of text_kind line_kind is_read_back pair_said
blanks = refl

no_value : pair_said (codes "rook =") ≡ Some (key_line (codes "rook") [])
unfolding trimmed cut header_of pair_of text_kind line_kind is_read_back pair_said
no_value = refl

no_key : pair_said (codes " = r") ≡ None
unfolding trimmed cut header_of pair_of text_kind line_kind is_read_back pair_said
no_key = refl

no_sign : pair_said (codes "rook r") ≡ None
unfolding trimmed cut header_of pair_of text_kind line_kind is_read_back pair_said
no_sign = refl

-- a pair, but its compact line is a section's header
header : pair_said (codes "[rook = r]") ≡ None
unfolding trimmed cut header_of pair_of text_kind line_kind is_read_back pair_said
header = refl

no_header : pair_said (codes "[rook = r") ≡ Some (key_line (codes "[rook") (codes "r"))
unfolding trimmed cut header_of pair_of text_kind line_kind is_read_back pair_said
no_header = refl

comment : pair_said (codes "# rook = r") ≡ None
unfolding trimmed cut header_of pair_of text_kind line_kind is_read_back pair_said
comment = refl

-- a byte above 127
foreign : pair_said (codes "rook = " ++ 200 ∷ []) ≡ None
unfolding trimmed cut header_of pair_of text_kind line_kind is_read_back pair_said
foreign = refl

-- a carriage return at the end of the compact line is no part of the value there
return : pair_said (codes "rook = r\r") ≡ None
unfolding trimmed cut header_of pair_of text_kind line_kind is_read_back pair_said
return = refl

-- the blanks of a line do not count to its length
longest : pair_said (codes "rook   =   " ++ replicate 1019 120) ≡ Some (key_line (codes "rook") (replicate 1019 120))
unfolding trimmed cut header_of pair_of text_kind line_kind is_read_back pair_said
longest = refl

too_long : pair_said (codes "rook=" ++ replicate 1020 120) ≡ None
unfolding trimmed cut header_of pair_of text_kind line_kind is_read_back pair_said
too_long = refl

-- a line feed in a value passes, though a text is cut there: the pairs that are told back have none
feed : is_read_back (codes "rook", codes "r\nk") ≡ true
unfolding trimmed cut header_of pair_of text_kind line_kind is_read_back
feed = refl
