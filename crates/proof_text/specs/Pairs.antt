-- The lines of the rules: pairs of a key and a value, as a variants file has them.
use Rattle.std.specs.Prelude.{ℕ, nat_le, Bool, false, ◌&&◌, List, ◌++◌, codes, length, Option, None, Some, option_and_then, if◌then◌else◌}
use Rattle.std.specs.Str.{bytes_eq}
use Rattle.variant_ini.specs.declared.key_line.KeyLine.{KeyLine}
use Rattle.variant_ini.specs.LineKind.{LineKind, comment, foreign, header, pair, bad, line_kind, pair_of}
use Rattle.variant_ini.specs.Section.{key_line}
use Rattle.variant_ini.specs.declared.reading.TheConstants.{LONGEST_LINE}

-- a pair as a line without blanks at the ends and beside the `=`
abbrev pub compact : List ℕ × List ℕ → List ℕ
compact words = words.0 ++ codes "=" ++ words.1

-- a line of a variants file says this pair
abbrev pub is_pair : List ℕ × List ℕ → LineKind → Bool
is_pair words comment = false
is_pair words foreign = false
is_pair words (header name parent) = false
is_pair words (pair key value) = bytes_eq key words.0 && bytes_eq value words.1
is_pair words bad = false

-- the compact line is not too long for a variants file, and says the same pair there
unfoldable pub is_read_back : List ℕ × List ℕ → Bool
is_read_back words = nat_le (length (compact words)) LONGEST_LINE && is_pair words (line_kind (compact words))

abbrev pub if_read_back : List ℕ × List ℕ → Option KeyLine
if_read_back words = if is_read_back words then Some (key_line words.0 words.1) else None

-- the pair of a line: it is cut at its first `=`, and its compact line is read back
unfoldable pub pair_said : List ℕ → Option KeyLine
pair_said text = option_and_then if_read_back (pair_of text)
