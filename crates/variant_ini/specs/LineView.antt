-- The reader's types, without where the bytes lie in memory.
use Rattle.std.specs.Prelude.{ℕ, List, Option}
use Rattle.std.specs.Option.{option_copied}
use Rattle.variant_ini.specs.declared.line.Header.{Header}
use Rattle.variant_ini.specs.declared.line.Pair.{Pair}
use Rattle.variant_ini.specs.declared.line.Line.{Line}
use Rattle.variant_ini.specs.declared.line.Line.TheVariants as line
use Rattle.variant_ini.specs.LineKind.{LineKind, comment, foreign, header, pair, bad}

abbrev pub header_view : Header → List ℕ × Option (List ℕ)
header_view h = (h.name.now, option_copied h.parent)

abbrev pub pair_view : Pair → List ℕ × List ℕ
pair_view p = (p.key.now, p.value.now)

abbrev pub line_view : Line → LineKind
line_view line.Comment = comment
line_view line.Foreign = foreign
line_view (line.Header h) = header h.name.now (option_copied h.parent)
line_view (line.Pair p) = pair p.key.now p.value.now
line_view line.Bad = bad
