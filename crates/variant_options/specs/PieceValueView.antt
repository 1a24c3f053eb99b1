-- The value of a piece as code holds it, without where its bytes lie in memory.
use Rattle.variant_options.specs.declared.line.PieceValue.{PieceValue}
use Rattle.variant_options.specs.declared.line.PieceValue.TheVariants.{Removed, Lettered, Spelled}
use Rattle.variant_options.specs.PieceTable as table

abbrev pub value_view : PieceValue → table.PieceValue
value_view Removed = table.removed
value_view (Lettered kind) = table.lettered kind
value_view (Spelled kind word) = table.spelled kind word.now
