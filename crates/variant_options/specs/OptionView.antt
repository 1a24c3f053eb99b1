-- The table of options as code holds it, without where its bytes lie in memory.
use Rattle.std.specs.Prelude.{ℕ, List}
use Rattle.std.specs.Borrow.{Bor}
use Rattle.variant_options.specs.declared.value.ValueKind.{ValueKind}
use Rattle.variant_options.specs.Options.{OptionRow}

abbrev pub row_view : Bor (List ℕ) × ValueKind → List ℕ × ValueKind
row_view row = (row.0.now, row.1)

-- the key of an option and the kind of its values
abbrev pub row_of : OptionRow → List ℕ × ValueKind
row_of option = (option.key, option.values)
