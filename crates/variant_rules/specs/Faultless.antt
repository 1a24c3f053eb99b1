-- Sections without a fault before that of their start.
use Rattle.std.specs.Prelude.{◌≡◌, ℕ, List, None}
use Rattle.variant_ini.specs.Section.{Section}
use Rattle.variant_model.specs.Entry.{first_fault, is_refused}

-- the section's header, its lines and its options have no fault
abbrev pub IsFaultless : List Section → ℕ → Type 0
IsFaultless sections place = first_fault sections place (is_refused sections) ≡ None
