-- A section that stands alone.
use Rattle.std.specs.Prelude.{ℕ, List, None}
use Rattle.variant_ini.specs.declared.key_line.KeyLine.{KeyLine}
use Rattle.variant_ini.specs.Section.{Section}

-- a section without a parent
abbrev pub lone_section : List ℕ → List KeyLine → Section
lone_section name lines = record { name = name; parent = None; lines = lines }
