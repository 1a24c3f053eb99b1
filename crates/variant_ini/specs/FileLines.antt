-- What each line has that a file gives to a section.
use Rattle.std.specs.Prelude.{◌≡◌, ◌+◌, ◌<◌, nat_le, false, List, length}
use Rattle.std.specs.List.{All, list_any}
use Rattle.variant_ini.specs.declared.key_line.KeyLine.{KeyLine}
use Rattle.variant_ini.specs.Cuts.{is_feed, trimmed}
use Rattle.variant_ini.specs.Section.{Section}

-- the value has no blanks at its ends, no line feed and no byte above 127, and there is room for it in one line with
-- its key and the sign between them
pub record IsFileLine (line : KeyLine) : Type 0 where
  pub trim : trimmed line.value ≡ line.value
  pub one_line : list_any is_feed line.value ≡ false
  pub ascii : list_any (nat_le 128) line.value ≡ false
  pub short : length line.key + length line.value < 1024

-- each line of each section is such a line
abbrev pub AreFileLines : List Section → Type 0
AreFileLines sections = All (λ section. All IsFileLine section.lines) sections
