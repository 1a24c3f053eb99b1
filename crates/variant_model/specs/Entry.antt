-- The rules of a section of a variants file, or its first fault.
use Rattle.std.specs.Prelude.{ℕ, zero, suc, ◌+◌, Bool, is_some, List, [], ◌∷◌, Option, Some, None, Result, Ok, Err, is_err, if◌then◌else◌, take}
use Rattle.std.specs.Option.{option_map, option_or}
use Rattle.rules_model.specs.declared.board.Position.{Position}
use Rattle.rules_model.specs.declared.rules.Rules.{Rules}
use Rattle.fen_model.specs.declared.fault.FenFault.{FenFault}
use Rattle.fen_model.specs.Reading.{fen_of}
use Rattle.variant_ini.specs.declared.key_line.KeyLine.{KeyLine}
use Rattle.variant_ini.specs.Section.{Section, section_at}
use Rattle.variant_ini.specs.OptionValue.{first_named, parent_place}
use Rattle.variant_options.specs.declared.fault.LineFault.{LineFault}
use Rattle.variant_options.specs.declared.fault.LineFault.TheVariants as line
use Rattle.variant_model.specs.Contradictions.{contradiction}
use Rattle.variant_options.specs.Letters.{kind}
use Rattle.variant_options.specs.LineFaults.{line_fault}
use Rattle.variant_model.specs.Made.{rules_from, no_position, resolved, start_text}
use Rattle.variant_model.specs.PieceLetters.{letter_twice}
use Rattle.variant_model.specs.PieceRules.{Resolved, held_pairs}
use Rattle.variant_model.specs.declared.fault.SectionFault.{SectionFault}
use Rattle.variant_model.specs.declared.fault.SectionFault.TheVariants.{DuplicateName, UnknownParent, RefusedParent, UnsupportedOption, BadValue, BadPiece, LetterTwice, BadStart, Inconsistent}

-- ---- the name and the parent

abbrev pub fault_where : Bool → SectionFault → Option SectionFault
fault_where is fault = if is then Some fault else None

-- a section above has the same name
abbrev pub is_duplicate : List Section → ℕ → Bool
is_duplicate sections place = is_some (first_named (take place sections) (section_at sections place).name)

-- by the parent's name, its place, and whether a section at a place is refused
abbrev pub parent_fault_by : Option (List ℕ) → Option ℕ → (ℕ → Bool) → Option SectionFault
parent_fault_by None parent is_refused = None
parent_fault_by (Some name) None is_refused = Some UnknownParent
parent_fault_by (Some name) (Some parent) is_refused = fault_where (is_refused parent) RefusedParent

abbrev pub parent_fault : List Section → ℕ → (ℕ → Bool) → Option SectionFault
parent_fault sections place is_refused =
    parent_fault_by (section_at sections place).parent (parent_place sections place) is_refused

-- ---- its own lines

abbrev pub with_key : List ℕ → LineFault → SectionFault
with_key key line.UnsupportedOption = UnsupportedOption key
with_key key line.BadValue = BadValue key
with_key key (line.BadPiece fault) = BadPiece key fault

-- the first fault of the lines
unfoldable pub lines_fault : List KeyLine → Option SectionFault
lines_fault [] = None
lines_fault (line ∷ lines) = option_or (option_map (with_key line.key) (line_fault line)) (lines_fault lines)

abbrev pub letter_fault : List KeyLine → Option SectionFault
letter_fault lines = option_map (λ k. LetterTwice (kind k)) (letter_twice lines)

-- ---- the rules

-- the rules without their start
abbrev pub bare_rules : Resolved → Rules
bare_rules section = rules_from section no_position

abbrev pub rules_fault : Resolved → Option SectionFault
rules_fault section = option_map Inconsistent (contradiction (bare_rules section) (held_pairs section))

-- the rules with this start
abbrev pub started_by : Rules → Result Position FenFault → Result Rules SectionFault
started_by rules (Ok start) = Ok (record rules { start = start })
started_by rules (Err fault) = Err (BadStart fault)

-- the rules with the start that its text says in them
abbrev pub accepted : Resolved → Result Rules SectionFault
accepted section = started_by (bare_rules section) (fen_of (bare_rules section) (start_text section))

-- ---- the whole

-- the fault of its name or of its parent, by which sections are refused
abbrev pub header_fault : List Section → ℕ → (ℕ → Bool) → Option SectionFault
header_fault sections place is_refused =
    option_or (fault_where (is_duplicate sections place) DuplicateName) (parent_fault sections place is_refused)

-- the fault of its own lines
abbrev pub own_fault : List KeyLine → Option SectionFault
own_fault lines = option_or (lines_fault lines) (letter_fault lines)

-- the first of a section's faults but for that of its start
abbrev pub first_fault : List Section → ℕ → (ℕ → Bool) → Option SectionFault
first_fault sections place is_refused =
    option_or (header_fault sections place is_refused)
    (option_or (own_fault (section_at sections place).lines)
    (rules_fault (resolved sections place)))

abbrev pub unless_fault : Option SectionFault → Result Rules SectionFault → Result Rules SectionFault
unless_fault None rules = rules
unless_fault (Some fault) rules = Err fault

abbrev pub entry_by : List Section → ℕ → (ℕ → Bool) → Result Rules SectionFault
entry_by sections place is_refused =
    unless_fault (first_fault sections place is_refused) (accepted (resolved sections place))

-- the entry of a section within so many sections of the chain of parents
unfoldable pub entry_within : ℕ → List Section → ℕ → Result Rules SectionFault
entry_within zero sections place = Err RefusedParent
entry_within (suc n) sections place = entry_by sections place (λ parent. is_err (entry_within n sections parent))

-- the rules of a section, or its first fault. A parent stands above its child, so no chain is longer than the place and
-- 1
unfoldable pub entry : List Section → ℕ → Result Rules SectionFault
entry sections place = entry_within (place + 1) sections place

abbrev pub is_refused : List Section → ℕ → Bool
is_refused sections place = is_err (entry sections place)
