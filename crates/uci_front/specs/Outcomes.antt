-- What the code answers where a line sets something, as the definitions of sessions have it.
use Rattle.std.specs.Prelude.{◌≡◌, ◌⊎◌, ℕ, List, [], Option, Some, None, Result, Ok, Err, ⊤}
use Rattle.io_ports.specs.Files.{Read}
use Rattle.rules_model.specs.declared.rules.Rules.{Rules}
use Rattle.game_play.specs.Played.{Played}
use Rattle.game_text.specs.GameText.{started}
use Rattle.variant_ini.specs.OptionValue.{first_named}
use Rattle.variant_ini.specs.Section.{Section}
use Rattle.variant_model.specs.Fault as section
use Rattle.variant_model.specs.declared.fault.SectionFault.{SectionFault}
use Rattle.variant_rules.specs.Entries.{entries, found}
use Rattle.session_model.specs.UciLines.{Setting}
use Rattle.session_model.specs.UciState.{State, Outcome, bad_value, load, set, unknown_variant, with_game}
use Rattle.variant_rules.specs.Looked.{OneRead}
use Rattle.uci_front.specs.declared.refusal.Refusal.{Refusal}
use Rattle.uci_front.specs.declared.refusal.Refusal.TheVariants.{Fault, Memory}

-- these words, or there was no memory for them
abbrev pub Refuses : List ℕ → Refusal → Type 0
Refuses words (Fault text) = text ≡ words
Refuses words Memory = Unit {0}

-- What a line sets is this state, or its fault is this one. Without memory nothing is known of it.
abbrev pub IsOutcome : {A : Type 0} → Outcome → State → Result A Refusal → Type 0
IsOutcome said now (Ok x) = said ≡ Ok now
IsOutcome said now (Err (Fault text)) = said ≡ Err text
IsOutcome said now (Err Memory) = Unit {0}

-- the same of what a file of this name sets, which was read; without memory it was read, or nothing was
abbrev pub LoadsFile : {A : Type 0} → List ℕ → State → State → List Read → Result A Refusal → Type 0
LoadsFile name old now reads (Ok x) = OneRead name reads (λ found. load old found ≡ Ok now)
LoadsFile name old now reads (Err (Fault text)) = OneRead name reads (λ found. load old found ≡ Err text)
LoadsFile name old now reads (Err Memory) = (reads ≡ []) ⊎ OneRead name reads (λ found. ⊤)

-- what a setting sets, for which the file of this name is read, or none
abbrev pub SetsBy : {A : Type 0} → Option (List ℕ) → State → State → Setting → List Read → Result A Refusal → Type 0
SetsBy None old now setting reads result = (reads ≡ []) × IsOutcome (set old setting) now result
SetsBy (Some name) old now setting reads result = LoadsFile name old now reads result

-- ---- variants

-- the variant of a name, its section's place, and the start of a game by its rules
pub record StartsIn (sections : List Section) (name : List ℕ) (place : ℕ) (game : Played) : Type 0 where
  pub rules : Rules
  pub found_is : found (entries sections) name ≡ Some (Ok rules)
  pub place_is : first_named sections name ≡ Some place
  pub game_is : game ≡ started rules rules.start

-- why there is no such variant
abbrev pub variant_fault : List ℕ → Option (Result Rules SectionFault) → Option (List ℕ)
variant_fault name None = Some (unknown_variant name)
variant_fault name (Some (Err fault)) = Some (section.fault_text fault)
variant_fault name (Some (Ok rules)) = None

abbrev pub Starts : List Section → List ℕ → Result (ℕ × Played) Refusal → Type 0
Starts sections name (Ok start) = StartsIn sections name start.0 start.1
Starts sections name (Err (Fault text)) = variant_fault name (found (entries sections) name) ≡ Some text
Starts sections name (Err Memory) = Unit {0}

-- ---- games

-- What a line sets is this game, from which no mate was announced, or its fault is this one.
abbrev pub Leads : State → Outcome → Result Played Refusal → Type 0
Leads state said (Ok game) = said ≡ Ok (with_game state game)
Leads state said (Err (Fault text)) = said ≡ Err text
Leads state said (Err Memory) = Unit {0}

-- ---- options

-- the number that the value of an option is, or the fault of the option
abbrev pub IsNumber : List ℕ → Option ℕ → Result ℕ Refusal → Type 0
IsNumber name said (Ok number) = said ≡ Some number
IsNumber name said (Err (Fault text)) = (said ≡ None) × (text ≡ bad_value name)
IsNumber name said (Err Memory) = Unit {0}
