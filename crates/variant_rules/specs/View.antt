-- Entries as code holds them, without where they lie in memory.
use Rattle.std.specs.Prelude.{ℕ, List, Option, Some, None, Result, Ok, Err}
use Rattle.std.specs.Borrow.{Bor}
use Rattle.std.specs.Global.{Box}
use Rattle.rules_model.specs.declared.rules.Rules.{Rules}
use Rattle.variant_model.specs.declared.fault.SectionFault.{SectionFault}
use Rattle.variant_rules.specs.declared.found.Found.{Found}
use Rattle.variant_rules.specs.declared.found.Found.TheVariants as found
use Rattle.variant_rules.specs.Entries.{Named}

-- an entry whose rules are in a box
abbrev pub unboxed : Result (Box Rules) SectionFault → Result Rules SectionFault
unboxed (Ok rules) = Ok rules.value
unboxed (Err fault) = Err fault

-- an entry that is lent
abbrev pub lent : Result (Bor Rules) (Bor SectionFault) → Result Rules SectionFault
lent (Ok rules) = Ok rules.now
lent (Err fault) = Err fault.now

-- a name and an entry that are lent
abbrev pub lent_named : Bor (List ℕ) × Result (Bor Rules) (Bor SectionFault) → Named
lent_named named = record { name = named.0.now; entry = lent named.1 }

-- what is found of a name
abbrev pub found_view : Found → Option (Result Rules SectionFault)
found_view (found.Rules rules) = Some (Ok rules.now)
found_view (found.Refused fault) = Some (Err fault.now)
found_view found.Unknown = None

-- a fact of the rules that are found
abbrev pub IfRules : Found → (Rules → Type 0) → Type 0
IfRules (found.Rules rules) p = p rules.now
IfRules (found.Refused fault) p = Unit {0}
IfRules found.Unknown p = Unit {0}
