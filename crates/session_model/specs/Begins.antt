-- The rules with which a session begins.
use Rattle.std.specs.Prelude.{Option, Some, None, Result, Ok, Err}
use Rattle.rules_model.specs.declared.rules.Rules.{Rules}
use Rattle.variant_model.specs.declared.fault.SectionFault.{SectionFault}

-- the rules of the variant that is found, where it is accepted
abbrev pub rules_said : Option (Result Rules SectionFault) → Option Rules
rules_said None = None
rules_said (Some (Err fault)) = None
rules_said (Some (Ok rules)) = Some rules
