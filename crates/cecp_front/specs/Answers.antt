-- What a session's lines answer, as its code comes to it.
use Rattle.std.specs.Prelude.{Bool, true, false, Option, Some, None, Result, Ok, Err}
use Rattle.rules_model.specs.declared.rules.Rules.{Rules}
use Rattle.variant_model.specs.declared.fault.SectionFault.{SectionFault}
use Rattle.game_text.specs.GameText.{started}
use Rattle.session_model.specs.CecpState.{State, with_game}

-- a session begins a variant, where it is there and accepted
abbrev pub begun : State → Option (Result Rules SectionFault) → State
begun state None = state
begun state (Some (Err fault)) = state
begun state (Some (Ok rules)) = with_game state (started rules rules.start)

abbrev pub is_known : Option (Result Rules SectionFault) → Bool
is_known None = false
is_known (Some (Err fault)) = false
is_known (Some (Ok rules)) = true
