-- Rules that are played.
use Rattle.std.specs.Prelude.{◌≡◌, true}
use Rattle.rules_model.specs.declared.rules.Rules.{Rules}
use Rattle.rules_model.specs.Fit.{IsFit}
use Rattle.rules_model.specs.Sound.{is_sound}

-- the rules fit, and a game may start from their start
pub record IsPlayable (rules : Rules) : Type 0 where
  pub fit : IsFit rules
  pub start : is_sound rules rules.start ≡ true
