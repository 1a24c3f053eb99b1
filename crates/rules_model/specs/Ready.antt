-- What a call on a position asks.
use Rattle.std.specs.Prelude.{◌≡◌, true}
use Rattle.rules_model.specs.declared.board.Position.{Position}
use Rattle.rules_model.specs.declared.rules.Rules.{Rules}
use Rattle.rules_model.specs.Fit.{IsFit}
use Rattle.rules_model.specs.Sound.{is_sound}

-- the rules fit, they are those that the tables were made of, and the position is sound for them
pub record IsReady (rules made : Rules) (p : Position) : Type 0 where
  pub fit : IsFit rules
  pub tables : made ≡ rules
  pub sound : is_sound rules p ≡ true
