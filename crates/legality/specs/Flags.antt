-- Where a side's flag piece may stand in its flag region.
use Rattle.std.specs.Prelude.{◌≡◌, ℕ, ◌<◌, true, Option, List}
use Rattle.rules_model.specs.declared.board.Cell.{Cell}
use Rattle.rules_model.specs.declared.board.Side.{Side}
use Rattle.rules_model.specs.declared.rules.Rules.{Rules}
use Rattle.rules_model.specs.Ends.{flag_at}
use Rattle.rules_model.specs.Regions.{in_region}
use Rattle.square_set.specs.declared.Set.{Set}
use Rattle.square_set.specs.Members.{has}

-- the squares are some of the region, and where the flag piece stands in it, it is one of them
pub record MayHoldFlag (rules : Rules) (cells : List (Option Cell)) (side : Side) (squares : Set) : Type 0 where
  pub all : (s : ℕ) → flag_at rules cells side s ≡ true → has squares s ≡ true
  pub region : (s : ℕ) → has squares s ≡ true → in_region rules.flag_region side s ≡ true
  pub on_board : (s : ℕ) → has squares s ≡ true → s < 120
