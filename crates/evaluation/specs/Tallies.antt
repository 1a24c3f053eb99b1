-- The two sums of a position, kept through a move.
use Rattle.std.specs.Prelude.{◌≡◌, ℕ, ◌+◌, List, Option, ℤ, pos, ◌-ℤ◌}
use Rattle.rules_model.specs.declared.board.Cell.{Cell}
use Rattle.rules_model.specs.declared.board.Position.{Position}
use Rattle.rules_model.specs.declared.board.Side.{Side}
use Rattle.rules_model.specs.declared.board.Side.TheVariants.{White, Black}
use Rattle.rules_model.specs.declared.rules.Rules.{Rules}
use Rattle.evaluation.specs.declared.tally.Tally.{Tally}
use Rattle.evaluation.specs.Evaluation.{board_worth, clamped, evaluation, hand_worth}

-- ---- the sums

-- of these squares and these hands
pub record AreSums (rules : Rules) (cells : List (Option Cell)) (hands : List (List ℕ)) (tally : Tally) : Type 0 where
  pub white : tally.white ≡ pos (board_worth rules cells White + hand_worth rules hands White)
  pub black : tally.black ≡ pos (board_worth rules cells Black + hand_worth rules hands Black)

-- of a position
abbrev pub IsTally : Rules → Position → Tally → Type 0
IsTally rules p tally = AreSums rules p.cells p.hands tally

-- what they are worth to the side that moves
abbrev pub tally_value : Tally → Side → ℤ
tally_value tally White = clamped (tally.white -ℤ tally.black)
tally_value tally Black = clamped (tally.black -ℤ tally.white)

-- so much is each position with these sums worth, where the side is to move, whatever its rules
abbrev pub ValuesPositions : Tally → Side → ℤ → Type 0
ValuesPositions tally side v =
    (rules : Rules) (p : Position) → IsTally rules p tally → p.side ≡ side → v ≡ evaluation rules p
