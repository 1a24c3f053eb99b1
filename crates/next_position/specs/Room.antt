-- What a move asks of a position: that the position after it is one that the machine can write, and that rights are of
-- rooks.
use Rattle.std.specs.Prelude.{◌≡◌, ◌<◌, true, is_some}
use Rattle.rules_model.specs.declared.board.Kind.{Kind}
use Rattle.rules_model.specs.declared.board.Position.{Position}
use Rattle.rules_model.specs.declared.board.Side.{Side}
use Rattle.rules_model.specs.declared.board.Wing.{Wing}
use Rattle.rules_model.specs.declared.rules.Rules.{Rules}
use Rattle.rules_model.specs.Castling.{holds_right, rook_file}
use Rattle.rules_model.specs.Hands.{in_hand}

-- the hand of the side to move can take one more of each kind
pub record HasRoom (p : Position) : Type 0 where
  pub hands : (kind : Kind) → in_hand p.hands p.side kind < 255

-- each castling right is of a rook that stands
pub record RightsHaveRooks (rules : Rules) (p : Position) : Type 0 where
  pub stands : (side : Side) (wing : Wing)
      → holds_right p.rights side wing ≡ true → is_some (rook_file rules p.cells side wing) ≡ true
