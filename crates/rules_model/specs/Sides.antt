-- The two sides, and the wings of the board on which a king castles.
use Rattle.std.specs.Prelude.{ℕ, Bool, true, false}
use Rattle.rules_model.specs.declared.board.Side.{Side}
use Rattle.rules_model.specs.declared.board.Side.TheVariants.{White, Black}
use Rattle.rules_model.specs.declared.board.Wing.{Wing}
use Rattle.rules_model.specs.declared.board.Wing.TheVariants.{Kingside, Queenside}

abbrev pub other : Side → Side
other White = Black
other Black = White

abbrev pub same_side : Side → Side → Bool
same_side White White = true
same_side White Black = false
same_side Black White = false
same_side Black Black = true

-- the place of a side's part in hands, rights, gates, checks and regions
abbrev pub side_index : Side → ℕ
side_index White = 0
side_index Black = 1

-- the place of a wing's right
abbrev pub wing_index : Wing → ℕ
wing_index Kingside = 0
wing_index Queenside = 1
