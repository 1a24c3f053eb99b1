-- Regions of a side, its first rank and its castling rank.
use Rattle.std.specs.Prelude.{ℕ, ◌+◌, ◌-◌, ◌*◌, ◌/◌, Bool, false, ◌==◌, List, [], slice_index_or}
use Rattle.rules_model.specs.declared.board.Region.{Region}
use Rattle.rules_model.specs.declared.board.Side.{Side}
use Rattle.rules_model.specs.declared.board.Side.TheVariants.{White, Black}
use Rattle.rules_model.specs.declared.rules.Rules.{Rules}
use Rattle.rules_model.specs.Sides.{side_index}

abbrev pub no_region : Region
no_region = record { squares = [] }

-- the square lies in the side's region
abbrev pub in_region : List Region → Side → ℕ → Bool
in_region regions side s = slice_index_or (slice_index_or regions (side_index side) no_region).squares s false

-- the rank that is nearest to the side
abbrev pub first_rank : Rules → Side → ℕ
first_rank rules White = 0
first_rank rules Black = rules.ranks - 1

abbrev pub on_first_rank : Rules → Side → ℕ → Bool
on_first_rank rules side s = s / 12 == first_rank rules side

-- the rank of a square as the side counts it: 1 for its own first rank
abbrev pub rank_for : Rules → Side → ℕ → ℕ
rank_for rules White s = s / 12 + 1
rank_for rules Black s = rules.ranks - s / 12

-- the rank on which the side castles: Black's mirrors White's
abbrev pub castling_rank : Rules → Side → ℕ
castling_rank rules White = rules.castle_rank - 1
castling_rank rules Black = rules.ranks - rules.castle_rank

-- the square of a file on that rank
abbrev pub castling_square : Rules → Side → ℕ → ℕ
castling_square rules side file = 12 * castling_rank rules side + file
