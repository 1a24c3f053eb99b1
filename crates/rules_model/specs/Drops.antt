-- Drops (Fairy-Stockfish's `pieceDrops`, `dropRegion..`, `firstRankPawnDrops`, `promotionZonePawnDrops`,
-- `dropNoDoubled`).
use Rattle.std.specs.Prelude.{ℕ, ◌+◌, ◌*◌, ◌%◌, Bool, ◌&&◌, ◌||◌, not, ◌==◌, is_none, Option, List}
use Rattle.foundation.specs.Count.{any_below}
use Rattle.rules_model.specs.declared.board.Cell.{Cell}
use Rattle.rules_model.specs.declared.board.Kind.{Kind}
use Rattle.rules_model.specs.declared.board.Repeat.{Repeat}
use Rattle.rules_model.specs.declared.board.Side.{Side}
use Rattle.rules_model.specs.declared.rules.Rules.{Rules}
use Rattle.rules_model.specs.Squares.{cell_at}
use Rattle.rules_model.specs.Kinds.{names, is_pawn}
use Rattle.rules_model.specs.Regions.{in_region, on_first_rank}
use Rattle.rules_model.specs.Hands.{holds}
use Rattle.rules_model.specs.Attacks.{is_own}

-- a piece of the side and the kind stands on the square of a file and a rank
unfoldable pub stands_on : List (Option Cell) → Side → Kind → ℕ → ℕ → Bool
stands_on cells side kind file rank = is_own side (λ k. k.0 == kind.0) (cell_at cells (12 * rank + file))

-- where a pawn is not dropped
abbrev pub bars_pawn : Rules → Side → ℕ → Bool
bars_pawn rules side to =
    (on_first_rank rules side to && not rules.pawn_first) || (in_region rules.promotion side to && not rules.pawn_zone)

-- the side already has a piece of the kind on the file, and the kind may not be doubled
abbrev pub is_doubled : Rules → List (Option Cell) → Side → Kind → ℕ → Bool
is_doubled rules cells side kind to = names rules.no_doubled kind && any_below (stands_on cells side kind (to % 12)) 10

-- a hand piece of the kind may be put on the square
unfoldable pub drops_to : Rules → Repeat → Kind → ℕ → Bool
drops_to rules r kind to =
    rules.drops && holds r.hands r.side kind && is_none (cell_at r.cells to) && in_region rules.drop_region r.side to
    && not (is_pawn rules kind && bars_pawn rules r.side to) && not (is_doubled rules r.cells r.side kind to)
