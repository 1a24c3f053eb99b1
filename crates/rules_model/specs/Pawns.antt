-- The chess pawn, and en passant (FIDE Laws of Chess, article 3.7). The regions of the double step and of promotion,
-- and whether a pawn must promote, are the variant's (`doubleStepRegion..`, `promotionRegion..`,
-- `mandatoryPawnPromotion`).
use Rattle.std.specs.Prelude.{ℕ, Bool, true, false, ◌&&◌, ◌||◌, not, ◌==◌, is_none, Option, Some, None, List}
use Rattle.std.specs.List.{list_any}
use Rattle.rules_model.specs.declared.board.Cell.{Cell}
use Rattle.rules_model.specs.declared.board.Repeat.{Repeat}
use Rattle.rules_model.specs.declared.board.Side.{Side}
use Rattle.rules_model.specs.declared.board.Square.{Square}
use Rattle.rules_model.specs.declared.moves.Promo.{Promo}
use Rattle.rules_model.specs.declared.moves.Promo.TheVariants.{Stays, Pawn, Plus}
use Rattle.rules_model.specs.declared.rules.Rules.{Rules}
use Rattle.rules_model.specs.Squares.{cell_at}
use Rattle.rules_model.specs.Reach.{is_at}
use Rattle.rules_model.specs.Sides.{other, same_side}
use Rattle.rules_model.specs.Kinds.{board_of, masks}
use Rattle.rules_model.specs.Regions.{in_region}
use Rattle.rules_model.specs.Attacks.{ahead, is_diagonal, is_own_pawn}

abbrev pub is_free : List (Option Cell) → Option ℕ → Bool
is_free cells None = false
is_free cells (Some s) = is_none (cell_at cells s)

abbrev pub is_enemy : Side → Option Cell → Bool
is_enemy side None = false
is_enemy side (Some c) = not (same_side c.side side)

-- two steps straight forward from the double-step region, over an empty square
abbrev pub steps_twice : Rules → Repeat → Square → ℕ → Bool
steps_twice rules r from to =
    rules.double_step && in_region rules.double_region r.side from.0
    && is_free r.cells (ahead (board_of rules) r.side from 1) && is_at to (ahead (board_of rules) r.side from 2)

-- to an empty square straight forward, or onto an enemy diagonally one step forward
unfoldable pub pawn_goes : Rules → Repeat → Square → ℕ → Bool
pawn_goes rules r from to =
    (is_none (cell_at r.cells to) && (is_at to (ahead (board_of rules) r.side from 1) || steps_twice rules r from to))
    || (is_enemy r.side (cell_at r.cells to) && is_diagonal (board_of rules) r.side from to)

-- there is a kind to promote to, and the target lies in the promotion region
abbrev pub may_promote : Rules → Side → ℕ → Bool
may_promote rules side to = list_any (λ b. b) rules.promotion_kinds && in_region rules.promotion side to

-- what a pawn may become, where it may promote or not
abbrev pub pawn_promo : Rules → Bool → Promo → Bool
pawn_promo rules may Stays = not (may && rules.must_promote_pawn)
pawn_promo rules may (Pawn kind) = may && masks rules.promotion_kinds kind
pawn_promo rules may Plus = false

abbrev pub is_stays : Promo → Bool
is_stays Stays = true
is_stays (Pawn kind) = false
is_stays Plus = false

abbrev pub is_ep : Option Square → ℕ → Bool
is_ep None s = false
is_ep (Some ep) s = ep.0 == s

-- a pawn goes diagonally forward to the en passant square
unfoldable pub passes_by : Rules → Repeat → Square → ℕ → Bool
passes_by rules r from to =
    is_own_pawn rules r.side (cell_at r.cells from.0) && is_ep r.ep to && is_diagonal (board_of rules) r.side from to

-- the square one step behind a square, as the side sees it
abbrev pub behind : Rules → Side → Square → Option ℕ
behind rules side s = ahead (board_of rules) (other side) s 1

-- the move of the pawn, or en passant, where it stays a pawn
unfoldable pub pawn_moves : Rules → Repeat → Square → Square → Promo → Bool
pawn_moves rules r from to promo =
    (pawn_goes rules r from to.0 && pawn_promo rules (may_promote rules r.side to.0) promo)
    || (passes_by rules r from to.0 && is_stays promo)
