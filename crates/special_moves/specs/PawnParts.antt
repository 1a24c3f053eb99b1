-- The parts of the pawns' moves that are given in turn.
use Rattle.std.specs.Prelude.{◌≡◌, ℕ, ◌<◌, Bool, true, ◌&&◌, ◌||◌, ◌⊎◌, Option, Some, None, List}
use Rattle.rules_model.specs.declared.board.Kind.{Kind}
use Rattle.rules_model.specs.declared.board.Repeat.{Repeat}
use Rattle.rules_model.specs.declared.board.Square.{Square}
use Rattle.rules_model.specs.declared.moves.Move.{Move}
use Rattle.rules_model.specs.declared.moves.Move.TheVariants.{Go}
use Rattle.rules_model.specs.declared.moves.Promo.{Promo}
use Rattle.rules_model.specs.declared.moves.Promo.TheVariants.{Pawn}
use Rattle.rules_model.specs.declared.rules.Rules.{Rules}
use Rattle.rules_model.specs.Attacks.{ahead, right_ahead, left_ahead, is_own_pawn}
use Rattle.rules_model.specs.Kinds.{board_of, masks}
use Rattle.rules_model.specs.Moves.{IsFitPromo}
use Rattle.rules_model.specs.Pawns.{pawn_promo, is_stays, pawn_moves, is_free}
use Rattle.rules_model.specs.Regions.{in_region}
use Rattle.rules_model.specs.Squares.{cell_at}
use Rattle.special_moves.specs.declared.pawn.Flank.{Flank}
use Rattle.special_moves.specs.declared.pawn.Flank.TheVariants.{Right, Left}

-- the move without a gate
abbrev pub go : Square → Square → Promo → Move
go from to promo = Go from to promo None

-- a promotion to a kind of the mask that is below the end
abbrev pub IsPromotion : List Bool → Square → Square → ℕ → Move → Type 0
IsPromotion mask from to end m =
    (kind : Kind) × (kind.0 < end) × (masks mask kind ≡ true) × (go from to (Pawn kind) ≡ m)

-- what a pawn becomes on a square to which it goes, or on which it passes another
abbrev pub becomes : Rules → Bool → Bool → Bool → Promo → Bool
becomes rules may goes passes promo = (goes && pawn_promo rules may promo) || (passes && is_stays promo)

-- a move from the one square to the other by what the pawn becomes
abbrev pub IsMoveBy : (Promo → Bool) → Square → Square → Move → Type 0
IsMoveBy test from to m = (promo : Promo) × IsFitPromo promo × (test promo ≡ true) × (go from to promo ≡ m)

-- a pawn's move from the one square to the other
abbrev pub IsMoveTo : Rules → Repeat → Square → Square → Move → Type 0
IsMoveTo rules r from to m = IsMoveBy (pawn_moves rules r from to) from to m

-- where there is the square
abbrev pub IsMoveToSome : Rules → Repeat → Square → Option ℕ → Move → Type 0
IsMoveToSome rules r from None m = ⊥
IsMoveToSome rules r from (Some to) m = IsMoveTo rules r from (record { 0 = to }) m

-- the pawn's first square lets it step twice: it lies in the region, and the square ahead is empty
abbrev pub may_step_twice : Rules → Repeat → Square → Bool
may_step_twice rules r from =
    rules.double_step && in_region rules.double_region r.side from.0
    && is_free r.cells (ahead (board_of rules) r.side from 1)

-- the square diagonally one step forward, as the side sees it
abbrev pub diagonal : Rules → Repeat → Flank → Square → Option ℕ
diagonal rules r Right from = right_ahead (board_of rules) r.side from
diagonal rules r Left from = left_ahead (board_of rules) r.side from

-- a pawn's move so many steps straight forward
abbrev pub IsAhead : Rules → Repeat → Square → ℕ → Move → Type 0
IsAhead rules r from k m = IsMoveToSome rules r from (ahead (board_of rules) r.side from k) m

-- one step, or two
abbrev pub IsStep : Rules → Repeat → Square → Move → Type 0
IsStep rules r from m = IsAhead rules r from 1 m ⊎ IsAhead rules r from 2 m

-- a pawn's move diagonally forward
abbrev pub IsAside : Rules → Repeat → Square → Flank → Move → Type 0
IsAside rules r from flank m = IsMoveToSome rules r from (diagonal rules r flank from) m

-- to the right, or to the left
abbrev pub IsTake : Rules → Repeat → Square → Move → Type 0
IsTake rules r from m = IsAside rules r from Right m ⊎ IsAside rules r from Left m

-- a pawn's move from the square
abbrev pub IsMoveFrom : Rules → Repeat → Square → Move → Type 0
IsMoveFrom rules r from m = (to : Square) × (to.0 < 120) × IsMoveTo rules r from to m

-- an own pawn's move from the square
abbrev pub IsOwnMoveFrom : Rules → Repeat → Square → Move → Type 0
IsOwnMoveFrom rules r from m = (is_own_pawn rules r.side (cell_at r.cells from.0) ≡ true) × IsMoveFrom rules r from m
