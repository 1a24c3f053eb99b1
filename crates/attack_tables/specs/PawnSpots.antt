-- Where a pawn may go from a square, as far as the rules alone tell.
use Rattle.std.specs.Prelude.{◌≡◌, ℕ, ℤ, ◌<◌, Bool, true, false, ◌&&◌, ◌||◌}
use Rattle.std.specs.Bool.{OnTrue}
use Rattle.rules_model.specs.declared.board.Side.{Side}
use Rattle.rules_model.specs.declared.board.Square.{Square}
use Rattle.rules_model.specs.declared.rules.Rules.{Rules}
use Rattle.rules_model.specs.Attacks.{ahead, is_diagonal, pawn_ray}
use Rattle.rules_model.specs.Kinds.{board_of}
use Rattle.rules_model.specs.Pawns.{may_promote}
use Rattle.rules_model.specs.Reach.{is_at}
use Rattle.rules_model.specs.Regions.{in_region}
use Rattle.rules_model.specs.Squares.{step_to}
use Rattle.square_set.specs.declared.Set.{Set}
use Rattle.square_set.specs.Members.{has}
use Rattle.attack_tables.specs.declared.pawns.PawnSpot.{PawnSpot}

-- the square of one step
abbrev pub one_ahead : Rules → Side → Square → ℕ → Bool
one_ahead rules side from t = is_at t (ahead (board_of rules) side from 1)

-- the square of two steps, where the pawn stands in the double-step region
abbrev pub two_ahead : Rules → Side → Square → ℕ → Bool
two_ahead rules side from t =
    rules.double_step && in_region rules.double_region side from.0 && is_at t (ahead (board_of rules) side from 2)

-- the square one step forward and 'dx' files to the right, as the side sees it
abbrev pub one_diagonal : Rules → Side → ℤ → Square → ℕ → Bool
one_diagonal rules side dx from t = is_at t (step_to (pawn_ray (board_of rules) side dx from) 1)

-- a pawn promotes on none of these squares
abbrev pub PromotesNowhere : Rules → Side → Set → Type 0
PromotesNowhere rules side squares = (t : ℕ) → t < 120 → has squares t ≡ true → may_promote rules side t ≡ false

-- the square is one of the spot's
abbrev pub in_spot : PawnSpot → ℕ → Bool
in_spot spot t = has spot.one t || has spot.two t || has spot.diagonals t

-- the sets are the squares of one step, of two and of the diagonals, and where it is plain a pawn promotes on none of
-- them
pub record IsPawnSpot (rules : Rules) (side : Side) (from : Square) (spot : PawnSpot) : Type 0 where
  pub one : (t : ℕ) → has spot.one t ≡ one_ahead rules side from t
  pub two : (t : ℕ) → has spot.two t ≡ two_ahead rules side from t
  pub diagonals : (t : ℕ) → has spot.diagonals t ≡ is_diagonal (board_of rules) side from t
  pub plain : OnTrue spot.plain ((t : ℕ) → t < 120 → in_spot spot t ≡ true → may_promote rules side t ≡ false)
