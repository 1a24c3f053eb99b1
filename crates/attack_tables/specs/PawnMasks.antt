-- Where the pawns of a side go from many squares at once, as far as the rules alone tell.
use Rattle.std.specs.Prelude.{◌≡◌, ◌≢◌, ℕ, ◌<◌, Bool, true, false, ◌&&◌, ◌||◌}
use Rattle.rules_model.specs.declared.board.Side.{Side}
use Rattle.rules_model.specs.declared.rules.Rules.{Rules}
use Rattle.rules_model.specs.Attacks.{is_diagonal}
use Rattle.rules_model.specs.Kinds.{board_of}
use Rattle.rules_model.specs.Pawns.{may_promote}
use Rattle.square_set.specs.Members.{has, leads, length_of, twice, OnSquares}
use Rattle.attack_tables.specs.declared.pawns.PawnMasks.{PawnMasks}
use Rattle.attack_tables.specs.PawnSpots.{one_ahead, two_ahead}

-- the square one step forward on a file beside
abbrev pub is_aside : Rules → Side → ℕ → ℕ → Bool
is_aside rules side from t = is_diagonal (board_of rules) side (record { 0 = from }) t

-- a pawn may go there from the square, as far as the rules alone tell
abbrev pub is_near : Rules → Side → ℕ → ℕ → Bool
is_near rules side from t =
    one_ahead rules side (record { 0 = from }) t
    || two_ahead rules side (record { 0 = from }) t
    || is_aside rules side from t

-- the sets and shifts tell where a pawn steps once from the square
abbrev pub TellsOne : Rules → Side → PawnMasks → ℕ → Type 0
TellsOne rules side masks s =
    (t : ℕ) → t < 120
    → one_ahead rules side (record { 0 = s }) t ≡ (has masks.once s && leads masks.ahead s t)

-- they tell where it steps twice from the square
abbrev pub TellsTwo : Rules → Side → PawnMasks → ℕ → Type 0
TellsTwo rules side masks s =
    (t : ℕ) → t < 120
    → two_ahead rules side (record { 0 = s }) t ≡ (has masks.twice s && leads (twice masks.ahead) s t)

-- they tell where it may take from the square
abbrev pub TellsAside : Rules → Side → PawnMasks → ℕ → Type 0
TellsAside rules side masks s =
    (t : ℕ) → t < 120
    → is_aside rules side s t
    ≡ ((has masks.left s && leads masks.leftward s t) || (has masks.right s && leads masks.rightward s t))

-- from the square a pawn promotes nowhere
abbrev pub PromotesNowhereFrom : Rules → Side → ℕ → Type 0
PromotesNowhereFrom rules side s =
    (t : ℕ) → t < 120 → is_near rules side s t ≡ true → may_promote rules side t ≡ false

-- from the square a pawn goes where the sets and shifts tell, and promotes nowhere
pub record Tells (rules : Rules) (side : Side) (masks : PawnMasks) (s : ℕ) : Type 0 where
  pub one : TellsOne rules side masks s
  pub two : TellsTwo rules side masks s
  pub aside : TellsAside rules side masks s
  pub promotes_nowhere : PromotesNowhereFrom rules side s

-- the shifts stay below the size of a set, the one ahead also where it is made twice; it leads to another square, and
-- those aside lead to two
pub record HasPawnShifts (masks : PawnMasks) : Type 0 where
  pub ahead_short : length_of masks.ahead < 64
  pub left_short : length_of masks.leftward < 128
  pub right_short : length_of masks.rightward < 128
  pub ahead_some : 0 < length_of masks.ahead
  pub aside_apart : length_of masks.leftward ≢ length_of masks.rightward

-- from each of the plain squares the sets and shifts tell where a pawn may go, and on none of the squares to which it
-- may go does it promote
pub record ArePawnMasks (rules : Rules) (side : Side) (masks : PawnMasks) : Type 0 where
  pub board : OnSquares masks.plain
  pub shifts : HasPawnShifts masks
  pub tells : (s : ℕ) → has masks.plain s ≡ true → Tells rules side masks s
