-- Sets without some squares, and with what stands on one of them.
use Rattle.std.specs.Prelude.{◌≡◌, ℕ, Bool, true, false, not, ◌&&◌, ◌||◌, ◌==◌, Option, Some, None}
use Rattle.rules_model.specs.declared.board.Cell.{Cell}
use Rattle.rules_model.specs.declared.board.Kind.{Kind}
use Rattle.rules_model.specs.declared.board.Side.{Side}
use Rattle.rules_model.specs.declared.board.Square.{Square}
use Rattle.rules_model.specs.declared.rules.Rules.{Rules}
use Rattle.rules_model.specs.Attacks.{is_own, is_own_king}
use Rattle.rules_model.specs.Kinds.{is_king, is_pawn}
use Rattle.rules_model.specs.Sides.{other}
use Rattle.square_set.specs.declared.Set.{Set}
use Rattle.square_set.specs.Members.{has, IsWith}
use Rattle.next_position.specs.declared.written.OnePut.{OnePut}
use Rattle.board_sets.specs.declared.sets.BoardSets.{BoardSets}
use Rattle.board_sets.specs.Sets.{is_any_pawn}

-- the new set has the squares of the old one, and this one besides where it is wanted
abbrev pub IsWithIf : Set → ℕ → Bool → Set → Type 0
IsWithIf old at wanted new = (s : ℕ) → has new s ≡ (has old s || (wanted && (s == at)))

-- the square is in each of the sets to which what stands there belongs
pub record AreWith (rules : Rules) (side : Side) (old : BoardSets) (at : ℕ) (cell : Option Cell)
    (new : BoardSets) : Type 0 where
  pub own : IsWithIf old.own at (is_own side (λ kind. true) cell) new.own
  pub enemies : IsWithIf old.enemies at (is_own (other side) (λ kind. true) cell) new.enemies
  pub kings : IsWithIf old.kings at (is_own_king rules side cell) new.kings
  pub enemy_kings : IsWithIf old.enemy_kings at (is_own_king rules (other side) cell) new.enemy_kings
  pub pawns : IsWithIf old.pawns at (is_any_pawn rules cell) new.pawns

-- the square is in each of the sets to which an own piece of the kind belongs, and the others are as they were
pub record AreWithOwn (rules : Rules) (old : BoardSets) (at : ℕ) (kind : Kind) (new : BoardSets) : Type 0 where
  pub own : IsWith old.own at new.own
  pub enemies : new.enemies ≡ old.enemies
  pub kings : IsWithIf old.kings at (is_king rules kind) new.kings
  pub enemy_kings : new.enemy_kings ≡ old.enemy_kings
  pub pawns : IsWithIf old.pawns at (is_pawn rules kind) new.pawns

-- the same of a piece of the other side
pub record AreWithEnemy (rules : Rules) (old : BoardSets) (at : ℕ) (kind : Kind) (new : BoardSets) : Type 0 where
  pub own : new.own ≡ old.own
  pub enemies : IsWith old.enemies at new.enemies
  pub kings : new.kings ≡ old.kings
  pub enemy_kings : IsWithIf old.enemy_kings at (is_king rules kind) new.enemy_kings
  pub pawns : IsWithIf old.pawns at (is_pawn rules kind) new.pawns

-- the square is the one that is left
abbrev pub is_left : Option Square → ℕ → Bool
is_left None s = false
is_left (Some from) s = s == from.0

-- the set has the squares that are written, and no other
abbrev pub IsWritten : OnePut → Set → Type 0
IsWritten put set = (s : ℕ) → has set s ≡ ((s == put.at.0) || is_left put.left s)

-- the new set has the squares of the old one that are not among these
abbrev pub IsMinus : Set → Set → Set → Type 0
IsMinus old squares new = (s : ℕ) → has new s ≡ (has old s && not (has squares s))

-- none of the squares is in any of the sets
pub record AreMinus (old : BoardSets) (squares : Set) (new : BoardSets) : Type 0 where
  pub own : IsMinus old.own squares new.own
  pub enemies : IsMinus old.enemies squares new.enemies
  pub kings : IsMinus old.kings squares new.kings
  pub enemy_kings : IsMinus old.enemy_kings squares new.enemy_kings
  pub pawns : IsMinus old.pawns squares new.pawns
