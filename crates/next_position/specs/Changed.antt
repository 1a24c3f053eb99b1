-- What a move changes of a board and of hands.
use Rattle.std.specs.Prelude.{◌≡◌, ℕ, Bool, true, false, ◌&&◌, ◌||◌, is_some, List, Option}
use Rattle.std.specs.Bool.{OnFalse}
use Rattle.rules_model.specs.declared.board.Cell.{Cell}
use Rattle.rules_model.specs.declared.board.Position.{Position}
use Rattle.rules_model.specs.declared.moves.Move.{Move}
use Rattle.rules_model.specs.declared.moves.Move.TheVariants.{Go, Castle, Drop}
use Rattle.rules_model.specs.declared.rules.Rules.{Rules}
use Rattle.rules_model.specs.Hands.{hand_of}
use Rattle.rules_model.specs.Sides.{other}
use Rattle.rules_model.specs.Squares.{cell_at}
use Rattle.next_position.specs.declared.written.Writes.{Writes}
use Rattle.square_set.specs.declared.Set.{Set}
use Rattle.square_set.specs.Members.{has}

-- the two boards have the same on each square that is not in the set
abbrev pub AgreeOutside : Set → List (Option Cell) → List (Option Cell) → Type 0
AgreeOutside touched before next = (s : ℕ) → has touched s ≡ false → cell_at before s ≡ cell_at next s

-- the second position has the board of the first outside the squares, the hand of the side that was not to move, and
-- both hands unless one may change
pub record Covers (touched : Writes) (before next : Position) : Type 0 where
  pub squares : AgreeOutside touched.squares before.cells next.cells
  pub hands : OnFalse touched.hands (next.hands ≡ before.hands)
  pub other_hand : hand_of next.hands (other before.side) ≡ hand_of before.hands (other before.side)

-- the new set has the squares of the old one, and others perhaps
abbrev pub HasAllOf : Set → Set → Type 0
HasAllOf old new = (s : ℕ) → has old s ≡ true → has new s ≡ true

-- the move takes this, by rules that put what is taken into a hand, or it drops or places a piece
abbrev pub changes_hands : Rules → Option Cell → Move → Bool
changes_hands rules taken (Go from to promo gate) = rules.to_hand && is_some taken || is_some gate
changes_hands rules taken (Castle from to rook gate) = is_some gate
changes_hands rules taken (Drop kind to) = true
