-- Squares from which moves that are asked for may come.
use Rattle.std.specs.Prelude.{◌≡◌, ℕ, true, false, None, Option, List}
use Rattle.rules_model.specs.declared.board.Cell.{Cell}
use Rattle.rules_model.specs.declared.board.Kind.{Kind}
use Rattle.rules_model.specs.declared.board.Repeat.{Repeat}
use Rattle.rules_model.specs.declared.board.Side.{Side}
use Rattle.rules_model.specs.declared.board.Square.{Square}
use Rattle.rules_model.specs.declared.moves.Move.{Move}
use Rattle.rules_model.specs.declared.rules.Rules.{Rules}
use Rattle.rules_model.specs.Kinds.{promoted_of}
use Rattle.square_set.specs.declared.Set.{Set}
use Rattle.square_set.specs.Members.{has}
use Rattle.move_tables.specs.Occupied.{IsOccupied}
use Rattle.attack_tables.specs.Goals.{is_goal}
use Rattle.piece_moves.specs.InTurn.{start_of}
use Rattle.piece_moves.specs.Parts.{FitPieceMoves}
use Rattle.legality.specs.declared.asked.Asked.{Asked}
use Rattle.legality.specs.Asking.{is_asked, is_to}

-- on each board with these occupied squares, no goal is outside the set
abbrev pub HasGoals : Rules → Side → Kind → Square → Set → Set → Set → Type 0
HasGoals rules side kind from occupied enemies set =
    (cells : List (Option Cell)) → IsOccupied occupied cells → (t : ℕ) → has set t ≡ false
    → is_goal rules cells side kind from occupied enemies t ≡ false

-- the kind does not promote, and on each board with these sets none of its goals is one of the kind's squares
pub record GoesInVain (asked : Asked) (rules : Rules) (side : Side) (kind : Kind) (from : Square)
    (occupied enemies : Set) : Type 0 where
  pub stays : promoted_of rules kind ≡ None
  pub misses :
      (cells : List (Option Cell)) → IsOccupied occupied cells → (t : ℕ)
      → is_goal rules cells side kind from occupied enemies t ≡ true → is_to asked kind t ≡ false

-- no ordinary move from the square is asked for
abbrev pub AsksNoneFrom : Asked → Rules → Repeat → ℕ → Type 0
AsksNoneFrom asked rules r from =
    (m : Move) → FitPieceMoves rules r m → start_of m ≡ from → is_asked asked r m ≡ false

-- no ordinary move from outside the set is
abbrev pub HasAskedStarts : Asked → Rules → Repeat → Set → Type 0
HasAskedStarts asked rules r set =
    (m : Move) → FitPieceMoves rules r m → has set (start_of m) ≡ false → is_asked asked r m ≡ false
