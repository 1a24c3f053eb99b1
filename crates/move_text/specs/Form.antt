-- The form that a move's text has, by the text alone and by the piece on its first square.
use Rattle.std.specs.Prelude.{◌≡◌, ◌⊎◌, ◌<◌, ◌≤◌, ℕ, nat_le, Bool, true, ◌&&◌, ◌==◌, is_some, if◌then◌else◌, length, List, [], ◌∷◌, ◌++◌}
use Rattle.std.specs.List.{list_all}
use Rattle.rules_model.specs.declared.board.Kind.{Kind}
use Rattle.rules_model.specs.declared.board.Position.{Position}
use Rattle.rules_model.specs.declared.board.Square.{Square}
use Rattle.rules_model.specs.declared.rules.Rules.{Rules}
use Rattle.rules_model.specs.Squares.{cell_at}
use Rattle.rules_model.specs.Kinds.{is_pawn, promoted_of}
use Rattle.rules_model.specs.Attacks.{is_own}
use Rattle.rules_model.specs.MoveText.{square_text}

-- ---- what may follow the two squares

-- so many lower-case letters at most
abbrev pub letters_at_most : ℕ → List ℕ → Bool
letters_at_most most ending = nat_le (length ending) most && list_all (λ b. nat_le 97 b && nat_le b 122) ending

-- `+` where the kind has a promoted kind, and then a letter at most
abbrev pub is_piece_ending : Rules → Kind → List ℕ → Bool
is_piece_ending rules kind [] = true
is_piece_ending rules kind (b ∷ bs) =
    if b == 43 then is_some (promoted_of rules kind) && letters_at_most 1 bs else letters_at_most 1 (b ∷ bs)

-- a promoted letter and a gated one for the pawn, and for other kinds `+` and a gated letter
abbrev pub is_ending : Rules → List ℕ → Kind → Bool
is_ending rules ending kind = if is_pawn rules kind then letters_at_most 2 ending else is_piece_ending rules kind ending

-- ---- the form

-- an upper-case letter, `@` and a square of the largest board
pub record IsDropText (text : List ℕ) (letter : ℕ) (to : Square) : Type 0 where
  pub letter_least : 65 ≤ letter
  pub letter_most : letter ≤ 90
  pub square : to.0 < 120
  pub written : text ≡ letter ∷ 64 ∷ square_text to

-- two squares of the largest board and what may follow them; an own piece stands on the first
pub record IsGoText (rules : Rules) (p : Position) (text : List ℕ) (from to : Square) (ending : List ℕ) : Type 0 where
  pub start : from.0 < 120
  pub target : to.0 < 120
  pub own : is_own p.side (is_ending rules ending) (cell_at p.cells from.0) ≡ true
  pub written : text ≡ square_text from ++ square_text to ++ ending

-- the text has the form of a drop, or that of a move of the own piece on its first square
abbrev pub HasForm : Rules → Position → List ℕ → Type 0
HasForm rules p text =
    ((letter : ℕ) × (to : Square) × IsDropText text letter to)
    ⊎ ((from : Square) × (to : Square) × (ending : List ℕ) × IsGoText rules p text from to ending)
