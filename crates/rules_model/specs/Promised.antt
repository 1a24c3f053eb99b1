-- What is promised of the squares that pieces reach, of the legal moves of a sound position, and of the position after
-- one.
use Rattle.std.specs.Prelude.{◌≡◌, ℕ, Bool, true, Option, Some, None, List}
use Rattle.foundation.specs.Member.{Member}
use Rattle.rules_model.specs.declared.board.Cell.{Cell}
use Rattle.rules_model.specs.declared.board.Kind.{Kind}
use Rattle.rules_model.specs.declared.board.Position.{Position}
use Rattle.rules_model.specs.declared.board.Side.{Side}
use Rattle.rules_model.specs.declared.board.Square.{Square}
use Rattle.rules_model.specs.declared.moves.Move.{Move}
use Rattle.rules_model.specs.declared.moves.Move.TheVariants.{Go, Castle, Drop}
use Rattle.rules_model.specs.declared.moves.Placed.{Placed}
use Rattle.rules_model.specs.declared.moves.Promo.{Promo}
use Rattle.rules_model.specs.declared.moves.Promo.TheVariants.{Stays, Pawn, Plus}
use Rattle.rules_model.specs.declared.rules.Rules.{Rules}
use Rattle.rules_model.specs.declared.rules.Term.{Term}
use Rattle.rules_model.specs.Repeats.{repeat_of}
use Rattle.rules_model.specs.Kinds.{has_kind}
use Rattle.rules_model.specs.Movement.{kind_reaches}
use Rattle.rules_model.specs.Next.{next}
use Rattle.rules_model.specs.Legal.{legal}
use Rattle.rules_model.specs.Sound.{on_board, is_sound}

-- ---- squares of a variant

-- what a kind reaches, by whatever terms, is on the board
abbrev pub ReachStaysOnBoard : Rules → Type 0
ReachStaysOnBoard rules =
    (cells : List (Option Cell)) (side : Side) (kind : Kind) (test : Term → Bool) (from : Square) (s : ℕ)
    → kind_reaches rules cells side kind test from s ≡ true → on_board rules s ≡ true

-- ---- moves of a variant

abbrev pub IsSquareOf : Rules → Square → Type 0
IsSquareOf rules s = on_board rules s.0 ≡ true

abbrev pub IsKindOf : Rules → Kind → Type 0
IsKindOf rules kind = has_kind rules kind ≡ true

abbrev pub IsPromoOf : Rules → Promo → Type 0
IsPromoOf rules Stays = Unit {0}
IsPromoOf rules (Pawn kind) = IsKindOf rules kind
IsPromoOf rules Plus = Unit {0}

abbrev pub IsGateOf : Rules → Option Kind → Type 0
IsGateOf rules None = Unit {0}
IsGateOf rules (Some kind) = IsKindOf rules kind

abbrev pub IsPlacedOf : Rules → Option Placed → Type 0
IsPlacedOf rules None = Unit {0}
IsPlacedOf rules (Some placed) = IsKindOf rules placed.kind × IsSquareOf rules placed.at

-- its squares are on the variant's board, and its kinds are the variant's
abbrev pub IsMoveOf : Rules → Move → Type 0
IsMoveOf rules (Go from to promo gate) =
    IsSquareOf rules from × IsSquareOf rules to × IsPromoOf rules promo × IsGateOf rules gate
IsMoveOf rules (Castle from to rook gate) =
    IsSquareOf rules from × IsSquareOf rules to × IsSquareOf rules rook × IsPlacedOf rules gate
IsMoveOf rules (Drop kind to) = IsKindOf rules kind × IsSquareOf rules to

-- ---- soundness along a game

-- after each legal move of a sound position the position is sound
abbrev pub NextKeepsSound : Rules → Type 0
NextKeepsSound rules =
    (p : Position) (m : Move) → is_sound rules p ≡ true → Member m (legal rules (repeat_of p))
    → is_sound rules (next rules p m) ≡ true
