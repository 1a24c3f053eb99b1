-- Moves on the largest board, and their equality.
use Rattle.std.specs.Prelude.{◌<◌, Bool, true, false, ◌&&◌, ◌==◌, Option, Some, None}
use Rattle.rules_model.specs.declared.board.Kind.{Kind}
use Rattle.rules_model.specs.declared.moves.Move.{Move}
use Rattle.rules_model.specs.declared.moves.Move.TheVariants.{Go, Castle, Drop}
use Rattle.rules_model.specs.declared.moves.Placed.{Placed}
use Rattle.rules_model.specs.declared.moves.Promo.{Promo}
use Rattle.rules_model.specs.declared.moves.Promo.TheVariants.{Stays, Pawn, Plus}
use Rattle.rules_model.specs.Kinds.{same_kind}

abbrev pub IsFitPromo : Promo → Type 0
IsFitPromo Stays = Unit {0}
IsFitPromo (Pawn kind) = kind.0 < 26
IsFitPromo Plus = Unit {0}

abbrev pub IsFitGate : Option Kind → Type 0
IsFitGate None = Unit {0}
IsFitGate (Some kind) = kind.0 < 26

abbrev pub IsFitPlaced : Option Placed → Type 0
IsFitPlaced None = Unit {0}
IsFitPlaced (Some placed) = (placed.kind.0 < 26) × (placed.at.0 < 120)

-- its squares are on the largest board, and its kinds are letters
abbrev pub IsFitMove : Move → Type 0
IsFitMove (Go from to promo gate) = (from.0 < 120) × (to.0 < 120) × IsFitPromo promo × IsFitGate gate
IsFitMove (Castle from to rook gate) = (from.0 < 120) × (to.0 < 120) × (rook.0 < 120) × IsFitPlaced gate
IsFitMove (Drop kind to) = (kind.0 < 26) × (to.0 < 120)

abbrev pub same_promo : Promo → Promo → Bool
same_promo Stays Stays = true
same_promo Stays (Pawn b) = false
same_promo Stays Plus = false
same_promo (Pawn a) Stays = false
same_promo (Pawn a) (Pawn b) = a.0 == b.0
same_promo (Pawn a) Plus = false
same_promo Plus Stays = false
same_promo Plus (Pawn b) = false
same_promo Plus Plus = true

abbrev pub same_placed : Option Placed → Option Placed → Bool
same_placed None None = true
same_placed None (Some b) = false
same_placed (Some a) None = false
same_placed (Some a) (Some b) = (a.kind.0 == b.kind.0) && (a.at.0 == b.at.0)

-- the test of equality
unfoldable pub same_move : Move → Move → Bool
same_move (Go a b p g) (Go c d q h) = (a.0 == c.0) && ((b.0 == d.0) && (same_promo p q && same_kind g h))
same_move (Go a b p g) (Castle c d s h) = false
same_move (Go a b p g) (Drop k c) = false
same_move (Castle a b r g) (Go c d q h) = false
same_move (Castle a b r g) (Castle c d s h) = (a.0 == c.0) && ((b.0 == d.0) && ((r.0 == s.0) && same_placed g h))
same_move (Castle a b r g) (Drop k c) = false
same_move (Drop j a) (Go c d q h) = false
same_move (Drop j a) (Castle c d s h) = false
same_move (Drop j a) (Drop k c) = (j.0 == k.0) && (a.0 == c.0)
