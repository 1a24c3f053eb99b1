-- The texts of moves as bytes (the long algebraic texts of the UCI protocol, with Fairy-Stockfish's drops and gates),
-- and their order.
use Rattle.std.specs.Prelude.{ℕ, ◌+◌, ◌/◌, ◌%◌, List, [], ◌∷◌, ◌++◌, nat_lt, ◌==◌, if◌then◌else◌, Option, Some, None}
use Rattle.std.specs.declared.cmp.Ordering.{Ordering}
use Rattle.std.specs.Ordering.{nat_cmp, ordering_then}
use Rattle.std.specs.Cmp.Lexicographic.{slice_cmp}
use Rattle.rules_model.specs.declared.board.Kind.{Kind}
use Rattle.rules_model.specs.declared.board.Square.{Square}
use Rattle.rules_model.specs.declared.moves.Move.{Move}
use Rattle.rules_model.specs.declared.moves.Move.TheVariants.{Go, Castle, Drop}
use Rattle.rules_model.specs.declared.moves.Placed.{Placed}
use Rattle.rules_model.specs.declared.moves.Promo.{Promo}
use Rattle.rules_model.specs.declared.moves.Promo.TheVariants.{Stays, Pawn, Plus}

-- a number below 100 in decimal digits
abbrev pub digits_of : ℕ → List ℕ
digits_of n = if nat_lt n 10 then (48 + n) ∷ [] else ((48 + n / 10) ∷ (48 + n % 10) ∷ [])

-- a file's letter and the number of a rank, counted from 1
abbrev pub square_text : Square → List ℕ
square_text s = (97 + s.0 % 12) ∷ digits_of (s.0 / 12 + 1)

abbrev pub lower : Kind → ℕ
lower kind = 97 + kind.0 % 26

abbrev pub upper : Kind → ℕ
upper kind = 65 + kind.0 % 26

abbrev pub promo_text : Promo → List ℕ
promo_text Stays = []
promo_text (Pawn kind) = lower kind ∷ []
promo_text Plus = 43 ∷ []

abbrev pub gate_text : Option Kind → List ℕ
gate_text None = []
gate_text (Some kind) = lower kind ∷ []

-- the king's start and target, and the kind gated on its start; gating on the rook's start is that start, the king's
-- and the kind
abbrev pub castle_text : Square → Square → Square → Option Placed → List ℕ
castle_text from to rook None = square_text from ++ square_text to
castle_text from to rook (Some placed) =
    if placed.at.0 == rook.0 then square_text rook ++ square_text from ++ (lower placed.kind ∷ [])
    else (square_text from ++ square_text to ++ (lower placed.kind ∷ []))

-- the text of a move
unfoldable pub text_of : Move → List ℕ
text_of (Go from to promo gate) = square_text from ++ square_text to ++ promo_text promo ++ gate_text gate
text_of (Castle from to rook gate) = castle_text from to rook gate
text_of (Drop kind to) = upper kind ∷ 64 ∷ square_text to

abbrev pub promo_parts : Promo → List ℕ
promo_parts Stays = 0 ∷ 0 ∷ []
promo_parts (Pawn kind) = 1 ∷ kind.0 ∷ []
promo_parts Plus = 2 ∷ 0 ∷ []

abbrev pub gate_parts : Option Kind → List ℕ
gate_parts None = []
gate_parts (Some kind) = kind.0 ∷ []

abbrev pub placed_parts : Option Placed → List ℕ
placed_parts None = []
placed_parts (Some placed) = placed.kind.0 ∷ placed.at.0 ∷ []

-- the parts of a move in order
unfoldable pub order_parts : Move → List ℕ
order_parts (Go from to promo gate) = 0 ∷ from.0 ∷ to.0 ∷ (promo_parts promo ++ gate_parts gate)
order_parts (Castle from to rook gate) = 1 ∷ from.0 ∷ to.0 ∷ rook.0 ∷ placed_parts gate
order_parts (Drop kind to) = 2 ∷ kind.0 ∷ to.0 ∷ []

-- the byte order of the texts. Moves of one text, which no position has together, stand in the order of their parts: so
-- the order is total over all moves
unfoldable pub move_cmp : Move → Move → Ordering
move_cmp x y =
    ordering_then (slice_cmp nat_cmp (text_of x) (text_of y)) (slice_cmp nat_cmp (order_parts x) (order_parts y))
