-- Moves that are given square by square, over the squares of a set.
use Rattle.std.specs.Prelude.{◌≡◌, ℕ, true, false, Option, None}
use Rattle.rules_model.specs.declared.board.Kind.{Kind}
use Rattle.rules_model.specs.declared.board.Square.{Square}
use Rattle.rules_model.specs.declared.moves.Move.{Move}
use Rattle.rules_model.specs.declared.moves.Move.TheVariants.{Go, Castle, Drop}
use Rattle.rules_model.specs.declared.moves.Promo.TheVariants.{Stays}
use Rattle.square_set.specs.declared.Set.{Set}
use Rattle.square_set.specs.declared.Shift.{Shift}
use Rattle.square_set.specs.Members.{has, origin}

-- where the move's piece comes from: a drop's from its square
abbrev pub start_of : Move → ℕ
start_of (Go from to promo gate) = from.0
start_of (Castle from to rook gate) = from.0
start_of (Drop kind to) = to.0

-- where it goes
abbrev pub target_of : Move → ℕ
target_of (Go from to promo gate) = to.0
target_of (Castle from to rook gate) = to.0
target_of (Drop kind to) = to.0

-- those of the one square
abbrev pub At : (Move → Type 0) → (Move → ℕ) → ℕ → Move → Type 0
At P square s m = P m × (square m ≡ s)

-- those of the squares that are not left
abbrev pub Outside : (Move → Type 0) → (Move → ℕ) → Set → Move → Type 0
Outside P square left m = P m × (has left (square m) ≡ false)

-- the moves to the squares of a set, each as it is made of its square
abbrev pub MadeTo : (Square → Move) → Set → Move → Type 0
MadeTo make targets m = (make (record { 0 = target_of m }) ≡ m) × (has targets (target_of m) ≡ true)

-- the move to a square of the piece on the square at which it starts, which becomes nothing else and places this there
abbrev pub go_from : (ℕ → Square) → Option Kind → Square → Move
go_from start gate to = Go (start to.0) to Stays gate

-- those to the squares of a set
abbrev pub GoesFrom : (ℕ → Square) → Option Kind → Set → Move → Type 0
GoesFrom start gate = MadeTo (go_from start gate)

-- the moves of the piece on a square to the squares of a set
abbrev pub GoesTo : Square → Option Kind → Set → Move → Type 0
GoesTo from gate = GoesFrom (λ to. from) gate

-- the moves by a shift to the squares of a set, which place nothing
abbrev pub GoesBy : Shift → Set → Move → Type 0
GoesBy shift = GoesFrom (λ to. record { 0 = origin shift to }) None

-- the drops of a kind on the squares of a set
abbrev pub DropsOf : Kind → Set → Move → Type 0
DropsOf kind = MadeTo (Drop kind)
