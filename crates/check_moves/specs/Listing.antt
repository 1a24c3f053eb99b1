-- A list that has each move that gives check.
use Rattle.std.specs.Prelude.{◌≡◌, ◌⊎◌, ℕ, ◌<◌, ◌==◌, true, false, Option, Some, None, List, ◌++◌, slice_index_or, ⊤}
use Rattle.foundation.specs.Member.{Member, IsEachOnce}
use Rattle.rules_model.specs.declared.board.Side.{Side}
use Rattle.rules_model.specs.declared.moves.Move.{Move}
use Rattle.rules_model.specs.declared.rules.Rules.{Rules}
use Rattle.rules_model.specs.Legal.{gives_check}
use Rattle.rules_model.specs.Pawns.{is_ep}
use Rattle.square_set.specs.declared.Set.{Set}
use Rattle.square_set.specs.Members.{has}
use Rattle.attack_tables.specs.Masks.{NeverTakes}
use Rattle.pins.specs.Guards.{IsMoved}
use Rattle.legality.specs.declared.asked.Asked.{Asked}
use Rattle.legality.specs.Stance.{Stance, legal_in, repeat_in}
use Rattle.check_moves.specs.declared.checks.Checks.{Checks}
use Rattle.check_moves.specs.declared.flights.Flight.{Flight}
use Rattle.check_moves.specs.Flights.{IsFlight, IsLeap, IsMet}

-- from a square outside the set a piece of the kind takes on none of the kings' squares
abbrev pub AreTakers : Rules → Side → ℕ → Set → Set → Type 0
AreTakers rules by kind kings takers =
    (king : ℕ) → has kings king ≡ true → (from : ℕ) → from < 120 → has takers from ≡ false → NeverTakes rules by kind from king

-- from the square a piece of the kind takes on none of the kings' squares
abbrev pub TakesNone : Rules → Side → ℕ → Set → ℕ → Type 0
TakesNone rules by kind kings from = (king : ℕ) → has kings king ≡ true → NeverTakes rules by kind from king

-- the square is on the board, and the set has no other
abbrev pub IsOnlyOf : Set → ℕ → Type 0
IsOnlyOf squares at = (at < 120) × ((s : ℕ) → has squares s ≡ true → s ≡ at)

-- the occupied squares after a piece went from the one square to the other
pub record MovedSet (old : Set) (from to : ℕ) : Type 0 where
  pub set : Set
  pub is : IsMoved old from to set

abbrev pub MakesSets : Set → Type 0
MakesSets old = (from to : ℕ) → from < 128 → to < 128 → MovedSet old from to

-- a leap of the king, which a move must close in order to mate
pub record IsToClose (s : Stance) (step : Flight) : Type 0 where
  pub flight : IsFlight s step
  pub leap : IsLeap s step
  pub uncounted : s.rules.check_counting ≡ false
  pub sets : MakesSets step.stepped

-- there is such a step, and a piece of the kind that comes to the square does not close it by that
abbrev pub IsApart : Stance → Option Flight → ℕ → ℕ → Type 0
IsApart s None kind to = ⊥
IsApart s (Some flight) kind to =
    ((to == flight.king.at) ≡ false) × (has flight.target to ≡ false)
    × NeverTakes s.rules s.position.side kind to flight.to

-- if there is one, a piece that leaves the square does not close it by that
abbrev pub IsLeft : Option Flight → ℕ → Type 0
IsLeft None from = ⊤
IsLeft (Some flight) from =
    ((from == flight.king.at) ≡ false) × (has flight.target from ≡ false) × (has flight.shut from ≡ true)

-- a piece of the kind that comes to the square, which is not that of en passant, gives no check by that, or does not
-- close the step
abbrev pub ComesInVain : Stance → Checks → Option Flight → ℕ → ℕ → Type 0
ComesInVain s checks step kind to =
    (is_ep s.position.ep to ≡ false)
    × (TakesNone s.rules s.position.side kind checks.kings to ⊎ IsApart s step kind to)

-- what is asked for leaves an open square, or comes to one where it may give check and close the step, or to that of en
-- passant
pub record IsAskedOf (s : Stance) (checks : Checks) (step : Option Flight) (asked : Asked) : Type 0 where
  pub shut : (from : ℕ) → has asked.shut from ≡ true → has checks.shut from ≡ true
  pub left : (from : ℕ) → has asked.shut from ≡ true → IsLeft step from
  pub kinds : (kind : ℕ) → kind < 26 → (d : Set) → (to : ℕ) → to < 120
      → has (slice_index_or asked.to kind d) to ≡ false → ComesInVain s checks step kind to

-- the move may mate, or win as the last check: it gives check, and where checks are not counted leaves no legal reply
-- that is known
pub record MayMate (s : Stance) (m : Move) : Type 0 where
  pub checks : gives_check s.rules (repeat_in s) m ≡ true
  pub unmet : s.rules.check_counting ≡ false → IsMet s m → ⊥

-- legal moves, each once, and among them each that may mate
pub record ListsChecks (s : Stance) (ms : List Move) : Type 0 where
  pub once : IsEachOnce ms
  pub sound : (m : Move) → Member m ms → Member m (legal_in s)
  pub complete : (m : Move) → Member m (legal_in s) → MayMate s m → Member m ms

-- these were appended
pub record AppendsChecks (s : Stance) (old new : List Move) : Type 0 where
  pub added : List Move
  pub is : new ≡ old ++ added
  pub each : ListsChecks s added
