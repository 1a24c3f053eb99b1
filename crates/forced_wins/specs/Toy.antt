-- A toy game on numbered spots, small enough to compute: on some spots the attacker is to move, on others the other
-- side.
use Rattle.std.specs.Prelude.{ℕ, ◌+◌, ◌==◌, List, [], ◌∷◌, Bool, true, false, not, ◌&&◌, ◌||◌, if◌then◌else◌, Option, Some, None}
use Rattle.foundation.specs.Tests.{same_bool, is_nil}
use Rattle.forced_wins.specs.Games.{Game, Story}
use Rattle.forced_wins.specs.PlainTables.{Edge, Node}

-- a spot, and whether the attacker is to move there
pub record Spot : Type 0 where
  pub attacking : Bool
  pub number : ℕ

pub record Place : Type 0 where
  pub spot : Spot
  pub counter : ℕ

-- where the attacker can go from his spots
abbrev pub own_roads : ℕ → List ℕ
own_roads n =
    if n == 0 then 1 ∷ 2 ∷ [] else if n == 5 then 2 ∷ [] else if n == 6 then 7 ∷ [] else if n == 10 then 11 ∷ []
    else if (n == 3) || ((n == 4) || (n == 8)) then 9 ∷ [] else []

-- where the other side can go from its spots: from 11 it may escape to 14
abbrev pub other_roads : ℕ → List ℕ
other_roads n = if n == 1 then 3 ∷ 4 ∷ [] else if n == 7 then 8 ∷ [] else if n == 11 then 3 ∷ 14 ∷ [] else []

abbrev pub roads : Spot → List ℕ
roads s = if s.attacking then own_roads s.number else other_roads s.number

-- on spot 9 the attacker has won; on every other spot without a road, as 2, it is a stalemate, which is no win
abbrev pub end_of : Bool → ℕ → Option Bool
end_of true n = Some (n == 9)
end_of false n = None

-- a move is the number of the next spot, and every move is a quiet ply
abbrev pub toy : ℕ → ℕ → Game Place Spot ℕ
toy fold limit = record {
  repeat = λ p. p.spot;
  same = λ a b. same_bool a.attacking b.attacking && (a.number == b.number);
  same_move = λ m n. m == n;
  counter = λ p. p.counter;
  own = λ p. end_of (is_nil (roads p.spot)) p.spot.number;
  attacking = λ p. p.spot.attacking;
  legal = λ p. roads p.spot;
  next = λ p m. record { spot = record { attacking = not p.spot.attacking; number = m }; counter = p.counter + 1 };
  fold = fold;
  limit = limit;
}

abbrev pub place : Bool → ℕ → ℕ → Place
place attacking number counter = record { spot = record { attacking = attacking; number = number }; counter = counter }

-- a game that begins with the attacker on the spot
abbrev pub from : ℕ → ℕ → Story Place
from number counter = record { earlier = []; last = place true number counter }

abbrev pub edge : ℕ → ℕ → Edge ℕ
edge chosen to = record { chosen = chosen; to = to }

abbrev pub node : Place → ℕ → List (Edge ℕ) → Node Place ℕ
node position rank edges = record { position = position; rank = rank; edges = edges }

-- ---- a win in two from spot 0

abbrev pub good_table : List (Node Place ℕ)
good_table =
    node (place true 0 0) 2 (edge 1 1 ∷ [])
    ∷ node (place false 1 1) 1 (edge 3 2 ∷ edge 4 3 ∷ [])
    ∷ node (place true 3 2) 1 (edge 9 4 ∷ [])
    ∷ node (place true 4 2) 1 (edge 9 4 ∷ [])
    ∷ node (place false 9 3) 0 []
    ∷ []

-- ---- tables with one fault each, for games that are not won

-- the attacker leaves the trap at spot 5 by a road that is not there
abbrev pub wrong_move_table : List (Node Place ℕ)
wrong_move_table = node (place true 5 0) 1 (edge 9 1 ∷ []) ∷ node (place false 9 1) 0 [] ∷ []

-- the escape from spot 11 is left out
abbrev pub missing_reply_table : List (Node Place ℕ)
missing_reply_table =
    node (place true 10 0) 2 (edge 11 1 ∷ [])
    ∷ node (place false 11 1) 1 (edge 3 2 ∷ [])
    ∷ node (place true 3 2) 1 (edge 9 3 ∷ [])
    ∷ node (place false 9 3) 0 []
    ∷ []

-- the first move does not lower the rank: a win in two as one in one
abbrev pub bad_rank_table : List (Node Place ℕ)
bad_rank_table =
    node (place true 0 0) 1 (edge 1 1 ∷ [])
    ∷ node (place false 1 1) 1 (edge 3 2 ∷ edge 4 3 ∷ [])
    ∷ node (place true 3 2) 1 (edge 9 4 ∷ [])
    ∷ node (place true 4 2) 1 (edge 9 4 ∷ [])
    ∷ node (place false 9 3) 0 []
    ∷ []

-- the nodes after the root speak for lower counters than play reaches
abbrev pub bad_counter_table : List (Node Place ℕ)
bad_counter_table =
    node (place true 0 1) 2 (edge 1 1 ∷ [])
    ∷ node (place false 1 1) 1 (edge 3 2 ∷ edge 4 3 ∷ [])
    ∷ node (place true 3 2) 1 (edge 9 4 ∷ [])
    ∷ node (place true 4 2) 1 (edge 9 4 ∷ [])
    ∷ node (place false 9 3) 0 []
    ∷ []

-- the attacker walks into the stalemate
abbrev pub not_won_table : List (Node Place ℕ)
not_won_table = node (place true 5 0) 1 (edge 2 1 ∷ []) ∷ node (place false 2 1) 0 [] ∷ []

-- ---- a table of a win that is refused all the same

-- spot 9 has two nodes of one counter
abbrev pub repeats_table : List (Node Place ℕ)
repeats_table =
    node (place true 0 0) 2 (edge 1 1 ∷ [])
    ∷ node (place false 1 1) 1 (edge 3 2 ∷ edge 4 3 ∷ [])
    ∷ node (place true 3 2) 1 (edge 9 4 ∷ [])
    ∷ node (place true 4 2) 1 (edge 9 5 ∷ [])
    ∷ node (place false 9 3) 0 []
    ∷ node (place false 9 3) 0 []
    ∷ []

-- ---- a win in two from spot 6, over the spots 7 and 8

abbrev pub over_seven_table : List (Node Place ℕ)
over_seven_table =
    node (place true 6 0) 2 (edge 7 1 ∷ [])
    ∷ node (place false 7 1) 1 (edge 8 2 ∷ [])
    ∷ node (place true 8 2) 1 (edge 9 3 ∷ [])
    ∷ node (place false 9 3) 0 []
    ∷ []

-- the game in which spot 7 has stood already
abbrev pub seven_stood : Story Place
seven_stood = record { earlier = place false 7 0 ∷ []; last = place true 6 0 }
