-- How far a search of a list of moves has come.
use Rattle.std.specs.Prelude.{◌≡◌, ℕ, ◌+◌, ◌≤◌, List, ◌∷◌, ◌++◌, filter, map, take, drop, sum_by, ℤ}
use Rattle.std.specs.List.Sorted.{IsPermutation}
use Rattle.foundation.specs.Member.{Lists}
use Rattle.rules_model.specs.declared.moves.Move.{Move}
use Rattle.rules_model.specs.Next.{captures}
use Rattle.legality.specs.Stance.{Stance, legal_in, repeat_in}
use Rattle.evaluation.specs.Laws.{Within}
use Rattle.evaluation.specs.Values.{greatest}
use Rattle.negamax.specs.declared.scored_moves.ScoredMove.{ScoredMove}
use Rattle.negamax.specs.Windows.{Bounds}

-- the legal moves that capture
abbrev pub captures_in : Stance → List Move
captures_in s = filter (captures s.rules (repeat_in s)) (legal_in s)

-- the moves of these candidates
abbrev pub moves_of : List ScoredMove → List Move
moves_of cs = map (λ c. c.chosen) cs

-- candidates of these moves were appended
pub record Copies (ms : List Move) (old new : List ScoredMove) : Type 0 where
  pub added : List ScoredMove
  pub is : new ≡ old ++ added
  pub are : moves_of added ≡ ms

-- candidates were appended, whose moves are exactly those that meet P, each once
pub record Pushes (P : Move → Type 0) (old new : List ScoredMove) : Type 0 where
  pub added : List ScoredMove
  pub is : new ≡ old ++ added
  pub each : Lists P (moves_of added)

-- the move of one candidate was taken from those after the first N, whose order may have changed
pub record Takes (first : ℕ) (old new : List ScoredMove) (m : Move) : Type 0 where
  pub taken : ScoredMove
  pub rest : List ScoredMove
  pub is : new ≡ take first old ++ rest
  pub are : IsPermutation (drop first old) (taken ∷ rest)
  pub chosen : m ≡ taken.chosen

-- What the best answer so far tells within the window, where v is the greatest of what was tried and of these scores.
pub record Trial {C : Type 0} (a b best v : ℤ) (score : C → ℤ) (rest : List C) : Type 0 where
  pub so_far : ℤ
  pub bounds : Bounds a b best so_far
  pub within : Within best
  pub value : greatest so_far score rest ≡ v

-- The nodes that were entered and those of the rest are together at most this many.
pub record Entered {W C : Type 0} (gone : W → W → ℕ → Type 0) (before now : W) (size : C → ℕ) (rest : List C)
    (most : ℕ) : Type 0 where
  pub nodes : ℕ
  pub went : gone before now nodes
  pub fits : nodes + sum_by size rest ≤ most
