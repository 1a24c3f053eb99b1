-- What is known of the moves of a position.
use Rattle.std.specs.Prelude.{◌≡◌, ◌⊎◌, ℕ, ◌+◌, ◌-◌, List, [], ◌∷◌, ℤ, neg_ℤ, ◌<ℤ◌, ◌≤ℤ◌}
use Rattle.std.specs.Int.{int_max}
use Rattle.foundation.specs.Member.{Member}
use Rattle.rules_model.specs.declared.moves.Move.{Move}
use Rattle.rules_model.specs.declared.rules.Rules.{Rules}
use Rattle.rules_model.specs.Games.{Story, played}
use Rattle.evaluation.specs.Laws.{Within}
use Rattle.evaluation.specs.Values.{play, tree_size, value}
use Rattle.negamax.specs.declared.facts.Best.{Best}
use Rattle.negamax.specs.declared.facts.Fact.{Fact}
use Rattle.negamax.specs.Windows.{Bounds}

-- what a move scores at a depth, so many plies from the root
abbrev pub score_of : Rules → ℕ → ℕ → Story → Move → ℤ
score_of rules depth ply g m = neg_ℤ (value (play rules) (depth - 1) (ply + 1) (played rules g m))

-- the move scores at least the one value and at most the other
pub record IsTrueFact (rules : Rules) (depth ply : ℕ) (g : Story) (fact : Fact) : Type 0 where
  pub least : fact.least ≤ℤ score_of rules depth ply g fact.chosen
  pub most : score_of rules depth ply g fact.chosen ≤ℤ fact.most
  pub least_within : Within fact.least
  pub most_within : Within fact.most

-- how many lines a search of the move goes along at most
abbrev pub root_tree : Rules → ℕ → Story → Move → ℕ
root_tree rules depth g m = tree_size rules (depth + 3) (played rules g m)

-- the best is one of these moves, is above the floor, and scores at least its value
pub record Scores (rules : Rules) (depth ply : ℕ) (g : Story) (floor : ℤ) (moves : List Move) (best : Best) : Type 0 where
  pub root : Member best.chosen moves
  pub above : floor <ℤ best.value
  pub attained : best.value ≤ℤ score_of rules depth ply g best.chosen

-- the best has the move of before and is no better than that and the floor, or it is one of these moves
abbrev pub Chooses : Rules → ℕ → ℕ → Story → ℤ → List Move → Best → Best → Type 0
Chooses rules depth ply g floor moves before after =
    ((after.chosen ≡ before.chosen) × (after.value ≤ℤ int_max floor before.value))
    ⊎ Scores rules depth ply g floor moves after

-- one move more is settled within a window from a to b: what the best before tells of a value, the best tells of the
-- greater of that and of the move's score
pub record Settles (rules : Rules) (depth ply : ℕ) (g : Story) (a b : ℤ) (m : Move) (before after : Best) : Type 0 where
  pub within : Within after.value
  pub rises : before.value ≤ℤ after.value
  pub bounds : (v : ℤ) → Bounds a b before.value v → Bounds a b after.value (int_max v (score_of rules depth ply g m))
  pub chosen : Chooses rules depth ply g a (m ∷ []) before after
