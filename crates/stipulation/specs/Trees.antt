-- The tree of a certificate, by its steps in preorder. Earlier steps are listed from the latest on.
use Rattle.std.specs.Prelude.{ℕ, ◌+◌, ◌-◌, ◌==◌, nat_lt, List, [], ◌∷◌, if◌then◌else◌}
use Rattle.rules_model.specs.declared.moves.Move.{Move}
use Rattle.forced_wins.specs.Contests.{Contest}
use Rattle.stipulation.specs.declared.cert.Step.{Step}

-- the game of the last of the earlier steps of the ply, which is its parent's game and its move; the root where there
-- is none
unfoldable pub game_at : {X : Type 0} → Contest X Move → X → List Step → ℕ → X
game_at c root [] ply = root
game_at c root (s ∷ earlier) ply =
    if s.ply == ply then c.after (game_at c root earlier (s.ply - 1)) s.chosen else game_at c root earlier ply

-- the parent of a step of the ply is the last earlier step of the ply before
abbrev pub parent_game : {X : Type 0} → Contest X Move → X → List Step → ℕ → X
parent_game c root earlier ply = game_at c root earlier (ply - 1)

-- the moves of the steps of the ply, up to the first step of a lower one
unfoldable pub moves_at : ℕ → List Step → List Move
moves_at ply [] = []
moves_at ply (s ∷ steps) =
    if nat_lt s.ply ply then [] else if s.ply == ply then s.chosen ∷ moves_at ply steps else moves_at ply steps

-- the moves of the earlier steps with the parent of a step of this ply: going back, the first step of a lower ply is
-- that parent
abbrev pub siblings : List Step → ℕ → List Move
siblings earlier ply = moves_at ply earlier

-- the moves of the children of a step of this ply, among the steps after it: the next step of its ply or a lower one is
-- no child, and nor is one after that
abbrev pub children : ℕ → List Step → List Move
children ply later = moves_at (ply + 1) later
