-- Laws of rays.
use Rattle.std.proofs.Common.{◌≡◌, ℕ, ◌+◌, ◌&&◌, Option, List, add-one, refl}
use Rattle.rules_model.specs.declared.board.Cell.{Cell}
use Rattle.rules_model.specs.declared.reach.Ray.{Ray}
use Rattle.rules_model.specs.declared.rules.Way.{Way}
use Rattle.rules_model.specs.Squares.{step_to}
use Rattle.rules_model.specs.Reach.{weight, blockers, passes, is_at, reaches_over}
use Rattle.foundation.proofs.CountLemmas.{any_below-zero, any_below-more}

pub blockers-zero : (cells : List (Option Cell)) (ray : Ray) → blockers cells ray 0 ≡ 0
unfolding blockers
blockers-zero cells ray = refl

pub blockers-more : (cells : List (Option Cell)) (ray : Ray) (k : ℕ) → blockers cells ray (k + 1) ≡ blockers cells ray k + weight cells (step_to ray (k + 1))
unfolding blockers
blockers-more cells ray k = rw add-one

pub reaches_over-is : (cells : List (Option Cell)) (way : Way) (ray : Ray) (to j : ℕ) → reaches_over cells way ray to j ≡ (is_at to (step_to ray (j + 1)) && passes cells way ray j)
unfolding reaches_over
reaches_over-is cells way ray to j = rw add-one

pub ruleset stepping = (blockers-zero, blockers-more, reaches_over-is, any_below-zero, any_below-more)
