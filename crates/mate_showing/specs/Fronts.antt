-- In which order moves are tried.
use Rattle.std.specs.Prelude.{◌≡◌, ℕ, List, Option, Some, None, slice_get, if◌then◌else◌}
use Rattle.std.specs.List.{cons_option, remove}
use Rattle.foundation.specs.Member.{Member}
use Rattle.rules_model.specs.declared.moves.Move.{Move}
use Rattle.forced_wins.specs.declared.fact.Fact.{Fact}

-- the element at the place first, and the others in their order; as it was where nothing is at the place
abbrev pub with_first : {X : Type 0} → Option ℕ → List X → List X
with_first None xs = xs
with_first (Some at) xs = cons_option (slice_get xs at) (remove xs at)

-- it is first of the list, if it is one of all
abbrev pub ComesFirst : {X : Type 0} → List X → List X → X → Type 0
ComesFirst all xs x = Member x all → slice_get xs 0 ≡ Some x

-- the best move of a fact that wins
abbrev pub best_of_win : Option Fact → Option Move
best_of_win None = None
best_of_win (Some fact) = if fact.wins then fact.best else None
