-- What an edge leads to.
use Rattle.std.specs.Prelude.{ℕ, Bool, true, ◌&&◌, nat_le, List, Option, Some, None, slice_get, if◌then◌else◌}
use Rattle.std.specs.List.{list_all}
use Rattle.rules_model.specs.declared.board.Side.{Side}
use Rattle.rules_model.specs.declared.rules.Rules.{Rules}
use Rattle.rules_model.specs.Next.{next}
use Rattle.forced_wins.specs.Tables as Tables
use Rattle.forced_wins.specs.Tables.{leads}
use Rattle.strategy.specs.declared.nodes.Edge.{Edge}
use Rattle.strategy.specs.declared.nodes.Node.{Node}
use Rattle.strategy_check.specs.Rows.{fits_edge}

-- the next counter is not above that of the node to which the edge leads
abbrev pub is_covered : Rules → List Node → Node → Edge → Bool
is_covered rules s v e =
    leads (slice_get s e.to) (λ w. nat_le (next rules v.position e.chosen).counter w.position.counter)

-- the edge leads to a rank that may follow
abbrev pub falls : List Node → Bool → ℕ → Edge → Bool
falls s attacking rank e = leads (slice_get s e.to) (λ w. Tables.fits_rank attacking rank w.rank)

-- the same answer by any two tests, where the edges before are covered or not: none where one of the edges does not
-- fit, else whether each is covered
abbrev pub run : {E : Type 0} → (E → Bool) → (E → Bool) → Bool → List E → Option Bool
run fits covers before es = if list_all fits es then Some (before && list_all covers es) else None

-- none where the edge does not fit, else whether the next counter is covered
abbrev pub step : Rules → Side → List Node → Node → Edge → Option Bool
step rules a s v e = if fits_edge rules a s v e then Some (is_covered rules s v e) else None

-- the same for all of them
abbrev pub steps : Rules → Side → List Node → Node → List Edge → Option Bool
steps rules a s v es = run (fits_edge rules a s v) (is_covered rules s v) true es
