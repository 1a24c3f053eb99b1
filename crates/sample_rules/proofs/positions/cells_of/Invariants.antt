-- the pieces so far stand
use Rattle.std.proofs.Common.{◌≡◌, ℕ, ◌<◌, None, length, get_or}
use Rattle.sample_rules.specs.Positions.{cell_at}
use Rattle.sample_rules.proofs.positions.cells_of.Given as goal

abbrev pub invariant-loop-at : goal.invariant-loop-at
invariant-loop-at l = record { full : length l.cells ≡ 120; written : (k : ℕ) → k < l.at → get_or l.cells k None ≡ cell_at l.diagram k }
