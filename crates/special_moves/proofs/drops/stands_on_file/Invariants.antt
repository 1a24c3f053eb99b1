use Rattle.std.proofs.Common.{◌≡◌, false}
use Rattle.foundation.specs.Count.{any_below}
use Rattle.rules_model.specs.Drops.{stands_on}
use Rattle.special_moves.proofs.drops.stands_on_file.Given as goal

abbrev pub invariant-loop-rank : goal.invariant-loop-rank
invariant-loop-rank l = any_below (stands_on l.cells l.side l.kind l.file) l.rank ≡ false
