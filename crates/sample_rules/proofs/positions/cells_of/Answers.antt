use Rattle.std.proofs.Common.{None, arith}
use Rattle.std.proofs.lemmas.List.FromFn.{fill_by_all}
use Rattle.sample_rules.specs.Positions.{cell_at, cells_of}
use Rattle.sample_rules.proofs.positions.cells_of.Goals as goal

pub returns : goal.returns
unfolding cells_of
returns c = fill_by_all (cell_at c.args.diagram.now) c.loop-at.cells 120 None c.loop-at.invariant.full (λ k h. c.loop-at.invariant.written k (omega arith))
