use Rattle.std.proofs.Common.{◌≡◌, drop}
use Rattle.strategy_check.specs.Rows.{fits_edge}
use Rattle.strategy_check.specs.Steps.{is_covered, run, steps}
use Rattle.strategy_check.proofs.table.Table.steps.Given as goal

abbrev pub invariant-loop-e : goal.invariant-loop-e
invariant-loop-e l =
    run (fits_edge l.self.game.now.rules l.self.attacker l.self.nodes.now l.v) (is_covered l.self.game.now.rules l.self.nodes.now l.v) l.covered (drop l.e-index l.e-items)
    ≡ steps l.self.game.now.rules l.self.attacker l.self.nodes.now l.v l.v.edges
