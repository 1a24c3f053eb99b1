use Rattle.std.proofs.Common.{ap, ◌∙◌, not}
use Rattle.strategy_check.proofs.EdgeLemmas.{uncovered}
use Rattle.strategy_check.proofs.table.Table.is_bad_counter.Goals as goal

pub returns : goal.returns
returns c =
    ap not c.unwrap_or.ensures
    ∙ uncovered c.args.self.now.game.now.rules c.args.self.now.attacker c.args.self.now.nodes.now c.args.v.now c.args.steps c.requires.steps c.requires.right
