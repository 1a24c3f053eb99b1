use Rattle.game_play.specs.Played.{story}
use Rattle.strategy_check.proofs.RowLemmas.{cut-repeated, cut-counted}
use Rattle.strategy_check.proofs.table.Table.is_cut.Goals as goal

pub returns-then-is_repeated : goal.returns-then-is_repeated
returns-then-is_repeated c =
    let t = c.args.self.now in
    cut-repeated t.game.now.rules t.attacker (story t.game.now) c.position-last.result.now c.position-last.ensures.is c.own_end.result c.own_end.ensures c.in-None.is c.is_repeated.result c.is_repeated.ensures c.if-is_repeated.true

pub returns-else-is_repeated : goal.returns-else-is_repeated
returns-else-is_repeated c =
    let t = c.args.self.now in
    cut-counted t.game.now.rules t.attacker (story t.game.now) c.position-last.result.now c.position-last.ensures.is c.own_end.result c.own_end.ensures c.in-None.is c.is_repeated.result c.is_run_out.result c.is_repeated.ensures c.if-is_repeated.false c.is_run_out.ensures
