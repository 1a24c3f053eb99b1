use Rattle.std.proofs.Common.{ap, sym, ◌∙◌, arith}
use Rattle.game_play.specs.Played.{story}
use Rattle.strategy.specs.declared.nodes.Node.{Node}
use Rattle.strategy_check.specs.Rows.{node_verdict}
use Rattle.strategy_check.specs.Verdicts.{as_verdict}
use Rattle.strategy_check.proofs.RowLemmas.{nodes-fault, nodes-later, nodes-end}
use Rattle.strategy_check.proofs.table.Table.nodes_verdict.Goals as goal

pub returns-in_default : goal.returns-in_default
returns-in_default c =
    let t = c.args.self.now in
    let g = story t.game.now in
    let i = c.loop-i.i in
    nodes-fault t.game.now.rules t.attacker t.nodes.now g i c.v-item.result (omega arith) c.in_ok-fault.fault
    (c.in_ok-fault.ensures ∙ ap (λ (v : Node). as_verdict (node_verdict t.game.now.rules t.attacker t.nodes.now g i v)) c.v-item.is)
    c.in_default.not-Wins
    ∙ ap as_verdict c.loop-i.invariant

pub loop-i-preserved : goal.loop-i-preserved
loop-i-preserved c =
    let t = c.args.self.now in
    let g = story t.game.now in
    let i = c.loop-i.i in
    sym (nodes-later t.game.now.rules t.attacker t.nodes.now g i c.v-item.result (omega arith) c.in_ok-fault.fault
    (c.in_ok-fault.ensures ∙ ap (λ (v : Node). as_verdict (node_verdict t.game.now.rules t.attacker t.nodes.now g i v)) c.v-item.is)
    c.in-Wins.is)
    ∙ c.loop-i.invariant

pub returns : goal.returns
returns c =
    let t = c.args.self.now in
    ap as_verdict (sym (nodes-end t.game.now.rules t.attacker t.nodes.now (story t.game.now) c.loop-i.i (omega arith)) ∙ c.loop-i.invariant)
