use Rattle.std.proofs.Common.{◌≤◌, ◌++◌, length, sym, ap, ◌∙◌, arith}
use Rattle.std.proofs.lemmas.Grind.{common_steps}
use Rattle.strategy.specs.declared.nodes.Node.{Node}
use Rattle.strategy.specs.Writing.{ended_lines, node_texts}
use Rattle.strategy.proofs.WriteLemmas.{nodes-last, nodes-more}
use Rattle.strategy.proofs.writing.push_nodes.Goals as goal

pub loop-number-preserved : goal.loop-number-preserved
loop-number-preserved c =
    c.loop-number.invariant
    ∙ nodes-more c.args.rules.now c.args.nodes.now c.loop-number.number c.index-nodes-number.result c.loop-number.text.items c.push_node.new.text.items (grind (arith, common_steps))
    (c.in_ok-push_node.ensures ∙ ap (λ (v : Node). c.loop-number.text.items ++ ended_lines (node_texts c.args.rules.now c.loop-number.number v)) c.index-nodes-number.is)

pub returns : goal.returns
returns c =
    let all : length c.args.nodes.now ≤ c.loop-number.number = grind (arith, common_steps) in
    sym (c.loop-number.invariant ∙ nodes-last c.args.rules.now c.args.nodes.now c.loop-number.number c.loop-number.text.items all)
