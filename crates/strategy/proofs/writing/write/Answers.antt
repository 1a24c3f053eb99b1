use Rattle.std.proofs.Common.{◌≡◌, ◌++◌, ◌<◌, ◌^◌, length, Ok, ap, sym, subst, ◌∙◌, arith}
use Rattle.io_ports.specs.Lines.{lines_of}
use Rattle.strategy.specs.Reading.{strategy_of}
use Rattle.strategy.proofs.LineLaws.{strategy-back}
use Rattle.strategy.specs.declared.nodes.Node.{Node}
use Rattle.strategy.specs.Writing.{ended_lines, nodes_texts}
use Rattle.std.specs.Prelude.{List}
use Rattle.strategy.proofs.WriteLemmas.{strategy-pushed}
use Rattle.strategy.proofs.writing.write.Goals as goal

pub returns-clause-text : goal.returns-clause-text
returns-clause-text c =
    let items : c.as_slice.result.now ≡ c.args.s.now.nodes = cc (c.as_slice.ensures.value, c.nodes.view_is) in
    let nodes = c.in_ok-push_nodes.ensures ∙ ap (λ (vs : List Node). c.push_header.new.text.items ++ ended_lines (nodes_texts c.args.rules.now 0 vs)) items in
    strategy-pushed c.args.rules.now c.args.s.now _ _ _ _ c.new-text.ensures.items c.in_ok-push_header.ensures nodes c.in_ok-push_line.ensures

pub returns-clause-back : goal.returns-clause-back
returns-clause-back c =
    let items : c.as_slice.result.now ≡ c.args.s.now.nodes = cc (c.as_slice.ensures.value, c.nodes.view_is) in
    let nodes = c.in_ok-push_nodes.ensures ∙ ap (λ (vs : List Node). c.push_header.new.text.items ++ ended_lines (nodes_texts c.args.rules.now 0 vs)) items in
    let text = strategy-pushed c.args.rules.now c.args.s.now _ _ _ _ c.new-text.ensures.items c.in_ok-push_header.ensures nodes c.in_ok-push_line.ensures in
    let vector = c.nodes.inside.items in
    let same : vector.items ≡ c.args.s.now.nodes = cc (c.nodes.view_is) in
    let as_many : length vector.items ≡ length c.args.s.now.nodes = ap length same in
    let few : length c.args.s.now.nodes < 2 ^ 64 = omega (arith, vector.ok.0, vector.ok.1, vector.small, as_many) in
    λ readable. subst (λ t. strategy_of c.args.rules.now (lines_of t) ≡ Ok c.args.s.now) (sym text) (strategy-back c.args.rules.now c.args.s.now c.requires.fit c.requires.sound readable few)
