use Rattle.std.proofs.Common.{◌≡◌, ◌++◌, drop}
use Rattle.strategy.specs.Writing.{ended_lines, nodes_texts}
use Rattle.strategy.proofs.writing.push_nodes.Given as goal

abbrev pub invariant-loop-number : goal.invariant-loop-number
invariant-loop-number l = l.initial.text.items ++ ended_lines (nodes_texts l.rules 0 l.nodes) ≡ l.text.items ++ ended_lines (nodes_texts l.rules l.number (drop l.number l.nodes))
