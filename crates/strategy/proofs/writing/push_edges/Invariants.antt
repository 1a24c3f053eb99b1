use Rattle.std.proofs.Common.{◌≡◌, ◌++◌, drop, map}
use Rattle.strategy.specs.Writing.{edge_text, ended_lines}
use Rattle.strategy.proofs.writing.push_edges.Given as goal

abbrev pub invariant-loop-edge : goal.invariant-loop-edge
invariant-loop-edge l = l.initial.text.items ++ ended_lines (map edge_text l.edges) ≡ l.text.items ++ ended_lines (map edge_text (drop l.edge-index l.edges))
