use Rattle.std.proofs.Common.{◌≡◌, ◌+◌, ◌*◌, take, map}
use Rattle.std.specs.List.{sum_by}
use Rattle.foundation.specs.Member.{Member}
use Rattle.rules_model.specs.Next.{next}
use Rattle.strategy.specs.declared.nodes.Edge.{Edge}
use Rattle.mate_settle.specs.Lines.{lines_after, plies, seen_in}
use Rattle.mate_showing.specs.Tabled.{GrowsTo, rules_of}
use Rattle.mate_showing.specs.Tables.{IsLedTo}
use Rattle.mate_showing.proofs.building.+build.Given as goal

abbrev pub decreases-build : goal.decreases-build
decreases-build g l = 3 * plies (seen_in l.facts.now) l.n l.board.now.position + 1

abbrev pub decreases-attack_edges : goal.decreases-attack_edges
decreases-attack_edges g l = 3 * plies (seen_in l.facts.now) l.n l.board.now.position

abbrev pub decreases-defence_edges : goal.decreases-defence_edges
decreases-defence_edges g l = 3 * plies (seen_in l.facts.now) l.n l.board.now.position

abbrev pub decreases-edge_to : goal.decreases-edge_to
decreases-edge_to g l = 3 * plies (seen_in l.facts.now) l.n (next l.facts.now.rules l.board.now.position l.chosen) + 2

abbrev pub invariant-defence_edges-loop-i : goal.invariant-defence_edges-loop-i
invariant-defence_edges-loop-i g l = record {
  frame : l.facts ≡ l.fn.facts;
  grows : GrowsTo l.fn.table l.table;
  chosen : map (λ (e : Edge). e.chosen) l.edges ≡ take l.i l.moves.items;
  led : (e : Edge) → Member e l.edges → IsLedTo (rules_of l.fn.table) l.fn.table.plan.exact l.table.nodes l.board.position l.n e;
  gone : g.W.Watch.gone l.fn.watch l.watch ((l.n + 1) * sum_by (lines_after (seen_in l.fn.facts) l.n l.board.position) (take l.i l.moves.items));
}
