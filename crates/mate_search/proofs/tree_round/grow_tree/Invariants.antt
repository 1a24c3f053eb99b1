use Rattle.std.proofs.Common.{◌≡◌, ◌≤◌, ◌-◌}
use Rattle.mate_search.specs.Handed.{AreHandedBack}
use Rattle.mate_search.specs.Races.{tree_lines}
use Rattle.mate_tree.specs.Weights.{forest}
use Rattle.mate_search.proofs.tree_round.grow_tree.Given as goal

abbrev pub invariant-loop-step : goal.invariant-loop-step
invariant-loop-step g l = record {
  facts : l.facts ≡ l.fn.facts;
  handed : AreHandedBack l.shards l.fn.passes l.passes;
  less : forest l.shards.frame l.n l.board.position l.roots.items ≤ tree_lines l.shards.frame l.n l.board.position;
  gone : g.W.Watch.gone l.fn.watch l.watch (tree_lines l.shards.frame l.n l.board.position - forest l.shards.frame l.n l.board.position l.roots.items);
}
