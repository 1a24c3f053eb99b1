use Rattle.std.proofs.Common.{◌≡◌}
use Rattle.pn_search.specs.Kept.{work_left}
use Rattle.pn_search.specs.Ways.{IsWay}
use Rattle.pn_search.proofs.finding.grow_out.Given as goal

abbrev pub invariant-growing : goal.invariant-growing
invariant-growing l = record {
  way : IsWay l.tree l.way.items;
  frame : l.tree.frame ≡ l.fn.tree.frame;
  root : l.tree.root ≡ l.fn.tree.root;
  moves : l.tree.moves ≡ l.fn.tree.moves;
}

abbrev pub decreases-growing : goal.decreases-growing
decreases-growing l = work_left l.tree
