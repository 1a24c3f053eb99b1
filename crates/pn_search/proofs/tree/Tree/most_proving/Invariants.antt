use Rattle.std.proofs.Common.{◌-◌, length}
use Rattle.pn_search.specs.Trees.{position_of}
use Rattle.pn_search.specs.Ways.{IsWay, IsAtDepth}
use Rattle.pn_search.proofs.Grown.{GoesDown}
use Rattle.pn_search.proofs.tree.Tree.most_proving.Given as goal

abbrev pub invariant-loop-child : goal.invariant-loop-child
invariant-loop-child l = record {
  way : IsWay l.self l.way.items;
  here : IsAtDepth l.way.items l.depth l.place;
  down : GoesDown l.self l.place (position_of l.self l.place);
}

abbrev pub decreases-loop-child : goal.decreases-loop-child
decreases-loop-child l = length l.self.nodes - l.place
