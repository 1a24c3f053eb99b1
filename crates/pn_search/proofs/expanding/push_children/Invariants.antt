use Rattle.std.proofs.Common.{◌≡◌, ◌+◌, ◌-◌, ◌≤◌, ◌++◌, map, take, replicate, length, vec_len, vec_capacity}
use Rattle.pn_search.specs.Kept.{written_child}
use Rattle.pn_search.specs.Numbers.{open_pair}
use Rattle.pn_search.proofs.expanding.push_children.Given as goal

abbrev pub invariant-loop-m : goal.invariant-loop-m
invariant-loop-m l = record {
  nodes : l.nodes.items ≡ l.fn.nodes.items ++ map (written_child l.parent l.node) (take l.m-index l.moves);
  pairs : l.pairs.items ≡ l.fn.pairs.items ++ replicate l.m-index open_pair;
  node_room : vec_len l.nodes + (length l.moves - l.m-index) ≤ vec_capacity l.nodes;
  pair_room : vec_len l.pairs + (length l.moves - l.m-index) ≤ vec_capacity l.pairs;
}
