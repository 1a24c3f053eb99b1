use Rattle.std.proofs.Common.{◌≡◌, ◌≤◌, map, drop, min, not}
use Rattle.pn_search.specs.Numbers as Numbers
use Rattle.pn_search.proofs.numbers.least_and_sum.Given as goal

abbrev pub invariant-loop-child : goal.invariant-loop-child
invariant-loop-child l = record {
  least_so_far : min l.least (Numbers.least_of (map (Numbers.own_number l.attacking) (drop l.child-index l.children)))
      ≡ Numbers.least_of (map (Numbers.own_number l.attacking) l.children);
  least_low : l.least ≤ Numbers.infinite;
  sum_so_far : Numbers.plus l.sum (Numbers.sum_of (map (Numbers.own_number (not l.attacking)) (drop l.child-index l.children)))
      ≡ Numbers.sum_of (map (Numbers.own_number (not l.attacking)) l.children);
  sum_low : l.sum ≤ Numbers.infinite;
}
