use Rattle.std.proofs.Common.{◌≡◌, ◌<◌, length, not, take}
use Rattle.mate_tree.specs.Numbers.{least_of, sum_of}
use Rattle.mate_tree.proofs.numbers.best_child.Given as goal

abbrev pub invariant-loop-i : goal.invariant-loop-i
invariant-loop-i l = record {
  place : 0 < length l.children → l.best.place < length l.children;
  own : l.best.own ≡ least_of l.attacking (take l.i l.children);
  others : l.best.others ≡ sum_of (not l.attacking) (take l.i l.children);
}
