use Rattle.std.proofs.Common.{◌≡◌, map, take, false}
use Rattle.std.specs.List.{All}
use Rattle.mate_settle.specs.Known.{weighed_of}
use Rattle.mate_tree.specs.Shapes.{chosen_at, is_opened}
use Rattle.mate_tree.proofs.opening.leaves_of.Given as goal

abbrev pub invariant-loop-i : goal.invariant-loop-i
invariant-loop-i l = record {
  listed : map chosen_at l.leaves.items ≡ map weighed_of (take l.i l.moves.items);
  closed : All (λ v. is_opened v ≡ false) l.leaves.items;
}
