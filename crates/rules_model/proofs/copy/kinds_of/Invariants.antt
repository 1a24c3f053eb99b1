use Rattle.std.proofs.Common.{◌≡◌, length, take}
use Rattle.rules_model.proofs.copy.kinds_of.Given as goal

abbrev pub invariant-loop-k : goal.invariant-loop-k
invariant-loop-k l = record {
  copied : take l.k l.copy ≡ take l.k l.kinds;
  whole : length l.copy ≡ 26;
}
