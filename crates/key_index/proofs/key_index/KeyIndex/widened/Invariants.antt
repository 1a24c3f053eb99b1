use Rattle.std.proofs.Common.{◌≡◌, take}
use Rattle.key_index.proofs.key_index.KeyIndex.widened.Given as goal

abbrev pub invariant-loop-i : goal.invariant-loop-i
invariant-loop-i l = l.wide ≡ take l.i l.self
