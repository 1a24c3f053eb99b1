use Rattle.std.proofs.Common.{rules, arith}
use Rattle.position_key.proofs.PackedLemmas.{all-filled}
use Rattle.position_key.proofs.cells.in_threes.Goals as goal

pub returns : goal.returns
returns c = all-filled _ _ c.loop-k.k (omega arith) (search rules) c.loop-k.invariant
