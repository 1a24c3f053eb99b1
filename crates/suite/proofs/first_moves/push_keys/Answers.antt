use Rattle.std.proofs.Common.{arith}
use Rattle.suite.proofs.first_moves.push_keys.Goals as goal

pub moves_by-requires-clause-legal : goal.moves_by-requires-clause-legal
moves_by-requires-clause-legal g c =
    rw c.loop-chosen.invariant.same (c.requires.legal c.loop-chosen.chosen-index _ (omega arith))
