use Rattle.piece_moves.specs.Taking.{TakesAll}
use Rattle.rules_model.specs.Repeats.{repeat_of}
use Rattle.special_moves.specs.Parts.{IsBelow, IsGateOf}
use Rattle.special_moves.proofs.castles.push_gates.Given as goal

abbrev pub invariant-loop-k : goal.invariant-loop-k
invariant-loop-k g l = TakesAll g.S.MoveSink.takes (IsBelow (IsGateOf l.rules (repeat_of l.p) l.castle) l.k) l.initial.out l.out
