use Rattle.piece_moves.specs.Taking.{TakesAll}
use Rattle.rules_model.specs.Repeats.{repeat_of}
use Rattle.special_moves.specs.Parts.{IsBelow, IsGateFrom}
use Rattle.special_moves.proofs.gates.push_gates.Given as goal

abbrev pub invariant-loop-file : goal.invariant-loop-file
invariant-loop-file g l = TakesAll g.S.MoveSink.takes (IsBelow (IsGateFrom l.tables (repeat_of l.p)) l.file) l.initial.out l.out
