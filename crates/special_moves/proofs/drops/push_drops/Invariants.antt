use Rattle.piece_moves.specs.Taking.{TakesAll}
use Rattle.rules_model.specs.Repeats.{repeat_of}
use Rattle.special_moves.specs.Parts.{IsBelow, IsDropOf}
use Rattle.special_moves.proofs.drops.push_drops.Given as goal

abbrev pub invariant-loop-k : goal.invariant-loop-k
invariant-loop-k g l = TakesAll g.S.MoveSink.takes (IsBelow (IsDropOf l.rules (repeat_of l.p)) l.k) l.initial.out l.out
