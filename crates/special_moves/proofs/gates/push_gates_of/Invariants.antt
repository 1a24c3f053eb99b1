use Rattle.std.proofs.Common.{◌≡◌, ℕ, true}
use Rattle.piece_moves.specs.InTurn.{Outside}
use Rattle.piece_moves.specs.Taking.{TakesAll}
use Rattle.rules_model.specs.Repeats.{repeat_of}
use Rattle.square_set.specs.Members.{has, size}
use Rattle.special_moves.specs.Parts.{IsGateAt}
use Rattle.special_moves.proofs.GateLemmas.{placed_number}
use Rattle.special_moves.proofs.gates.push_gates_of.Given as goal

abbrev pub invariant-loop-k : goal.invariant-loop-k
invariant-loop-k g l = record {
  inside : (s : ℕ) → has l.left s ≡ true → has l.fn.held s ≡ true;
  taken : TakesAll g.S.MoveSink.takes (Outside (IsGateAt l.rules (repeat_of l.p) l.mover.from) placed_number l.left) l.initial.out l.out;
}

abbrev pub decreases-loop-k : goal.decreases-loop-k
decreases-loop-k g l = size l.left
