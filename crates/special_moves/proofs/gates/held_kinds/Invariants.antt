use Rattle.std.proofs.Common.{◌≡◌, ℕ, ◌&&◌, nat_lt}
use Rattle.rules_model.specs.Repeats.{repeat_of}
use Rattle.square_set.specs.Members.{has}
use Rattle.special_moves.specs.Parts.{holds_kind}
use Rattle.special_moves.proofs.gates.held_kinds.Given as goal

abbrev pub invariant-loop-k : goal.invariant-loop-k
invariant-loop-k l = (s : ℕ) → has l.held s ≡ (nat_lt s l.k && holds_kind (repeat_of l.p) s)
