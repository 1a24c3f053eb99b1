use Rattle.std.proofs.Common.{◌≡◌, ℕ, true, ◌&&◌, not}
use Rattle.rules_model.specs.Repeats.{repeat_of}
use Rattle.square_set.specs.Members.{has, size}
use Rattle.legality.specs.Asking.{is_asked_by}
use Rattle.legality.proofs.asked.Asked.of_each.Given as goal

abbrev pub invariant-loop-to : goal.invariant-loop-to
invariant-loop-to l = record {
  within : (s : ℕ) → has l.left s ≡ true → has l.fn.targets s ≡ true;
  done : (s : ℕ) → has l.asked s ≡ ((has l.fn.targets s && not (has l.left s)) && is_asked_by l.self (repeat_of l.p) l.fn.shift s);
}

abbrev pub decreases-loop-to : goal.decreases-loop-to
decreases-loop-to l = size l.left
