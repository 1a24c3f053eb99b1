use Rattle.std.proofs.Common.{◌≡◌, ◌≤◌, filter, take, length}
use Rattle.betza_text.specs.Steps.{picks, all_steps}
use Rattle.betza_text.proofs.steps.picked_steps.Given as goal

abbrev pub invariant-loop-step : goal.invariant-loop-step
invariant-loop-step l = record {
  made : l.items.items ≡ filter (picks l.shape l.letters) (take l.step-index (all_steps l.shape));
  few : length l.items.items ≤ l.step-index;
}
