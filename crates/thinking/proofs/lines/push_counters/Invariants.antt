use Rattle.std.proofs.Common.{◌≡◌, ◌++◌, take}
use Rattle.std.specs.List.{flat_map}
use Rattle.session_model.specs.UciTexts.{counter_text}
use Rattle.thinking.proofs.lines.push_counters.Given as goal

abbrev pub invariant-loop-counter : goal.invariant-loop-counter
invariant-loop-counter l =
    l.text.items ≡ l.initial.text.items ++ flat_map counter_text (take l.counter-index l.counters)
