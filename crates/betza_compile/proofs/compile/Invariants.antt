-- the terms of the parts so far are there, and there is room for the rest
use Rattle.std.proofs.Common.{◌≡◌, ◌≤◌, ◌+◌, length, take, drop}
use Rattle.betza_text.specs.Steps.{step_count}
use Rattle.betza_compile.specs.Terms.{terms}
use Rattle.betza_compile.proofs.compile.Given as goal

abbrev pub invariant-loop-part : goal.invariant-loop-part
invariant-loop-part l = record {
  made : l.items.items ≡ terms (take l.part-index l.part-items);
  room : length l.items.items + step_count (drop l.part-index l.part-items) ≤ 64;
}
