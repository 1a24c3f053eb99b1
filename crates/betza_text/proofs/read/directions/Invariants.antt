use Rattle.std.proofs.Common.{◌≡◌, ◌≤◌, filter, take, length}
use Rattle.betza_text.specs.Letters.{is_direction}
use Rattle.betza_text.proofs.read.directions.Given as goal

abbrev pub invariant-loop-byte : goal.invariant-loop-byte
invariant-loop-byte l = record {
  made : l.items.items ≡ filter is_direction (take l.byte-index l.modifiers);
  few : length l.items.items ≤ l.byte-index;
}
