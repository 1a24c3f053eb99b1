use Rattle.std.proofs.Common.{◌≡◌, ◌++◌, take, drop}
use Rattle.std.specs.Io.BufRead.{take_through, drop_through}
use Rattle.io_ports.specs.Lines.{line_feed}
use Rattle.strategy.proofs.reading.line_len.Given as goal

-- the first piece begins with the bytes so far, and goes on as that of the others
abbrev pub invariant-loop-i : goal.invariant-loop-i
invariant-loop-i l = record {
  piece : take_through line_feed l.bytes ≡ take l.i l.bytes ++ take_through line_feed (drop l.i l.bytes);
  rest : drop_through line_feed l.bytes ≡ drop_through line_feed (drop l.i l.bytes);
}
