use Rattle.std.proofs.Common.{◌≤◌}
use Rattle.game_text.proofs.ReadLemmas.{ReadOn}
use Rattle.game_text.proofs.read.read_moves.Given as goal

abbrev pub invariant-loop-number : goal.invariant-loop-number
invariant-loop-number g l = record {
  read : ReadOn (g.S.Source.left l.initial.source) (g.S.Source.left l.source) l.initial.game l.game l.number;
  later : g.S.Source.faults l.initial.source ≤ g.S.Source.faults l.source;
}
