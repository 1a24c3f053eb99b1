use Rattle.std.proofs.Common.{◌≤◌}
use Rattle.strategy.specs.Reading.{AreSound}
use Rattle.proof_text.proofs.StrategyLemmas.{TakenOn}
use Rattle.proof_text.proofs.strategy_lines.take_lines.Given as goal

abbrev pub invariant-loop-count : goal.invariant-loop-count
invariant-loop-count g l = record {
  taken : TakenOn l.rules (g.S.Source.left l.initial.source) (g.S.Source.left l.source) l.initial.reader l.reader;
  sound : AreSound l.rules l.reader.nodes;
  later : g.S.Source.faults l.initial.source ≤ g.S.Source.faults l.source;
}
