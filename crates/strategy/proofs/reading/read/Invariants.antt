use Rattle.std.proofs.Common.{length}
use Rattle.strategy.specs.Reading.{AreSound}
use Rattle.strategy.proofs.ReadLemmas.{StandsAt}
use Rattle.strategy.proofs.reading.read.Given as goal

abbrev pub invariant-loop-rest : goal.invariant-loop-rest
invariant-loop-rest l = record {
  sound : AreSound l.rules l.reader.nodes;
  stands : StandsAt l.rules l.text l.reader l.rest;
}

abbrev pub decreases-loop-rest : goal.decreases-loop-rest
decreases-loop-rest l = length l.rest
