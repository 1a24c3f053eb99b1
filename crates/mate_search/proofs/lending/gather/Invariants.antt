use Rattle.std.proofs.Common.{◌≡◌}
use Rattle.mate_search.specs.Handed.{AreHandedBack}
use Rattle.mate_search.proofs.lending.gather.Given as goal

abbrev pub invariant-loop-i : goal.invariant-loop-i
invariant-loop-i g l = record { facts : l.facts ≡ l.fn.facts; handed : AreHandedBack l.race.shards.now l.fn.passes l.passes }
