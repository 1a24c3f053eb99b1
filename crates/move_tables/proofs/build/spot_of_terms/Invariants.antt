use Rattle.std.proofs.Common.{take}
use Rattle.move_tables.specs.Spots.{IsOfTerms, is_used}
use Rattle.move_tables.proofs.build.spot_of_terms.Given as goal

abbrev pub invariant-loop-term : goal.invariant-loop-term
invariant-loop-term l = IsOfTerms l.rules l.side (is_used l.mode l.held) (take l.term-index l.terms) l.from l.spot
