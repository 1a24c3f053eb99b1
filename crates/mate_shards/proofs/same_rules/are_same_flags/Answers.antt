use Rattle.std.proofs.Common.{rules}
use Rattle.std.proofs.lemmas.Slice.Eq.{slice_eq-Decides}
use Rattle.mate_shards.proofs.same_rules.are_same_flags.Goals as goal

pub returns : goal.returns
returns c = search (rules, slice_eq-Decides)
