use Rattle.std.proofs.Common.{rules}
use Rattle.std.proofs.lemmas.Slice.Eq.{slice_eq-Decides}
use Rattle.rules_model.proofs.equal.are_same_cells.Goals as goal

pub returns : goal.returns
returns c = search (rules, slice_eq-Decides)
