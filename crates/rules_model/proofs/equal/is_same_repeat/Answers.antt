use Rattle.std.proofs.lemmas.Bool.Decides.{same_from_decides}
use Rattle.rules_model.proofs.EqualLaws.{repeat-decides}
use Rattle.rules_model.proofs.equal.is_same_repeat.Goals as goal

pub returns : goal.returns
returns c = same_from_decides _ _ c.are_equal.ensures (repeat-decides c.args.a.now c.args.b.now)
