use Rattle.std.proofs.lemmas.Bool.Decides.{same_from_decides}
use Rattle.rules_model.proofs.EqualLaws.{repeat-decides}
use Rattle.rules_model.specs.Repeats.{repeat_of}
use Rattle.rules_model.proofs.equal.repeats.Goals as goal

pub returns : goal.returns
returns c = same_from_decides _ _ c.are_equal_positions.ensures (repeat-decides (repeat_of c.args.p.now) (repeat_of c.args.q.now))
