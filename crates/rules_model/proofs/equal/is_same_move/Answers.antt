use Rattle.std.proofs.lemmas.Bool.Decides.{same_from_decides}
use Rattle.rules_model.proofs.EqualLaws.{move-decides}
use Rattle.rules_model.proofs.equal.is_same_move.Goals as goal

pub returns-clause-is : goal.returns-clause-is
returns-clause-is c = same_from_decides _ _ c.are_equal_moves.ensures (move-decides c.args.a.now c.args.b.now)
