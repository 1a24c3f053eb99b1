use Rattle.evaluation.proofs.PutLaws.{puts_on}
use Rattle.evaluation.proofs.tally.Tally.put.Goals as goal

pub returns : goal.returns
returns c =
    puts_on _ _ _ _ _ _ _ c.requires c.prove_few.ensures c.without.ensures c.with.ensures
