use Rattle.fact_tests.proofs.shards.answers.Goals as goal

pub publish-published-requires-clause-truth : goal.publish-published-requires-clause-truth
publish-published-requires-clause-truth g c = c.requires.truth c.refutation.result c.refutation.ensures
