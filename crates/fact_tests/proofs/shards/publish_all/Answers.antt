use Rattle.fact_tests.proofs.shards.publish_all.Goals as goal

pub publish-requires-clause-truth : goal.publish-requires-clause-truth
publish-requires-clause-truth g c = c.requires.truth c.refutation-fact.result c.refutation-fact.ensures
