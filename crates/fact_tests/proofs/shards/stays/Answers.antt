use Rattle.fact_lock.specs.Passes.{all_parts}
use Rattle.fact_tests.proofs.shards.stays.Goals as goal

pub reopened-requires-clause-parts : goal.reopened-requires-clause-parts
reopened-requires-clause-parts g c = c.publish.ensures.parts all_parts c.in_ok-shards.ensures.parts

pub publish-requires-clause-truth : goal.publish-requires-clause-truth
publish-requires-clause-truth g c = c.in_ok-shards.ensures.truth c.refutation.result c.refutation.ensures
