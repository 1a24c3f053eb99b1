use Rattle.speeds.proofs.store.ShardsStore.publish.Goals as goal

pub publish-requires-clause-truth : goal.publish-requires-clause-truth
publish-requires-clause-truth g c = c.requires.serves.1 c.args.fact.now c.requires.kind
