use Rattle.legality.proofs.early_end.early_end_with.Goals as goal

pub early_end_by-requires-clause-occupied : goal.early_end_by-requires-clause-occupied
early_end_by-requires-clause-occupied c = c.occupied.ensures c.args.tables.now c.args.p.now.side c.args.p.now.cells c.requires
