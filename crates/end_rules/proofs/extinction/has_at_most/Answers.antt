use Rattle.rules_model.specs.Repeats.{repeat_of}
use Rattle.end_rules.proofs.TallyLaws.{too_many}
use Rattle.end_rules.proofs.extinction.has_at_most.Goals as goal

pub returns-else-not-stand_more : goal.returns-else-not-stand_more
returns-else-not-stand_more c =
    too_many (repeat_of c.args.p.now) c.args.side c.args.most c.stand_more.result c.stand_more.ensures c.if-not-stand_more.false
