use Rattle.std.proofs.Common.{ap, ◌∙◌, count_by}
use Rattle.rules_model.specs.Repeats.{repeat_of}
use Rattle.strategy_check.specs.Buckets.{at, has_repeat}
use Rattle.strategy_check.proofs.BucketLemmas.{count-found}
use Rattle.strategy_check.proofs.places.Places.count.Goals as goal

pub returns : goal.returns
returns c =
    c.count_at.ensures
    ∙ ap (count_by (at c.args.nodes.now (has_repeat (repeat_of c.args.p.now)))) c.bucket.ensures
    ∙ count-found c.args.self.now.by c.args.nodes.now c.args.self.now.buckets.items c.args.p.now c.requires.by c.requires.index
