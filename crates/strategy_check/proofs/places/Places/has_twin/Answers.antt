use Rattle.std.proofs.Common.{ap, ◌∙◌, ◌&&◌, nat_lt}
use Rattle.std.specs.List.{list_any}
use Rattle.strategy_check.specs.Buckets.{at, is_twin}
use Rattle.strategy_check.proofs.BucketLemmas.{twin-found}
use Rattle.strategy_check.proofs.places.Places.has_twin.Goals as goal

pub returns : goal.returns
returns c =
    c.has_twin_at.ensures
    ∙ ap (list_any (λ j. nat_lt j c.args.first && at c.args.nodes.now (is_twin c.args.p.now) j)) c.bucket.ensures
    ∙ twin-found c.args.self.now.by c.args.nodes.now c.args.self.now.buckets.items c.requires.index c.args.p.now c.args.first c.requires.there
