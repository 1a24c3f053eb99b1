use Rattle.std.proofs.Common.{rules}
use borrow.Author.Tests.{tests}
use Rattle.std.proofs.lemmas.Fn.{filter_same}
use Rattle.mate_shards.specs.Keeps.{picks}
use Rattle.mate_shards.proofs.shard.pick.Goals as goal

pub returns-clause-facts : goal.returns-clause-facts
returns-clause-facts c =
    filter_same _ (picks c.args.keeps.now) _ (λ x b g k. search (rules, tests)) c.args.facts.now.items _ c.retain.ensures.filtered
