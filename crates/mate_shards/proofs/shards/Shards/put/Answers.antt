use Rattle.std.proofs.Common.{ap, ◌∙◌, length}
use Rattle.mate_core.specs.Hash.{shard_of_hash}
use Rattle.mate_shards.proofs.TurnLemmas.{publishes}
use Rattle.mate_shards.proofs.shards.Shards.put.Goals as goal

pub returns-clause-turn : goal.returns-clause-turn
returns-clause-turn g c =
    let s = c.args.self.now in
    publishes s c.args.passes.now c.ask.new.passes c.args.given c.in-Published.published c.home-shard.result
    (c.home-shard.ensures.is ∙ ap (λ h. shard_of_hash h (length s.locks)) c.hash.ensures)
    c.in-Published.ensures.turn
