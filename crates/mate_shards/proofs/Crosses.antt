-- Passes may go to other threads, and shards may be shared by them. A caller that lends or moves them to a thread answers its goals by
-- `search shards_cross depth 30`. A generic function says `CanCross` among its premises, so that the search has it there.
use denote.Param.Send.{IsSend, IsSync, sendable}
use Rattle.std.proofs.Crossing.{crosses}
use Rattle.fact_lock.proofs.lock.Lock.TheSendSync as lock
use Rattle.fact_lock.proofs.lock.Pass.TheSendSync as pass
use Rattle.mate_core.proofs.frame.Frame.TheSendSync as frame
use Rattle.position_key.specs.contracts.packed.Packed as Packed
use Rattle.mate_core.proofs.packed_fact.Claim.TheSendSync as claim
use Rattle.mate_core.specs.contracts.packed_fact.PackedFact as PackedFact
use Rattle.mate_shards.specs.contracts.shard.Shard as Shard
use Rattle.mate_shards.specs.contracts.shards.Passes as Passes
use Rattle.mate_shards.specs.contracts.shards.Shards as Shards

packed-send : IsSend Packed.the_row
packed-send = search (sendable, crosses) depth 30

packed-sync : IsSync Packed.the_row
packed-sync = search (sendable, crosses) depth 30

fact-send : IsSend PackedFact.the_row
fact-send = search (sendable, crosses, claim.the_field_send, packed-send) depth 30

fact-sync : IsSync PackedFact.the_row
fact-sync = search (sendable, crosses, claim.the_field_sync, packed-sync) depth 30

pub shard-send : IsSend Shard.the_row
shard-send = search (sendable, crosses, fact-send) depth 30

pub passes-send : IsSend Passes.the_row
passes-send = search (sendable, crosses, pass.the_send, shard-send) depth 30

pub shard-sync : IsSync Shard.the_row
shard-sync = search (sendable, crosses, fact-sync) depth 30

pub shards-sync : IsSync Shards.the_row
shards-sync = search (sendable, crosses, lock.the_sync, frame.the_field_sync, shard-send) depth 30

-- threads may share shards, and passes may go from one to another
abbrev pub CanCross : Type 0
CanCross = IsSync Shards.the_row × IsSend Passes.the_row

pub can-cross : CanCross
can-cross = (shards-sync, passes-send)

pub ruleset shards_cross = (sendable, crosses, passes-send, shards-sync)
