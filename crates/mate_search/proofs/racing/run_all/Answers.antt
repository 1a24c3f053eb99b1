use denote.Param.Send.{sendable}
use Rattle.std.proofs.Crossing.{crosses}
use Rattle.mate_shards.proofs.Crosses.{passes-send, shards_cross}
use Rattle.mate_search.proofs.RaceCrosses.{race-sync}
use Rattle.mate_search.proofs.racing.run_all.Goals as goal

pub race-requires-send-J : goal.race-requires-send-J
race-requires-send-J g c κs within = search (sendable, crosses, passes-send) depth 30

pub race-requires-sync-H : goal.race-requires-sync-H
race-requires-sync-H g c κs within =
    let runtime = c.type_bounds.sync-R in
    let gate = c.type_bounds.sync-G in
    search (shards_cross, race-sync) depth 40 fits 20000
