-- The workers of a race may share what it is about.
use denote.Param.Send.{IsSync, sendable}
use denote.RattleType.{RattleType}
use denote.Ref.{NamedLft}
use Rattle.std.proofs.Crossing.{crosses}
use Rattle.game_play.proofs.game.Game.TheSendSync as game
use Rattle.game_play.specs.contracts.game.Game as Game
use Rattle.mate_search.proofs.shared.Shared.TheSendSync as shared
use Rattle.mate_search.specs.contracts.race.Race as Race
use Rattle.mate_search.specs.contracts.shared.Shared as Shared
use Rattle.mate_shards.proofs.Crosses.{shards-sync}

game-sync : IsSync Game.the_row
game-sync = search (sendable, crosses, game.the_sync) depth 30

shared-sync : IsSync Shared.the_row
shared-sync = search (sendable, crosses, shared.the_field_sync) depth 30

pub race-sync : (a : NamedLft) (G : RattleType) → IsSync G → IsSync (Race.the_row a G)
race-sync a G gate = search (sendable, crosses, shards-sync, game-sync, shared-sync) depth 40 fits 20000
