use Rattle.std.proofs.Common.{◌∙◌, sym}
use Rattle.suite.proofs.KeyLaws.{has-room, in-limit}
use Rattle.suite.proofs.first_moves.mate_keys.Goals as goal

pub keys_of-requires-clause-room : goal.keys_of-requires-clause-room
keys_of-requires-clause-room g c = has-room c.args.n c.args.game.now (sym c.in-None.is ∙ c.fault_of.ensures)

pub keys_of-requires-clause-in_limit : goal.keys_of-requires-clause-in_limit
keys_of-requires-clause-in_limit g c = in-limit c.args.n c.args.game.now (sym c.in-None.is ∙ c.fault_of.ensures)
