use Rattle.std.proofs.Common.{sym}
use Rattle.std.specs.Prelude.{Ok}
use Rattle.variant_rules.proofs.PlayableLaws.{entry_playable}
use Rattle.uci_front.proofs.session.UciSession.new_game.Goals as goal

pub another-requires : goal.another-requires
another-requires c =
    record { sound = rw c.rules.ensures (entry_playable c.self.inside.sections c.self.inside.place (Ok c.self.inside.game.rules) (sym c.self.invariant.accepted)).start }
