use Rattle.std.proofs.Common.{◌∙◌, ap}
use Rattle.rules_model.specs.declared.rules.Rules.{Rules}
use Rattle.game_text.specs.GameText.{started}
use Rattle.cecp_front.proofs.SessionLaws.{renewed_chess}
use Rattle.cecp_front.proofs.session.CecpSession.renew.Goals as goal

pub another-requires : goal.another-requires
another-requires c = record { sound = rw c.rules.ensures c.self.invariant.start }

pub returns : goal.returns
returns c = λ line.
    renewed_chess _ c.args.self.now c.self.inside.chess.rules _ line c.silent.result c.self.view_is c.self.invariant.is_chess
    (c.in_ok-self-inside.ensures ∙ ap (λ (r : Rules). started c.self.inside.chess.rules r.start) c.rules.ensures) c.silent.ensures
