use Rattle.std.proofs.Common.{◌≡◌, ◌∙◌, true, ap}
use Rattle.game_text.specs.Playing.{move_of}
use Rattle.cecp_front.proofs.SessionLaws.{names_illegal, names_legal, names_nothing}
use Rattle.cecp_front.proofs.session.CecpSession.move_of.Goals as goal

pub returns-in_err-m-clause-is : goal.returns-in_err-m-clause-is
returns-in_err-m-clause-is c =
    c.from_residual.ensures
    ∙ names_nothing c.self.inside.game c.rules-rules.result.now c.position-position.result.now c.args.text.now c.prove_played.ensures
    c.rules-rules.ensures c.position-position.ensures.is c.position-position.ensures.sound c.in_err-m.ensures.nothing
    ∙ ap (λ s. move_of s.game c.args.text.now) c.self.view_is

pub returns-then-is_legal-clause-is : goal.returns-then-is_legal-clause-is
returns-then-is_legal-clause-is c =
    names_legal c.self.inside.game c.rules-rules.result.now c.position-position.result.now c.args.text.now c.prove_played.ensures
    c.rules-rules.ensures c.position-position.ensures.is c.position-position.ensures.sound c.in_ok-m.m c.in_ok-m.ensures.named
    (c.is_legal.ensures.member.0 c.if-is_legal.true)
    ∙ ap (λ s. move_of s.game c.args.text.now) c.self.view_is

pub returns-else-is_legal-clause-is : goal.returns-else-is_legal-clause-is
returns-else-is_legal-clause-is c =
    names_illegal c.self.inside.game c.rules-rules.result.now c.position-position.result.now c.args.text.now c.prove_played.ensures
    c.rules-rules.ensures c.position-position.ensures.is c.position-position.ensures.sound c.in_ok-m.m c.in_ok-m.ensures.named
    (λ member. let legal : c.is_legal.result ≡ true = c.is_legal.ensures.member.1 member in absurd (cc))
    ∙ ap (λ s. move_of s.game c.args.text.now) c.self.view_is
