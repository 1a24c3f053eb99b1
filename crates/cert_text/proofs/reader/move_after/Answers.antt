use Rattle.cert_text.proofs.PathLemmas.{after-illegal, after-legal, after-nothing}
use Rattle.cert_text.proofs.reader.move_after.Goals as goal

pub returns-in_default-clause-is : goal.returns-in_default-clause-is
returns-in_default-clause-is c =
    after-nothing c.args.game.now c.rules.result.now c.last.result.now _ c.args.text.now c.prove_played.ensures c.rules.ensures c.last.ensures.is c.last.ensures.sound c.in_default.ensures.nothing

pub returns-then-is_legal-clause-is : goal.returns-then-is_legal-clause-is
returns-then-is_legal-clause-is c =
    after-legal c.args.game.now c.rules.result.now c.last.result.now _ c.args.text.now c.prove_played.ensures c.rules.ensures c.last.ensures.is c.last.ensures.sound c.in-Some.m c.in-Some.ensures.named
    (c.is_legal.ensures.0 c.if-is_legal.true)

pub returns-else-is_legal-clause-is : goal.returns-else-is_legal-clause-is
returns-else-is_legal-clause-is c =
    after-illegal c.args.game.now c.rules.result.now c.last.result.now _ c.args.text.now c.prove_played.ensures c.rules.ensures c.last.ensures.is c.last.ensures.sound c.in-Some.m c.is_legal.result c.in-Some.ensures.named
    c.is_legal.ensures c.if-is_legal.false
