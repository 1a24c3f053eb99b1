use Rattle.std.proofs.Common.{arith}
use Rattle.strategy.specs.declared.nodes.Strategy.{Strategy}
use Rattle.proof_text.specs.declared.proof.Proof.{Proof}
use Rattle.proof_text.proofs.BodyLemmas.{body-bad, body-good, body-unread}
use Rattle.proof_text.proofs.reading.read_on_body.Goals as goal

pub returns-in-Ok-clause-heard : goal.returns-in-Ok-clause-heard
returns-in-Ok-clause-heard g c =
    body-good c.args.number c.args.game c.args.goal _ _ c.rules.result.now c.in-Ok.strategy c.rules.ensures c.in-Ok.ensures.heard

pub returns-in-Err-clause-heard : goal.returns-in-Err-clause-heard
returns-in-Err-clause-heard g c =
    body-bad c.args.number c.args.game c.args.goal _ _ c.rules.result.now c.in-Err.why c.body_why.result c.rules.ensures c.body_why.ensures c.in-Err.ensures.heard

pub returns-in-Err-clause-cause : goal.returns-in-Err-clause-cause
returns-in-Err-clause-cause g c = record {
  later = omega arith;
  failed = λ unread. c.in-Err.ensures.cause.failed (body-unread Proof Strategy _ c.in-Err.why c.body_why.result c.body_why.ensures unread);
}
