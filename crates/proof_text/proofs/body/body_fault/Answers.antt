use Rattle.std.proofs.Common.{inr}
use Rattle.proof_text.proofs.body.body_fault.Goals as goal

pub returns-in-Some : goal.returns-in-Some
returns-in-Some c = (c.in-Some.ensures.moved, c.in_default.not-Memory)

pub returns-in-None : goal.returns-in-None
returns-in-None c = inr c.in-None.ensures.beyond
