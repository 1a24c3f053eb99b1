use Rattle.std.proofs.Common.{arith}
use Rattle.alpha_beta.proofs.settling.score_in.Goals as goal

pub returns-in-Some-clause-gone : goal.returns-in-Some-clause-gone
returns-in-Some-clause-gone g c = g.met.W.Watch.wider _ _ _ _ (g.met.W.Watch.none c.args.watch.now) (omega arith)
