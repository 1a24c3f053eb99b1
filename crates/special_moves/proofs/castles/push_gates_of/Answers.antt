use Rattle.std.proofs.lemmas.Result.{on_ok_weaker, on_err_weaker}
use Rattle.foundation.proofs.AppendedLemmas.{on_err}
use Rattle.rules_model.specs.Repeats.{repeat_of}
use Rattle.special_moves.proofs.BelowLemmas.{either-all, either-left, either-some}
use Rattle.special_moves.proofs.CastleLemmas.{starts-apart}
use Rattle.special_moves.proofs.castles.push_gates_of.Goals as goal

pub returns-in_err-push_gate-clause-err : goal.returns-in_err-push_gate-clause-err
returns-in_err-push_gate-clause-err g c = on_err _ (either-left _ _ _ _ _ c.in_err-push_gate.ensures.err)

pub returns-clause-ok : goal.returns-clause-ok
returns-clause-ok g c =
    on_ok_weaker c.push_gate-2.result
    (λ all. either-all g.met.S.MoveSink.law _ _ _ _ _ (starts-apart c.args.rules.now (repeat_of c.args.p.now) c.args.castle.now c.requires.apart _) c.in_ok-push_gate.ensures.ok all) c.push_gate-2.ensures.ok

pub returns-clause-err : goal.returns-clause-err
returns-clause-err g c =
    on_err_weaker c.push_gate-2.result
    (λ some. either-some g.met.S.MoveSink.law _ _ _ _ _ (starts-apart c.args.rules.now (repeat_of c.args.p.now) c.args.castle.now c.requires.apart _) c.in_ok-push_gate.ensures.ok some) c.push_gate-2.ensures.err
