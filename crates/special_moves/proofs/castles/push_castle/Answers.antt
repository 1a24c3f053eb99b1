use Rattle.std.proofs.lemmas.Result.{on_ok_weaker, on_err_weaker}
use Rattle.foundation.proofs.AppendedLemmas.{on_err}
use Rattle.rules_model.specs.Repeats.{repeat_of}
use Rattle.special_moves.proofs.BelowLemmas.{either-all, either-left, either-some}
use Rattle.special_moves.proofs.CastleLemmas.{gates-apart}
use Rattle.special_moves.proofs.castles.push_castle.Goals as goal

pub returns-in_err-push_if-clause-err : goal.returns-in_err-push_if-clause-err
returns-in_err-push_if-clause-err g c = on_err _ (either-left _ _ _ _ _ (rw c.castle_move.ensures at c.in_err-push_if.ensures.err))

pub returns-clause-ok : goal.returns-clause-ok
returns-clause-ok g c =
    on_ok_weaker c.push_gates.result
    (λ all. either-all g.met.S.MoveSink.law _ _ _ _ _ (gates-apart c.args.rules.now (repeat_of c.args.p.now) c.args.castle.now) (rw c.castle_move.ensures at c.in_ok-push_if.ensures.ok) all) c.push_gates.ensures.ok

pub returns-clause-err : goal.returns-clause-err
returns-clause-err g c =
    on_err_weaker c.push_gates.result
    (λ some. either-some g.met.S.MoveSink.law _ _ _ _ _ (gates-apart c.args.rules.now (repeat_of c.args.p.now) c.args.castle.now) (rw c.castle_move.ensures at c.in_ok-push_if.ensures.ok) some) c.push_gates.ensures.err
