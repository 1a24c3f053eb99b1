use Rattle.std.proofs.Common.{arith, sym, ◌∙◌}
use Rattle.foundation.proofs.AppendedLemmas.{on_err}
use Rattle.rules_model.specs.Repeats.{repeat_of}
use Rattle.special_moves.proofs.BelowLemmas.{below-last, below-more, below-none, below-skip, below-some}
use Rattle.special_moves.proofs.CastleLemmas.{kinds-apart, none-placed}
use Rattle.special_moves.proofs.castles.push_gates.Goals as goal
use Rattle.special_moves.proofs.castles.push_gates.Goals.{then-has_placed+in_ok-push_gates_of, else-has_placed}

pub loop-k-init : goal.loop-k-init
loop-k-init g c = below-none g.met.S.MoveSink.law _ _

pub loop-k-preserved : goal.loop-k-preserved
loop-k-preserved g c =
    elim c.if-has_placed.branch [
      | then-has_placed+in_ok-push_gates_of w ↦
          rw w.out-is (below-more g.met.S.MoveSink.law _ (kinds-apart c.args.rules.now (repeat_of c.args.p.now) c.args.castle.now) _ _ _ _ c.loop-k.invariant w.in_ok-push_gates_of.ensures.ok)
      | else-has_placed w ↦
          rw w.out-is (below-skip _ _ _ _ _ c.loop-k.invariant (none-placed c.args.rules.now (repeat_of c.args.p.now) c.args.castle.now _ (sym c.has_placed.ensures ∙ w.if-has_placed.false)))
    ]

pub returns-in_err-push_gates_of-clause-err : goal.returns-in_err-push_gates_of-clause-err
returns-in_err-push_gates_of-clause-err g c =
    on_err _ (below-some g.met.S.MoveSink.law _ (kinds-apart c.args.rules.now (repeat_of c.args.p.now) c.args.castle.now) _ 26 _ _ _ c.loop-k-test.true c.loop-k.invariant c.in_err-push_gates_of.ensures.err)

pub returns-clause-ok : goal.returns-clause-ok
returns-clause-ok g c = below-last _ _ _ _ _ _ (omega arith) c.loop-k.invariant
