use Rattle.std.proofs.Common.{arith, ap, sym, ◌∙◌}
use Rattle.foundation.proofs.AppendedLemmas.{on_err}
use Rattle.piece_moves.proofs.TakingLemmas.{all-none}
use Rattle.rules_model.specs.Repeats.{repeat_of}
use Rattle.special_moves.proofs.BelowLemmas.{below-last, below-more, below-none, below-skip, below-some}
use Rattle.special_moves.proofs.DropLemmas.{kinds-apart, no-drops, none-held}
use Rattle.special_moves.proofs.drops.push_drops.Goals as goal
use Rattle.special_moves.proofs.drops.push_drops.Goals.{then-has_drops+in_ok-push_kind, else-has_drops}

pub returns-then-not-rules-clause-ok : goal.returns-then-not-rules-clause-ok
returns-then-not-rules-clause-ok g c =
    all-none g.met.S.MoveSink.law _ _ (no-drops c.args.tables.now (repeat_of c.args.p.now) (sym (ap (λ r. r.drops) c.rules-rules.ensures.is) ∙ c.if-not-rules.true))

pub loop-k-init : goal.loop-k-init
loop-k-init g c = below-none g.met.S.MoveSink.law _ _

pub loop-k-preserved : goal.loop-k-preserved
loop-k-preserved g c =
    elim c.if-has_drops.branch [
      | then-has_drops+in_ok-push_kind w ↦
          rw w.out-is (below-more g.met.S.MoveSink.law _ (kinds-apart _ _) _ _ _ _ c.loop-k.invariant w.in_ok-push_kind.ensures.ok)
      | else-has_drops w ↦
          rw w.out-is (below-skip _ _ _ _ _ c.loop-k.invariant (none-held _ _ _ (sym c.has_drops.ensures ∙ w.if-has_drops.false)))
    ]

pub returns-in_err-push_kind-clause-err : goal.returns-in_err-push_kind-clause-err
returns-in_err-push_kind-clause-err g c =
    rw (sym c.rules-rules.ensures.is)
    (on_err _ (below-some g.met.S.MoveSink.law _ (kinds-apart _ _) _ 26 _ _ _ c.loop-k-test.true c.loop-k.invariant c.in_err-push_kind.ensures.err))

pub returns-clause-ok : goal.returns-clause-ok
returns-clause-ok g c = rw (sym c.rules-rules.ensures.is) (below-last _ _ _ _ _ _ (omega arith) c.loop-k.invariant)
