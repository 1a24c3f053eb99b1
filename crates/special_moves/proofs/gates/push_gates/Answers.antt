use Rattle.std.proofs.Common.{arith, ap, sym, ◌∙◌}
use Rattle.foundation.proofs.AppendedLemmas.{on_err}
use Rattle.piece_moves.proofs.TakingLemmas.{all-none}
use Rattle.rules_model.specs.Repeats.{repeat_of}
use Rattle.attack_tables.proofs.AlikeLaws.{holds}
use Rattle.special_moves.proofs.BelowLemmas.{below-last, below-more, below-none, below-skip, below-some}
use Rattle.special_moves.proofs.GateLemmas.{files-apart, no-gates, none-from, none-held}
use Rattle.special_moves.proofs.gates.push_gates.Goals as goal
use Rattle.special_moves.proofs.gates.push_gates.Goals.{then-is_gate+in_ok-push_gates_from, else-is_gate}

pub returns-then-not-rules-clause-ok : goal.returns-then-not-rules-clause-ok
returns-then-not-rules-clause-ok g c =
    all-none g.met.S.MoveSink.law _ _ (no-gates c.args.tables.now (repeat_of c.args.p.now) (sym (ap (λ r. r.gate_hand) c.rules-rules.ensures.is) ∙ c.if-not-rules.true))

pub returns-then-is_empty-clause-ok : goal.returns-then-is_empty-clause-ok
returns-then-is_empty-clause-ok g c =
    all-none g.met.S.MoveSink.law _ _
    (none-held c.args.tables.now (repeat_of c.args.p.now) c.held_kinds-held.result c.held_kinds-held.ensures (holds c.is_empty.result c.if-is_empty.true c.is_empty.ensures.empty))

pub loop-file-init : goal.loop-file-init
loop-file-init g c = below-none g.met.S.MoveSink.law _ _

pub loop-file-preserved : goal.loop-file-preserved
loop-file-preserved g c =
    elim c.if-is_gate.branch [
      | then-is_gate+in_ok-push_gates_from w ↦
          rw w.out-is
          (below-more g.met.S.MoveSink.law _ (files-apart c.args.tables.now (repeat_of c.args.p.now)) _ _ _ _ c.loop-file.invariant
          (rw (w.at.ensures.is, c.first_rank-rank.ensures.is, c.rules-rules.ensures.is) at w.in_ok-push_gates_from.ensures.ok))
      | else-is_gate w ↦
          rw w.out-is
          (below-skip _ _ _ _ _ c.loop-file.invariant
          (none-from c.args.tables.now (repeat_of c.args.p.now) c.loop-file.file c.loop-file-test.true (rw c.rules-rules.ensures.is at (sym c.is_gate.ensures ∙ w.if-is_gate.false))))
    ]

pub returns-in_err-push_gates_from-clause-err : goal.returns-in_err-push_gates_from-clause-err
returns-in_err-push_gates_from-clause-err g c =
    on_err _
    (below-some g.met.S.MoveSink.law _ (files-apart c.args.tables.now (repeat_of c.args.p.now)) _ 12 _ _ _ c.loop-file-test.true c.loop-file.invariant
    (rw (c.at.ensures.is, c.first_rank-rank.ensures.is, c.rules-rules.ensures.is) at c.in_err-push_gates_from.ensures.err))

pub returns-clause-ok : goal.returns-clause-ok
returns-clause-ok g c = below-last _ _ _ _ _ _ (omega arith) c.loop-file.invariant
