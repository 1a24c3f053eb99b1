use Rattle.std.proofs.Common.{◌+◌, ◌-◌, ◌++◌, ◌∷◌, [], List, sym, subst, arith}
use Rattle.std.proofs.lemmas.Result.{err_from_is_err_and}
use Rattle.variant_ini.specs.declared.key_line.KeyLine.{KeyLine}
use Rattle.proof_text.specs.declared.fault.ProofFault.TheVariants.{Memory}
use Rattle.proof_text.specs.declared.source_lines.NoProof.TheVariants.{Faulty}
use Rattle.proof_text.specs.Reading.{pairs_on}
use Rattle.proof_text.specs.TakingView.{GoesOn, HasWhy}
use Rattle.proof_text.proofs.ReadingLemmas.{heard-on, loop-fault, loop-first, loop-last, loop-next, nothing-heard}
use Rattle.proof_text.proofs.pairs.take_pairs.Goals as goal

pub loop-done-init : goal.loop-done-init
loop-done-init g c = record {
  goes = subst (λ (pairs : List KeyLine). GoesOn (g.S.Source.left c.args.source.now) (g.S.Source.left c.args.source.now) (pairs_on c.args.count c.args.number []) (pairs_on (c.args.count - 0) (c.args.number + 0) pairs)) (sym c.new-pairs.ensures.items)
      (loop-first pairs_on c.args.count c.args.number _ []);
  later = omega arith;
}

pub returns-in_err-pair-clause-reads : goal.returns-in_err-pair-clause-reads
returns-in_err-pair-clause-reads g c =
    let p = err_from_is_err_and c.from_residual.result c.from_residual.ensures.1 in
    rw (p.1, p.2) (loop-fault pairs_on c.args.count c.args.number _ _ _ _ c.loop-done.done c.loop-done.pairs.items (λ said. HasWhy said c.in_err-pair.field-0.0) c.loop-done-test.true c.loop-done.invariant.goes (λ k. c.in_err-pair.ensures.reads k c.loop-done.pairs.items))

pub returns-in_err-pair-clause-cause : goal.returns-in_err-pair-clause-cause
returns-in_err-pair-clause-cause g c =
    let p = err_from_is_err_and c.from_residual.result c.from_residual.ensures.1 in
    rw (p.1, p.2) (record {
      later = omega arith;
      failed = λ unread. let rose = c.in_err-pair.ensures.cause.failed unread in let before = c.loop-done.invariant.later in omega (arith, rose, before);
    })

pub returns-in_err-push-clause-reads : goal.returns-in_err-push-clause-reads
returns-in_err-push-clause-reads g c =
    let p = err_from_is_err_and c.from_residual-in_err-push.result c.from_residual-in_err-push.ensures.1 in
    let after = pairs_on (c.args.count - (c.loop-done.done + 1)) (c.args.number + (c.loop-done.done + 1)) (c.loop-done.pairs.items ++ c.in_ok-pair.pair ∷ []) in
    rw (p.1, p.2) (heard-on _ _ _ _ after (λ said. HasWhy said (Faulty Memory))
    (loop-next pairs_on c.args.count c.args.number _ _ _ _ c.loop-done.done c.loop-done.pairs.items (c.loop-done.pairs.items ++ c.in_ok-pair.pair ∷ []) c.loop-done-test.true c.loop-done.invariant.goes (λ k. c.in_ok-pair.ensures.reads k c.loop-done.pairs.items))
    (nothing-heard _ after))

pub loop-done-preserved : goal.loop-done-preserved
loop-done-preserved g c = record {
  goes = subst (λ (pairs : List KeyLine). GoesOn (g.S.Source.left c.args.source.now) (g.S.Source.left c.take_pair.new.source) (pairs_on c.args.count c.args.number []) (pairs_on (c.args.count - (c.loop-done.done + 1)) (c.args.number + (c.loop-done.done + 1)) pairs)) (sym c.in_ok-push.ensures.items)
      (loop-next pairs_on c.args.count c.args.number _ _ _ _ c.loop-done.done c.loop-done.pairs.items (c.loop-done.pairs.items ++ c.in_ok-pair.pair ∷ []) c.loop-done-test.true c.loop-done.invariant.goes (λ k. c.in_ok-pair.ensures.reads k c.loop-done.pairs.items));
  later = omega arith;
}

pub returns-clause-reads : goal.returns-clause-reads
unfolding pairs_on
returns-clause-reads g c = loop-last pairs_on c.args.count c.args.number _ _ _ c.loop-done.done c.loop-done.pairs.items c.loop-done-test.false (omega arith) c.loop-done.invariant.goes
