use Rattle.std.proofs.lemmas.Result.{err_from_is_err_and}
use Rattle.proof_text.proofs.ReadingLemmas.{goes-on, says-on, why-on}
use Rattle.proof_text.proofs.reading.read_on_rules.Goals as goal

pub returns-in_err-count-clause-heard : goal.returns-in_err-count-clause-heard
returns-in_err-count-clause-heard g c =
    let p = err_from_is_err_and c.from_residual.result c.from_residual.ensures.1 in
    rw (p.1, p.2) c.in_err-count.ensures.reads

pub returns-in_err-pairs-clause-heard : goal.returns-in_err-pairs-clause-heard
returns-in_err-pairs-clause-heard g c =
    let p = err_from_is_err_and c.from_residual-in_err-pairs.result c.from_residual-in_err-pairs.ensures.1 in
    rw (p.1, p.2) (why-on _ _ _ _ _ c.in_err-pairs.field-0.0 c.in_ok-count.ensures.reads c.in_err-pairs.ensures.reads)

pub returns-clause-heard : goal.returns-clause-heard
returns-clause-heard g c = says-on _ _ _ _ _ c.read_on_pairs.result (goes-on _ _ _ _ _ _ c.in_ok-count.ensures.reads c.in_ok-pairs.ensures.reads) (rw c.as_slice.ensures.value at c.read_on_pairs.ensures.heard)
