use Rattle.std.proofs.lemmas.Result.{err_from_is_err_and}
use Rattle.proof_text.proofs.ReadingLemmas.{says-on}
use Rattle.proof_text.proofs.reading.read_from.Goals as goal

pub returns-in_err-take_version-clause-heard : goal.returns-in_err-take_version-clause-heard
returns-in_err-take_version-clause-heard g c =
    let p = err_from_is_err_and c.from_residual-in_err-take_version.result c.from_residual-in_err-take_version.ensures.1 in
    rw (p.1, p.2) c.in_err-take_version.ensures.reads

pub returns-clause-heard : goal.returns-clause-heard
returns-clause-heard g c = says-on _ _ _ _ _ c.read_on_rules.result c.in_ok-take_version.ensures.reads c.read_on_rules.ensures.heard
