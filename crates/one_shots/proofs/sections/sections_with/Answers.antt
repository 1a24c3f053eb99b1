use Rattle.std.proofs.Common.{inl, refl}
use Rattle.std.proofs.lemmas.Result.{err_from_is_err_and}
use Rattle.variant_rules.proofs.FileLemmas.{looked_none}
use Rattle.one_shots.proofs.sections.sections_with.Goals as goal

pub returns-in_err-builtin-in-None-clause-has : goal.returns-in_err-builtin-in-None-clause-has
returns-in_err-builtin-in-None-clause-has g c =
    let p = err_from_is_err_and c.from_residual.result c.from_residual.ensures.1 in
    rw (p.1, p.2) (looked_none _ _ (inl refl))

pub returns-in_ok-builtin-in-None-clause-has : goal.returns-in_ok-builtin-in-None-clause-has
returns-in_ok-builtin-in-None-clause-has g c = rw c.in-None.is (looked_none _ _ ((refl, refl), c.in_ok-builtin-in-None.ensures.are))
