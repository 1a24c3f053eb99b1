use Rattle.std.proofs.Common.{refl}
use Rattle.one_shot_checks.proofs.CertLemmas.{failure_says}
use Rattle.one_shot_checks.proofs.certificates.print.Goals as goal

pub returns-in_ok-holds-in-Holds-clause-prints : goal.returns-in_ok-holds-in-Holds-clause-prints
returns-in_ok-holds-in-Holds-clause-prints c = rw c.in-Holds.is (refl, c.in_ok-holds-in-Holds.ensures)

pub returns-in_default-clause-prints : goal.returns-in_default-clause-prints
returns-in_default-clause-prints c = failure_says c.args.verdict c.in_default.not-Holds
