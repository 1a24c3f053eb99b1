use Rattle.std.proofs.Common.{refl}
use Rattle.one_shot_checks.proofs.CertLemmas.{cert_met}
use Rattle.one_shot_checks.proofs.laws.checked_certificates_hold.Goals as goal

pub returns : goal.returns
returns c = λ variants input text says. cert_met variants input 0 text refl says
