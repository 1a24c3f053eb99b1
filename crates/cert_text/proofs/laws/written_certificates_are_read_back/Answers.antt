use Rattle.cert_text.proofs.BackLaws.{cert-back}
use Rattle.cert_text.proofs.laws.written_certificates_are_read_back.Goals as goal

pub returns : goal.returns
returns c = λ g n help steps holds. cert-back g n help steps holds
