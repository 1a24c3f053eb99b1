use Rattle.one_shot_checks.proofs.CertLemmas.{help_prints, self_prints}
use Rattle.one_shot_checks.proofs.laws.printed_certificates_hold.Goals as goal

pub returns : goal.returns
returns c = record { selfmates = λ g n. self_prints g n; helpmates = λ g n. help_prints g n }
