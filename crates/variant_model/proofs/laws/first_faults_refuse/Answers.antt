use Rattle.std.proofs.Common.{Some, None}
use Rattle.variant_model.proofs.EntryLaws.{entry_by_fault}
use Rattle.variant_model.proofs.laws.first_faults_refuse.Goals as goal

pub returns-clause-faulty : goal.returns-clause-faulty
returns-clause-faulty c = λ sections place fault e. entry_by_fault sections place (Some fault) e

pub returns-clause-faultless : goal.returns-clause-faultless
returns-clause-faultless c = λ sections place e. entry_by_fault sections place None e
