use Rattle.std.specs.Prelude.{Err}
use Rattle.variant_rules.specs.declared.fault.NoSections.TheVariants as no_sections
use Rattle.variant_rules.specs.Looked.{HasSections}
use Rattle.variant_rules.proofs.FileLemmas.{looked_so}
use Rattle.uci_front.proofs.SessionLemmas.{file_refused, file_taken}
use Rattle.uci_front.proofs.without_search.load_file.Goals as goal

pub returns-in-Ok-clause-loads : goal.returns-in-Ok-clause-loads
returns-in-Ok-clause-loads g c =
    looked_so _ _ _ c.in-Ok.ensures (λ reads has. file_taken c.args.name.now c.args.session.now c.load.new.self c.in-Ok.sections reads c.load.result has c.load.ensures.outcome)

pub returns-in-Err-Fault-clause-loads : goal.returns-in-Err-Fault-clause-loads
returns-in-Err-Fault-clause-loads g c =
    looked_so _ (λ reads. HasSections c.args.name.now reads (Err (no_sections.Fault c.in-Err-Fault.fault))) _ (rw c.in-Err-Fault.field-0-is at c.in-Err-Fault.ensures)
    (λ reads has. file_refused (Unit {0}) c.args.name.now c.args.session.now c.args.session.now c.in-Err-Fault.fault reads c.refused_file.result has c.refused_file.ensures)
