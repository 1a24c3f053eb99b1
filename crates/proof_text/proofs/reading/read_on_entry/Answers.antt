use Rattle.std.proofs.Common.{Err, ap, sym, ◌∙◌}
use Rattle.std.specs.Prelude.{Result}
use Rattle.std.specs.Borrow.{Bor}
use Rattle.std.proofs.lemmas.Result.{err_from_is_err_and}
use Rattle.rules_model.specs.declared.rules.Rules.{Rules}
use Rattle.variant_model.specs.declared.fault.SectionFault.{SectionFault}
use Rattle.variant_rules.specs.View.{lent}
use Rattle.proof_text.specs.declared.fault.ProofFault.TheVariants.{RefusedRules}
use Rattle.proof_text.specs.declared.source_lines.NoProof.TheVariants.{Faulty}
use Rattle.proof_text.specs.Reading.{with_rules}
use Rattle.proof_text.proofs.ReadingLemmas.{nothing-heard, why-heard}
use Rattle.proof_text.proofs.reading.read_on_entry.Goals as goal

pub returns-in_err-copy_of-in-Err-clause-heard : goal.returns-in_err-copy_of-in-Err-clause-heard
returns-in_err-copy_of-in-Err-clause-heard g c =
    let p = err_from_is_err_and c.from_residual.result c.from_residual.ensures.1 in
    rw (p.1, p.2) (nothing-heard _ (with_rules c.args.number (lent c.args.found)))

pub returns-in_ok-copy_of-in-Err-clause-heard : goal.returns-in_ok-copy_of-in-Err-clause-heard
returns-in_ok-copy_of-in-Err-clause-heard g c =
    why-heard _ (with_rules c.args.number (lent c.args.found)) (Faulty (RefusedRules c.in_ok-copy_of-in-Err.field-0))
    (λ lines. ap (λ (found : Result (Bor Rules) (Bor SectionFault)). (with_rules c.args.number (lent found)).says lines) c.in-Err.is
    ∙ ap (λ (why : SectionFault). Err (RefusedRules why)) (sym c.in_ok-copy_of-in-Err.ensures))
