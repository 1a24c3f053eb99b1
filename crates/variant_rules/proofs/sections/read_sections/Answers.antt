use Rattle.std.proofs.Common.{◌≡◌, rules}
use Rattle.std.proofs.lemmas.Result.{err_from_is_err_and}
use Rattle.variant_rules.proofs.FileLemmas.{faulty_refused, file_taken, looked_so, unkept_refused, unread_refused}
use Rattle.variant_rules.proofs.sections.read_sections.Goals as goal

pub returns-in_err-bytes : goal.returns-in_err-bytes
returns-in_err-bytes g c =
    let p = err_from_is_err_and c.from_residual.result c.from_residual.ensures.1 in
    rw (p.1, p.2) (looked_so _ _ _ c.in_err-bytes.ensures (λ reads has. unread_refused c.args.name.now reads c.in_err-bytes.field-0.0 has))

pub returns-in_err-sections : goal.returns-in_err-sections
returns-in_err-sections g c =
    let p = err_from_is_err_and c.from_residual-in_err-sections.result c.from_residual-in_err-sections.ensures.1 in
    rw (p.1, p.2) (looked_so _ _ _ c.in_ok-bytes.ensures (λ reads has. unkept_refused c.args.name.now reads c.in_ok-bytes.bytes has))

pub returns-in_err-add : goal.returns-in_err-add
returns-in_err-add g c =
    let p = err_from_is_err_and c.from_residual-in_err-add.result c.from_residual-in_err-add.ensures.1 in
    let same : c.as_slice.result.now ≡ c.in_ok-bytes.bytes = search rules in
    rw (p.1, p.2) (looked_so _ _ _ c.in_ok-bytes.ensures (λ reads has. faulty_refused c.args.name.now reads _ c.in_err-add.field-0.0 has (rw same at c.in_err-add.ensures.fault)))

pub returns : goal.returns
returns g c =
    let same : c.as_slice.result.now ≡ c.in_ok-bytes.bytes = search rules in
    looked_so _ _ _ c.in_ok-bytes.ensures
    (λ reads has. file_taken c.args.name.now reads c.in_ok-bytes.bytes _ has (rw same at c.in_ok-add.ensures.accepted) (rw (same, c.in_ok-sections.ensures.are) at c.in_ok-add.ensures.added))
