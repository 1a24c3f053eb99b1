use Rattle.std.proofs.Common.{◌+◌, ◌≤◌, ◌∙◌, length, ap, arith}
use Rattle.std.specs.Option.{option_copied}
use Rattle.std.proofs.lemmas.Result.{err_from_is_err_and}
use Rattle.variant_ini.proofs.LineLaws.{bytes_left, bytes_left-cut}
use Rattle.variant_ini.proofs.ReadingLaws.{stands_first, stands_next, first_fault_is, all_read, fault_of-fits, fault_of-large, IsFaultOrMemory-weaker}
use Rattle.variant_ini.proofs.reading.read_sections.Goals as goal

pub returns-then-bytes-gt-LARGEST_FILE : goal.returns-then-bytes-gt-LARGEST_FILE
returns-then-bytes-gt-LARGEST_FILE c = fault_of-large _ (omega arith)

pub loop-rest-init : goal.loop-rest-init
loop-rest-init c = record { stands = rw c.new-sections.ensures.items (stands_first c.args.bytes.now); bound = omega arith }

pub loop-rest-smaller : goal.loop-rest-smaller
loop-rest-smaller c =
    omega (arith, ap (λ r. bytes_left (option_copied r)) c.in-Some.is, bytes_left-cut c.in-Some.text.now, ap bytes_left c.cut_at.ensures.after)

pub loop-rest-preserved : goal.loop-rest-preserved
loop-rest-preserved c =
    let stands = rw c.in-Some.is at c.loop-rest.invariant.stands in
    let bound : c.loop-rest.number + (length c.in-Some.text.now + 1) ≤ length c.args.bytes.now + 1 = rw c.in-Some.is at c.loop-rest.invariant.bound in
    record {
      stands = stands_next _ _ _ _ _ _ stands c.cut_at.ensures.before c.cut_at.ensures.after _ c.in_ok-take_line.ensures;
      bound = omega (arith, bound, bytes_left-cut c.in-Some.text.now, ap bytes_left c.cut_at.ensures.after);
    }

pub returns-in_err-take_line : goal.returns-in_err-take_line
returns-in_err-take_line c =
    let stands = rw c.in-Some.is at c.loop-rest.invariant.stands in
    let p = err_from_is_err_and c.from_residual.result c.from_residual.ensures.1 in
    rw (p.1, p.2)
    (IsFaultOrMemory-weaker _ _
    (λ e h. fault_of-fits c.args.bytes.now (omega arith) ∙ first_fault_is _ _ _ _ _ _ stands c.cut_at.ensures.before c.cut_at.ensures.after e h)
    _ c.in_err-take_line.ensures)

pub returns : goal.returns
returns c =
    let read = all_read _ _ _ (rw c.in_default.is at c.loop-rest.invariant.stands) in
    (fault_of-fits c.args.bytes.now (omega arith) ∙ read.0, read.1)
