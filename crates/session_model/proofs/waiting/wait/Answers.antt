use Rattle.std.proofs.Common.{◌≡◌, Err, ap, sym, ◌∙◌, arith, Some, None}
use Rattle.io_ports.specs.declared.limits.SearchFault.TheVariants as fault
use Rattle.watching.specs.declared.halt.Halt.TheVariants as halt
use Rattle.session_model.proofs.Listening.{heard_more, heard_broke, heard_off, stops_by, ends_by, failed_by}
use Rattle.session_model.proofs.waiting.wait.Goals as goal

pub returns-in-Err-Cut-clause-waited : goal.returns-in-Err-Cut-clause-waited
returns-in-Err-Cut-clause-waited g c =
    let cut = c.in-Err-Cut in let heeds = cut.ensures.ended (halt.Cut cut.why) (ap Err cut.field-0-is) in
    rw cut.why-is (record {
      ran = heard_more c.args.dialect c.next_line-got.result c.into.result c.next_line-got.new.line c.into.ensures c.loop.invariant.so_far c.next_line-got.ensures.takes (Some cut.why) heeds;
      stopped = stops_by c.args.dialect c.into.result c.next_line-got.new.line cut.why heeds.why_is;
    })

pub returns-in-Err-Cut-clause-end : goal.returns-in-Err-Cut-clause-end
returns-in-Err-Cut-clause-end g c =
    let cut = c.in-Err-Cut in let heeds = cut.ensures.ended (halt.Cut cut.why) (ap Err cut.field-0-is) in
    rw cut.why-is (λ e. c.next_line-got.ensures.end (ends_by c.args.dialect c.next_line-got.result c.into.result c.next_line-got.new.line cut.why c.into.ensures heeds.why_is e))

pub returns-in-Err-Cut-clause-owed : goal.returns-in-Err-Cut-clause-owed
returns-in-Err-Cut-clause-owed g c = c.next_line-got.ensures.owed ∙ c.loop.invariant.owed

pub returns-in-Err-Fault-clause-broken : goal.returns-in-Err-Fault-clause-broken
returns-in-Err-Fault-clause-broken g c =
    let failed = c.in-Err-Fault in let ended = failed.ensures.ended (halt.Fault failed.why) (ap Err failed.field-0-is) in
    rw failed.why-is (heard_broke c.args.dialect c.next_line-got.result c.into.result c.next_line-got.new.line c.into.ensures c.loop.invariant.so_far c.next_line-got.ensures.takes failed.why ended.0 ended.1.0)

pub returns-in-Err-Fault-clause-causes : goal.returns-in-Err-Fault-clause-causes
returns-in-Err-Fault-clause-causes g c =
    let failed = c.in-Err-Fault in let ended = failed.ensures.ended (halt.Fault failed.why) (ap Err failed.field-0-is) in
    rw failed.why-is (record {
      source_later = omega arith;
      sink_later = omega arith;
      source_failed = λ e.
          let is : failed.why ≡ fault.ReadFault = cc in
          let rose = c.next_line-got.ensures.cause.failed (failed_by c.next_line-got.result (sym c.into.ensures ∙ ended.1.1.0 is)) in omega arith;
      sink_failed = λ e. let is : failed.why ≡ fault.WriteFault = cc in let rose = ended.1.1.1 is in omega arith;
    })

pub loop-preserved : goal.loop-preserved
loop-preserved g c = record {
  so_far = heard_more c.args.dialect c.next_line-got.result c.into.result c.next_line-got.new.line c.into.ensures c.loop.invariant.so_far c.next_line-got.ensures.takes None c.in-Ok.ensures.heeds;
  owed = c.next_line-got.ensures.owed ∙ c.loop.invariant.owed;
  source_later = omega arith;
  sink_later = omega arith;
}

pub returns-clause-broken : goal.returns-clause-broken
returns-clause-broken g c = heard_off c.args.dialect fault.Memory c.loop.invariant.so_far
