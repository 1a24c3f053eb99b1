use Rattle.std.proofs.Common.{refl, arith}
use Rattle.std.proofs.lemmas.Result.{err_from_is_err_and}
use Rattle.io_ports.specs.Lines.{Text}
use Rattle.proof_text.proofs.StrategyLemmas.{fault_same, step_same, taken_end, taken_fault, taken_long, taken_more, taken_none, taken_so_far, taken_stop}
use Rattle.proof_text.proofs.strategy_lines.take_lines.Goals as goal

pub loop-count-init : goal.loop-count-init
loop-count-init g c = record { taken = taken_none c.args.rules.now _ c.args.reader.now; sound = c.requires.sound; later = omega arith }

pub loop-count-preserved : goal.loop-count-preserved
loop-count-preserved g c = record {
  taken = taken_more c.args.rules.now _ _ _ c.args.reader.now c.loop-count.reader c.take_line.new.self (Text c.next_line.new.line) c.loop-count.invariant.taken c.in-Line.ensures.takes
      (step_same c.args.rules.now c.loop-count.reader _ _ _ c.text.ensures.bytes c.in_ok-take_line-in-Line.ensures.takes);
  sound = c.in_ok-take_line-in-Line.ensures.sound;
  later = omega arith;
}

pub returns-in_err-take_line-in-Line-clause-heard : goal.returns-in_err-take_line-in-Line-clause-heard
returns-in_err-take_line-in-Line-clause-heard g c =
    let p = err_from_is_err_and c.from_residual.result c.from_residual.ensures.1 in
    rw (p.1, p.2) (taken_fault c.args.rules.now _ _ _ c.args.reader.now c.loop-count.reader (Text c.next_line.new.line) c.in_err-take_line-in-Line.field-0.0 c.loop-count.invariant.taken c.in-Line.ensures.takes
    (fault_same c.args.rules.now c.loop-count.reader _ _ c.in_err-take_line-in-Line.field-0.0 c.text.ensures.bytes c.in_err-take_line-in-Line.ensures.takes.1))

pub returns-in_err-take_line-in-Line-clause-cause : goal.returns-in_err-take_line-in-Line-clause-cause
returns-in_err-take_line-in-Line-clause-cause g c =
    let p = err_from_is_err_and c.from_residual.result c.from_residual.ensures.1 in
    rw (p.1, p.2) (record { later = omega arith; failed = λ unread. absurd unread })

pub returns-in-TooLong-clause-heard : goal.returns-in-TooLong-clause-heard
returns-in-TooLong-clause-heard g c =
    taken_long c.args.rules.now _ _ _ c.args.reader.now c.loop-count.reader c.fault_of_long_line.result c.loop-count.invariant.taken c.in-TooLong.ensures.takes (c.fault_of_long_line.ensures c.args.rules.now)

pub returns-in-End-clause-heard : goal.returns-in-End-clause-heard
returns-in-End-clause-heard g c = taken_end c.args.rules.now _ _ _ c.args.reader.now c.loop-count.reader c.loop-count.invariant.taken c.in-End.ensures.takes (c.in-End.ensures.end refl)

pub returns-in-Failed-clause-heard : goal.returns-in-Failed-clause-heard
returns-in-Failed-clause-heard g c = taken_stop c.args.rules.now _ _ _ c.args.reader.now c.loop-count.reader c.loop-count.invariant.taken c.in-Failed.ensures.takes

pub returns-clause-heard : goal.returns-clause-heard
returns-clause-heard g c = taken_so_far c.args.rules.now _ _ c.args.reader.now c.loop-count.reader c.loop-count.invariant.taken
