use Rattle.std.proofs.Common.{refl, arith}
use Rattle.std.proofs.lemmas.Result.{err_from_is_err_and}
use Rattle.game_text.proofs.ReadLemmas.{unplayed_heard}
use Rattle.suite.proofs.ReadLemmas.{adds_same, read_end, read_long, read_more, read_none, read_so_far, read_stop, read_unadded}
use Rattle.suite.proofs.reading.add_lines.Goals as goal

pub loop-number-init : goal.loop-number-init
loop-number-init g c = record { read = read_none c.args.variants.now _ c.args.suite.now; listed = c.requires.listed; later = omega arith }

pub loop-number-preserved : goal.loop-number-preserved
loop-number-preserved g c = record {
  read = read_more c.args.variants.now _ _ _ c.args.suite.now c.loop-number.suite c.add_line.new.suite c.loop-number.number c.next_line.new.line c.loop-number.invariant.read c.in-Line.ensures.takes (rw c.text.ensures.bytes at c.in_ok-add_line-in-Line.ensures.adds);
  listed = c.in_ok-add_line-in-Line.ensures.listed;
  later = omega arith;
}

pub returns-in_err-add_line-in-Line-clause-heard : goal.returns-in_err-add_line-in-Line-clause-heard
returns-in_err-add_line-in-Line-clause-heard g c =
    let p = err_from_is_err_and c.from_residual.result c.from_residual.ensures.1 in
    rw (p.1, p.2) (read_unadded c.args.variants.now _ _ _ c.args.suite.now c.loop-number.suite c.add_line.new.suite c.add_line.new.suite c.loop-number.number c.next_line.new.line c.in_err-add_line-in-Line.field-0.0 c.loop-number.invariant.read c.in-Line.ensures.takes
    (adds_same c.args.variants.now c.loop-number.suite c.add_line.new.suite c.loop-number.number _ _ c.in_err-add_line-in-Line.field-0.0 c.text.ensures.bytes c.in_err-add_line-in-Line.ensures.adds))

pub returns-in_err-add_line-in-Line-clause-cause : goal.returns-in_err-add_line-in-Line-clause-cause
returns-in_err-add_line-in-Line-clause-cause g c =
    let p = err_from_is_err_and c.from_residual.result c.from_residual.ensures.1 in
    rw (p.1, p.2) (record { later = omega arith; failed = λ unread. absurd (unplayed_heard _ c.add_line.new.suite c.in_err-add_line-in-Line.field-0.0 c.in_err-add_line-in-Line.ensures.adds unread) })

pub returns-in-TooLong-clause-heard : goal.returns-in-TooLong-clause-heard
returns-in-TooLong-clause-heard g c = read_long c.args.variants.now _ _ _ c.args.suite.now c.loop-number.suite c.loop-number.number c.loop-number.invariant.read c.in-TooLong.ensures.takes

pub returns-in-End-clause-heard : goal.returns-in-End-clause-heard
returns-in-End-clause-heard g c = read_end c.args.variants.now _ _ _ c.args.suite.now c.loop-number.suite c.loop-number.number c.loop-number.invariant.read c.in-End.ensures.takes (c.in-End.ensures.end refl)

pub returns-in-Failed-clause-heard : goal.returns-in-Failed-clause-heard
returns-in-Failed-clause-heard g c = read_stop c.args.variants.now _ _ _ c.args.suite.now c.loop-number.suite c.loop-number.number c.loop-number.invariant.read c.in-Failed.ensures.takes

pub returns-clause-heard : goal.returns-clause-heard
returns-clause-heard g c = read_so_far c.args.variants.now _ _ c.args.suite.now c.loop-number.suite c.loop-number.number c.loop-number.invariant.read
