use Rattle.std.proofs.Common.{refl, arith}
use Rattle.std.proofs.lemmas.Result.{err_from_is_err_and}
use Rattle.io_ports.specs.Lines.{Text}
use Rattle.game_play.specs.Played.{story}
use Rattle.cert_text.specs.View.{so_far}
use Rattle.cert_text.proofs.LineLemmas.{fault_same, step_same, taken_end, taken_fault, taken_long, taken_more, taken_none, taken_so_far, taken_stop}
use Rattle.cert_text.proofs.reading.take_lines.Goals as goal

pub loop-count-init : goal.loop-count-init
loop-count-init g c = record { taken = taken_none c.args.game.now.rules (story c.args.game.now) _ (so_far c.args.reader.now); path = c.requires.path; later = omega arith }

pub loop-count-preserved : goal.loop-count-preserved
loop-count-preserved g c = record {
  taken = taken_more c.args.game.now.rules (story c.args.game.now) _ _ _ (so_far c.args.reader.now) (so_far c.loop-count.reader) (so_far c.take_line.new.self) (Text c.next_line.new.line) c.loop-count.invariant.taken c.in-Line.ensures.takes
      (step_same c.args.game.now.rules (story c.args.game.now) (so_far c.loop-count.reader) _ _ _ c.text.ensures.bytes c.in_ok-take_line-in-Line.ensures.takes);
  path = c.in_ok-take_line-in-Line.ensures.path;
  later = omega arith;
}

pub returns-in_err-take_line-in-Line-clause-heard : goal.returns-in_err-take_line-in-Line-clause-heard
returns-in_err-take_line-in-Line-clause-heard g c =
    let p = err_from_is_err_and c.from_residual.result c.from_residual.ensures.1 in
    rw (p.1, p.2) (taken_fault c.args.game.now.rules (story c.args.game.now) _ _ _ (so_far c.args.reader.now) (so_far c.loop-count.reader) (Text c.next_line.new.line) c.in_err-take_line-in-Line.field-0.0 c.loop-count.invariant.taken c.in-Line.ensures.takes
    (fault_same c.args.game.now.rules (story c.args.game.now) (so_far c.loop-count.reader) _ _ c.in_err-take_line-in-Line.field-0.0 c.text.ensures.bytes c.in_err-take_line-in-Line.ensures.takes))

pub returns-in_err-take_line-in-Line-clause-cause : goal.returns-in_err-take_line-in-Line-clause-cause
returns-in_err-take_line-in-Line-clause-cause g c =
    let p = err_from_is_err_and c.from_residual.result c.from_residual.ensures.1 in
    rw (p.1, p.2) (record { later = omega arith; failed = λ unread. absurd unread })

pub returns-in-TooLong-clause-heard : goal.returns-in-TooLong-clause-heard
returns-in-TooLong-clause-heard g c =
    taken_long c.args.game.now.rules (story c.args.game.now) _ _ _ (so_far c.args.reader.now) (so_far c.loop-count.reader) c.fault_of_long_line.result c.loop-count.invariant.taken c.in-TooLong.ensures.takes c.fault_of_long_line.ensures

pub returns-in-End-clause-heard : goal.returns-in-End-clause-heard
returns-in-End-clause-heard g c = taken_end c.args.game.now.rules (story c.args.game.now) _ _ _ (so_far c.args.reader.now) (so_far c.loop-count.reader) c.loop-count.invariant.taken c.in-End.ensures.takes (c.in-End.ensures.end refl)

pub returns-in-Failed-clause-heard : goal.returns-in-Failed-clause-heard
returns-in-Failed-clause-heard g c = taken_stop c.args.game.now.rules (story c.args.game.now) _ _ _ (so_far c.args.reader.now) (so_far c.loop-count.reader) c.loop-count.invariant.taken c.in-Failed.ensures.takes

pub returns-clause-heard : goal.returns-clause-heard
returns-clause-heard g c = taken_so_far c.args.game.now.rules (story c.args.game.now) _ _ (so_far c.args.reader.now) (so_far c.loop-count.reader) c.loop-count.invariant.taken
