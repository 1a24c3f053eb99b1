use Rattle.std.proofs.Common.{refl, arith}
use Rattle.std.proofs.lemmas.Result.{err_from_is_err_and}
use Rattle.game_text.proofs.ReadLemmas.{plays_same, read_end, read_long, read_more, read_none, read_so_far, read_stop, read_unplayed, unplayed_heard}
use Rattle.game_text.proofs.read.read_moves.Goals as goal

pub loop-number-init : goal.loop-number-init
loop-number-init g c = record { read = read_none _ c.args.game.now; later = omega arith }

pub loop-number-preserved : goal.loop-number-preserved
loop-number-preserved g c = record {
  read = read_more _ _ _ c.args.game.now c.loop-number.game c.play_line.new.game c.loop-number.number c.next_line.new.line c.loop-number.invariant.read c.in-Line.ensures.takes (rw c.text.ensures.bytes at c.in_ok-play_line-in-Line.ensures);
  later = omega arith;
}

pub returns-in_err-play_line-in-Line-clause-heard : goal.returns-in_err-play_line-in-Line-clause-heard
returns-in_err-play_line-in-Line-clause-heard g c =
    let p = err_from_is_err_and c.from_residual.result c.from_residual.ensures.1 in
    rw (p.1, p.2) (read_unplayed _ _ _ c.args.game.now c.loop-number.game c.play_line.new.game c.play_line.new.game c.loop-number.number c.next_line.new.line c.in_err-play_line-in-Line.field-0.0 c.loop-number.invariant.read c.in-Line.ensures.takes
    (plays_same c.loop-number.game c.play_line.new.game _ _ c.in_err-play_line-in-Line.field-0.0 c.text.ensures.bytes c.in_err-play_line-in-Line.ensures))

pub returns-in_err-play_line-in-Line-clause-cause : goal.returns-in_err-play_line-in-Line-clause-cause
returns-in_err-play_line-in-Line-clause-cause g c =
    let p = err_from_is_err_and c.from_residual.result c.from_residual.ensures.1 in
    rw (p.1, p.2) (record { later = omega arith; failed = λ unread. absurd (unplayed_heard _ c.play_line.new.game c.in_err-play_line-in-Line.field-0.0 c.in_err-play_line-in-Line.ensures unread) })

pub returns-in-TooLong-clause-heard : goal.returns-in-TooLong-clause-heard
returns-in-TooLong-clause-heard g c = read_long _ _ _ c.args.game.now c.loop-number.game c.loop-number.number c.loop-number.invariant.read c.in-TooLong.ensures.takes

pub returns-in-End-clause-heard : goal.returns-in-End-clause-heard
returns-in-End-clause-heard g c = read_end _ _ _ c.args.game.now c.loop-number.game c.loop-number.number c.loop-number.invariant.read c.in-End.ensures.takes (c.in-End.ensures.end refl)

pub returns-in-Failed-clause-heard : goal.returns-in-Failed-clause-heard
returns-in-Failed-clause-heard g c = read_stop _ _ _ c.args.game.now c.loop-number.game c.loop-number.number c.loop-number.invariant.read c.in-Failed.ensures.takes

pub returns-clause-heard : goal.returns-clause-heard
returns-clause-heard g c = read_so_far _ _ c.args.game.now c.loop-number.game c.loop-number.number c.loop-number.invariant.read
