use Rattle.std.proofs.Common.{true, false, refl, arith}
use Rattle.session_model.proofs.Wider.{cecp_is_wider}
use Rattle.session_model.specs.CecpSession.{cecp}
use Rattle.session_model.proofs.Ending.{nothing_found, nothing_more, part_broken, part_here, part_none, spoke_end, spoke_quit}
use Rattle.session_model.proofs.Lawful.{cecp_is_lawful}
use Rattle.session_model.proofs.Turning.{first_turn, next_turn}
use Rattle.cecp_front.specs.Reading.{NoReads}
use Rattle.cecp_front.proofs.SeekLaws.{on_error}
use Rattle.cecp_front.proofs.TurnLaws.{is_line, last_as, rose_later}
use Rattle.cecp_front.proofs.serving.serve_lent.Goals as goal

pub returns-in_err-line-clause-part : goal.returns-in_err-line-clause-part
returns-in_err-line-clause-part g c contents =
    on_error c.from_residual.result
    (part_none cecp NoReads contents c.args.session.now c.args.source.now c.args.sink.now c.args.clock.now refl)

pub loop-turn-init : goal.loop-turn-init
loop-turn-init g c = record {
  so_far = first_turn cecp NoReads c.args.sink.now c.args.clock.now c.args.session.now c.next_line-next.result c.next_line-next.new.line
      c.next_line-next.ensures.takes refl c.next_line-next.ensures.owed;
  at_end = c.next_line-next.ensures.end;
  failed = c.next_line-next.ensures.cause.failed;
  source_later = c.next_line-next.ensures.cause.later;
  sink_later = omega arith;
}

pub returns-in-End-clause-spoke : goal.returns-in-End-clause-spoke
returns-in-End-clause-spoke g c contents =
    spoke_end cecp contents cecp_is_lawful (nothing_found contents) c.loop-turn.invariant.so_far c.in-End.is
    (c.loop-turn.invariant.at_end c.in-End.is)

pub returns-in-Failed-clause-part : goal.returns-in-Failed-clause-part
returns-in-Failed-clause-part g c contents =
    part_here cecp contents cecp_is_lawful (nothing_found contents) c.loop-turn.invariant.so_far

pub returns-then-is_last-clause-spoke : goal.returns-then-is_last-clause-spoke
returns-then-is_last-clause-spoke g c contents =
    spoke_quit cecp contents cecp_is_lawful (nothing_found contents) c.loop-turn.invariant.so_far
    (is_line c.loop-turn.next c.in-Line.is)
    (last_as c.loop-turn.next c.text.result.now c.loop-turn.line c.is_last.result true c.text.ensures.bytes c.is_last.ensures c.if-is_last.true)

pub returns-in_err-next-in-Line-clause-part : goal.returns-in_err-next-in-Line-clause-part
returns-in_err-next-in-Line-clause-part g c contents =
    on_error c.from_residual-in_err-next-in-Line.result
    (part_broken cecp contents contents cecp_is_lawful (nothing_found contents) nothing_more refl
    (is_line c.loop-turn.next c.in-Line.is)
    (last_as c.loop-turn.next c.text.result.now c.loop-turn.line c.is_last.result false c.text.ensures.bytes c.is_last.ensures c.if-is_last.false)
    c.loop-turn.invariant.so_far (c.in_err-next-in-Line.ensures.unserved contents))

pub loop-turn-preserved : goal.loop-turn-preserved
loop-turn-preserved g c =
    let before = c.loop-turn.invariant.source_later in
    let since = c.in_ok-next-in-Line.ensures.causes.source_later in
    let sink_before = c.loop-turn.invariant.sink_later in
    let sink_since = c.in_ok-next-in-Line.ensures.causes.sink_later in
    record {
      so_far = next_turn cecp cecp_is_wider nothing_more (is_line c.loop-turn.next c.in-Line.is)
          (last_as c.loop-turn.next c.text.result.now c.loop-turn.line c.is_last.result false c.text.ensures.bytes c.is_last.ensures c.if-is_last.false)
          c.loop-turn.invariant.so_far c.in_ok-next-in-Line.ensures.served;
      at_end = c.in_ok-next-in-Line.ensures.end;
      failed = λ is. rose_later _ _ _ c.loop-turn.invariant.source_later (c.in_ok-next-in-Line.ensures.failed is);
      source_later = omega (arith, before, since);
      sink_later = omega (arith, sink_before, sink_since);
    }

pub returns-clause-part : goal.returns-clause-part
returns-clause-part g c contents =
    part_here cecp contents cecp_is_lawful (nothing_found contents) c.loop-turn.invariant.so_far
