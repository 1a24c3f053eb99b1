use Rattle.std.proofs.Common.{◌≡◌, ◌∙◌, ◌⊎◌, inl, inr, refl, sym, subst, arith}
use Rattle.io_ports.proofs.Asked.{reads_more, reads_none}
use Rattle.io_ports.specs.declared.source.Got.{Got}
use Rattle.io_ports.specs.declared.source.Got.TheVariants as got
use Rattle.session_model.proofs.Wider.{uci_is_wider}
use Rattle.session_model.specs.UciSession.{uci}
use Rattle.session_model.proofs.Ending.{part_broken, part_here, spoke_end, spoke_quit, took_quit}
use Rattle.session_model.proofs.Lawful.{uci_is_lawful}
use Rattle.session_model.specs.Lines.{HasLine}
use Rattle.session_model.proofs.Turning.{first_turn, next_turn}
use Rattle.uci_front.proofs.HeldLemmas.{on_err}
use Rattle.uci_front.proofs.serving.serve_lent.Goals as goal

got_one : (next : Got) → (next ≡ got.Line) ⊎ (next ≡ got.TooLong) → HasLine next
got_one next (inl is) = subst HasLine (sym is) tt
got_one next (inr is) = subst HasLine (sym is) tt

pub loop-init : goal.loop-init
loop-init g c = record {
  so_far = first_turn uci _ c.args.sink.now c.args.clock.now c.args.session.now c.next_line-next.result c.next_line-next.new.line c.next_line-next.ensures.takes (reads_none c.args.files.now) c.next_line-next.ensures.owed;
  same = refl;
  at_end = c.next_line-next.ensures.end;
  failed = c.next_line-next.ensures.cause.failed;
  source_later = c.next_line-next.ensures.cause.later;
  sink_later = omega arith;
}

pub returns-in-End-clause-spoke : goal.returns-in-End-clause-spoke
returns-in-End-clause-spoke g c =
    spoke_end uci _ uci_is_lawful (λ reads r. r.found) c.loop.invariant.so_far c.in-End.is (c.loop.invariant.at_end c.in-End.is)

pub returns-in-Failed-clause-part : goal.returns-in-Failed-clause-part
returns-in-Failed-clause-part g c = part_here uci _ uci_is_lawful (λ reads r. r.found) c.loop.invariant.so_far

pub returns-then-quits-clause-spoke : goal.returns-then-quits-clause-spoke
returns-then-quits-clause-spoke g c =
    spoke_quit uci _ uci_is_lawful (λ reads r. r.found) c.loop.invariant.so_far (got_one c.loop.next c.in-Line.is) (sym c.quits.ensures ∙ c.if-quits.true)

pub returns-then-quits-clause-quit : goal.returns-then-quits-clause-quit
returns-then-quits-clause-quit g c = λ _.
    took_quit uci (g.F.Files.contents c.args.files.now) uci_is_lawful (λ reads r. r.found) c.loop.invariant.so_far (got_one c.loop.next c.in-Line.is) (sym c.quits.ensures ∙ c.if-quits.true)

pub returns-in_err-next-in-Line-clause-part : goal.returns-in_err-next-in-Line-clause-part
returns-in_err-next-in-Line-clause-part g c =
    on_err c.from_residual.result
    (part_broken uci _ _ uci_is_lawful (λ reads r. r.found) (λ xs ys r q. reads_more r q) c.loop.invariant.same (got_one c.loop.next c.in-Line.is)
    (sym c.quits.ensures ∙ c.if-quits.false) c.loop.invariant.so_far c.in_err-next-in-Line.ensures.unserved)

pub loop-preserved : goal.loop-preserved
loop-preserved g c = record {
  so_far = next_turn uci uci_is_wider (λ xs ys r q. reads_more r q) (got_one c.loop.next c.in-Line.is) (sym c.quits.ensures ∙ c.if-quits.false) c.loop.invariant.so_far c.in_ok-next-in-Line.ensures.served;
  same = c.in_ok-next-in-Line.ensures.files ∙ c.loop.invariant.same;
  at_end = c.in_ok-next-in-Line.ensures.end;
  failed = λ h. let rose = c.in_ok-next-in-Line.ensures.failed h in omega arith;
  source_later = omega arith;
  sink_later = omega arith;
}

pub returns-clause-part : goal.returns-clause-part
returns-clause-part g c = part_here uci _ uci_is_lawful (λ reads r. r.found) c.loop.invariant.so_far
