use Rattle.std.proofs.Common.{◌≡◌, Ok, Err, refl, arith, rules}
use Rattle.io_ports.specs.declared.limits.SearchFault.TheVariants as fault
use Rattle.mate_showing.proofs.OrderLaws.{from_ok}
use Rattle.watching.specs.declared.halt.Halt.TheVariants as halt
use Rattle.watching.specs.LookLaws.{on_err}
use Rattle.watching.specs.Watched.{moment, world}
use Rattle.thinking.specs.declared.judging.DepthSearched.{DepthSearched}
use Rattle.thinking.specs.declared.judging.DepthSearched.TheVariants as explored
use Rattle.thinking.specs.Views.{task_seen}
use Rattle.thinking.proofs.JudgeLaws.{explored_broke, explored_found, explored_off, failed_causes, ok_causes}
use Rattle.thinking.proofs.judging.search_and_judge.Goals as goal

pub returns-in-Err-Fault-clause-broken : goal.returns-in-Err-Fault-clause-broken
returns-in-Err-Fault-clause-broken g c =
    let end : c.search_once-searched.result ≡ Err (halt.Fault c.in-Err-Fault.why) = search rules in
    (c.search_once-searched.ensures.sought.watched.ended (halt.Fault c.in-Err-Fault.why) end).broke

pub returns-in-Err-Fault-clause-causes : goal.returns-in-Err-Fault-clause-causes
returns-in-Err-Fault-clause-causes g c =
    let end : c.search_once-searched.result ≡ Err (halt.Fault c.in-Err-Fault.why) = search rules in
    failed_causes {T = DepthSearched} (world g.S.Source.left g.S.Source.owed g.S.Source.faults g.K.Sink.taken g.K.Sink.faults g.C.Clock.given g.C.Clock.count g.C.Clock.last) (moment c.args.source.now c.args.sink.now c.args.clock.now 0) (moment c.search_once-searched.new.source c.search_once-searched.new.sink c.search_once-searched.new.clock c.search_once-searched.ensures.sought.entered) c.args.dialect _ c.in-Err-Fault.why (Err c.in-Err-Fault.why) refl
    (c.search_once-searched.ensures.sought.watched.ended (halt.Fault c.in-Err-Fault.why) end)

pub returns-in-Err-Cut-clause-explored : goal.returns-in-Err-Cut-clause-explored
returns-in-Err-Cut-clause-explored g c =
    let end : c.search_once-searched.result ≡ Err (halt.Cut c.in-Err-Cut.why) = search rules in
    explored_off (world g.S.Source.left g.S.Source.owed g.S.Source.faults g.K.Sink.taken g.K.Sink.faults g.C.Clock.given g.C.Clock.count g.C.Clock.last) c.args.dialect (task_seen c.args.task.now) c.args.depth c.args.limits c.search_once-searched.new.line refl c.in-Err-Cut.why (c.search_once-searched.ensures.sought.watched.ended (halt.Cut c.in-Err-Cut.why) end)

pub returns-in-Err-Cut-clause-end : goal.returns-in-Err-Cut-clause-end
returns-in-Err-Cut-clause-end g c =
    let end : c.search_once-searched.result ≡ Err (halt.Cut c.in-Err-Cut.why) = search rules in
    (c.search_once-searched.ensures.sought.watched.ended (halt.Cut c.in-Err-Cut.why) end).end

pub returns-in-Err-Cut-clause-causes : goal.returns-in-Err-Cut-clause-causes
returns-in-Err-Cut-clause-causes g c =
    let end : c.search_once-searched.result ≡ Err (halt.Cut c.in-Err-Cut.why) = search rules in
    ok_causes (world g.S.Source.left g.S.Source.owed g.S.Source.faults g.K.Sink.taken g.K.Sink.faults g.C.Clock.given g.C.Clock.count g.C.Clock.last) (moment c.args.source.now c.args.sink.now c.args.clock.now 0) (moment c.search_once-searched.new.source c.search_once-searched.new.sink c.search_once-searched.new.clock c.search_once-searched.ensures.sought.entered) (explored.Off c.in-Err-Cut.why)
    (c.search_once-searched.ensures.sought.watched.ended (halt.Cut c.in-Err-Cut.why) end).later

pub returns-in_err-judged-in-Ok-clause-broken : goal.returns-in_err-judged-in-Ok-clause-broken
returns-in_err-judged-in-Ok-clause-broken g c =
    let end : c.search_once-searched.result ≡ Ok c.in-Ok.found = search rules in
    let gone = from_ok _ _ end c.search_once-searched.ensures.sought.watched.gone in
    on_err c.from_residual.result
    (explored_broke (world g.S.Source.left g.S.Source.owed g.S.Source.faults g.K.Sink.taken g.K.Sink.faults g.C.Clock.given g.C.Clock.count g.C.Clock.last) c.args.dialect (task_seen c.args.task.now) c.args.depth c.args.limits c.search_once-searched.new.line refl (moment c.seek_mate.new.source c.seek_mate.new.sink c.seek_mate.new.clock 0) gone c.in_err-judged-in-Ok.ensures.broken)

pub returns-in_err-judged-in-Ok-clause-causes : goal.returns-in_err-judged-in-Ok-clause-causes
returns-in_err-judged-in-Ok-clause-causes g c =
    let end : c.search_once-searched.result ≡ Ok c.in-Ok.found = search rules in
    let gone = from_ok _ _ end c.search_once-searched.ensures.sought.watched.gone in
    let source = gone.later.source_later in let sink = gone.later.sink_later in
    let causes = c.seek_mate.ensures.causes in
    let source_later = causes.source_later in let sink_later = causes.sink_later in
    record {
      source_later = omega (arith, source, source_later);
      sink_later = omega (arith, sink, sink_later);
      source_failed = λ e.
          let back : c.seek_mate.result ≡ Err fault.ReadFault = search rules in
          let rose = causes.source_failed back in omega (arith, rose, source);
      sink_failed = λ e.
          let back : c.seek_mate.result ≡ Err fault.WriteFault = search rules in
          let rose = causes.sink_failed back in omega (arith, rose, sink);
    }

pub returns-in_ok-judged-in-Ok-clause-explored : goal.returns-in_ok-judged-in-Ok-clause-explored
returns-in_ok-judged-in-Ok-clause-explored g c =
    let end : c.search_once-searched.result ≡ Ok c.in-Ok.found = search rules in
    let gone = from_ok _ _ end c.search_once-searched.ensures.sought.watched.gone in
    let found = rw end at c.search_once-searched.ensures.found in
    explored_found (world g.S.Source.left g.S.Source.owed g.S.Source.faults g.K.Sink.taken g.K.Sink.faults g.C.Clock.given g.C.Clock.count g.C.Clock.last) c.args.dialect (task_seen c.args.task.now) c.args.depth c.args.limits c.search_once-searched.new.line refl (moment c.seek_mate.new.source c.seek_mate.new.sink c.seek_mate.new.clock 0) c.seek_mate.new.line c.in-Ok.found.nodes c.in_ok-judged-in-Ok.judged gone found.few
    (rw c.quota_left.ensures at c.in_ok-judged-in-Ok.ensures.judged)

pub returns-in_ok-judged-in-Ok-clause-causes : goal.returns-in_ok-judged-in-Ok-clause-causes
returns-in_ok-judged-in-Ok-clause-causes g c =
    let end : c.search_once-searched.result ≡ Ok c.in-Ok.found = search rules in
    let gone = from_ok _ _ end c.search_once-searched.ensures.sought.watched.gone in
    let source = gone.later.source_later in let sink = gone.later.sink_later in
    let causes = c.seek_mate.ensures.causes in
    let source_later = causes.source_later in let sink_later = causes.sink_later in
    ok_causes (world g.S.Source.left g.S.Source.owed g.S.Source.faults g.K.Sink.taken g.K.Sink.faults g.C.Clock.given g.C.Clock.count g.C.Clock.last) (moment c.args.source.now c.args.sink.now c.args.clock.now 0) (moment c.seek_mate.new.source c.seek_mate.new.sink c.seek_mate.new.clock 0) (explored.Found c.in_ok-judged-in-Ok.judged)
    (record { source_later = omega (arith, source, source_later); sink_later = omega (arith, sink, sink_later) })
