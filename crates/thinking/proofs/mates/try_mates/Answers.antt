use Rattle.std.proofs.Common.{◌≡◌, ◌∙◌, ◌+◌, Some, None, Ok, Err, refl, sym, ap, subst, arith, rules}
use Rattle.rules_model.specs.declared.board.Position.{Position}
use Rattle.rules_model.specs.declared.board.Side.{Side}
use Rattle.mate_showing.proofs.OrderLaws.{from_ok}
use Rattle.mate_showing.specs.declared.answer.Settled.TheVariants as settled
use Rattle.watching.specs.declared.halt.Halt.TheVariants as halt
use Rattle.watching.specs.Watched.{moment, world}
use Rattle.session_model.specs.Mates as Mates
use Rattle.session_model.specs.Mates.{IsEvidence, IsNoWin, IsShown}
use Rattle.thinking.specs.declared.mates.MateAttempt.{MateAttempt}
use Rattle.thinking.specs.declared.mates.MateAttempt.TheVariants.{Shown, Unsettled, Stopped}
use Rattle.thinking.specs.Views.{evidence_of}
use Rattle.thinking.proofs.FindingLaws.{evidence_same, root_there}
use Rattle.thinking.proofs.JudgeLaws.{failed_causes, ok_causes}
use Rattle.thinking.proofs.TryLaws.{stopped_by, trying_broke, trying_decides, trying_done, trying_more}
use Rattle.thinking.proofs.mates.try_mates.Goals as goal

pub returns-in-Err-Fault-clause-broke : goal.returns-in-Err-Fault-clause-broke
returns-in-Err-Fault-clause-broke g c why is =
    let end : c.solve_once-solved.result ≡ Err (halt.Fault c.in-Err-Fault.why) = search rules in
    trying_broke (world g.S.Source.left g.S.Source.owed g.S.Source.faults g.K.Sink.taken g.K.Sink.faults g.C.Clock.given g.C.Clock.count g.C.Clock.last) c.args.dialect c.args.game.now c.args.last c.loop-before.before (moment c.args.source.now c.args.sink.now c.args.clock.now 0) (moment c.loop-before.source c.loop-before.sink c.loop-before.clock 0) c.loop-before.invariant.so_far (moment c.solve_once-solved.new.source c.solve_once-solved.new.sink c.solve_once-solved.new.clock 0) (omega arith)
    (c.solve_once-solved.ensures.sought.watched.ended (halt.Fault c.in-Err-Fault.why) end).broke

pub returns-in-Err-Fault-clause-causes : goal.returns-in-Err-Fault-clause-causes
returns-in-Err-Fault-clause-causes g c =
    let end : c.solve_once-solved.result ≡ Err (halt.Fault c.in-Err-Fault.why) = search rules in
    let causes = failed_causes {T = MateAttempt} (world g.S.Source.left g.S.Source.owed g.S.Source.faults g.K.Sink.taken g.K.Sink.faults g.C.Clock.given g.C.Clock.count g.C.Clock.last) (moment c.loop-before.source c.loop-before.sink c.loop-before.clock 0) (moment c.solve_once-solved.new.source c.solve_once-solved.new.sink c.solve_once-solved.new.clock c.solve_once-solved.ensures.sought.entered) c.args.dialect _ c.in-Err-Fault.why (Err c.in-Err-Fault.why) refl
    (c.solve_once-solved.ensures.sought.watched.ended (halt.Fault c.in-Err-Fault.why) end) in
    let source = causes.source_later in let sink = causes.sink_later in
    record {
      source_later = omega (arith, source);
      sink_later = omega (arith, sink);
      source_failed = λ e. let rose = causes.source_failed e in omega (arith, rose);
      sink_failed = λ e. let rose = causes.sink_failed e in omega (arith, rose);
    }

pub unreachable-requires : goal.unreachable-requires
unreachable-requires g c =
    let end : c.solve_once-solved.result ≡ Ok (settled.Shown c.in-Ok-Shown.strategy) = search rules in
    let shown = rw end at c.solve_once-solved.ensures.right in
    root_there c.args.game.now (c.loop-before.before + 1) c.in-Ok-Shown.strategy (subst (λ (a : Side). IsShown c.args.game.now (c.loop-before.before + 1) a c.in-Ok-Shown.strategy) (ap (λ (p : Position). p.side) c.position.ensures.is) shown) c.requires.some
    (sym c.root_move.ensures ∙ c.in_default.is)

pub returns-in-Ok-Shown-clause-tried : goal.returns-in-Ok-Shown-clause-tried
returns-in-Ok-Shown-clause-tried g c =
    let end : c.solve_once-solved.result ≡ Ok (settled.Shown c.in-Ok-Shown.strategy) = search rules in
    let shown = rw end at c.solve_once-solved.ensures.right in
    let mine = subst (λ (a : Side). IsShown c.args.game.now (c.loop-before.before + 1) a c.in-Ok-Shown.strategy) (ap (λ (p : Position). p.side) c.position.ensures.is) shown in
    let gone = from_ok _ _ end c.solve_once-solved.ensures.sought.watched.gone in
    trying_done (world g.S.Source.left g.S.Source.owed g.S.Source.faults g.K.Sink.taken g.K.Sink.faults g.C.Clock.given g.C.Clock.count g.C.Clock.last) c.args.dialect c.args.game.now c.args.last c.loop-before.before (moment c.args.source.now c.args.sink.now c.args.clock.now 0) (moment c.loop-before.source c.loop-before.sink c.loop-before.clock 0) c.loop-before.invariant.so_far (moment c.solve_once-solved.new.source c.solve_once-solved.new.sink c.solve_once-solved.new.clock c.solve_once-solved.ensures.sought.entered) c.args.limits c.solve_once-solved.new.line None gone
    (Shown (c.loop-before.before + 1) c.in-Ok-Shown.strategy c.in-Some.best) (omega arith) refl ((trying_decides (world g.S.Source.left g.S.Source.owed g.S.Source.faults g.K.Sink.taken g.K.Sink.faults g.C.Clock.given g.C.Clock.count g.C.Clock.last) c.args.dialect c.args.game.now c.args.last c.loop-before.before (moment c.args.source.now c.args.sink.now c.args.clock.now 0) (moment c.loop-before.source c.loop-before.sink c.loop-before.clock 0) c.loop-before.invariant.so_far (omega arith)), mine, sym c.root_move.ensures ∙ c.in-Some.is) (λ taken first may. tt)

pub returns-in-Ok-Unsettled-clause-tried : goal.returns-in-Ok-Unsettled-clause-tried
returns-in-Ok-Unsettled-clause-tried g c =
    let end : c.solve_once-solved.result ≡ Ok (settled.Unsettled c.in-Ok-Unsettled.repeat c.in-Ok-Unsettled.counters) = search rules in
    let unsettled = rw end at c.solve_once-solved.ensures.right in
    let same = evidence_same unsettled.evidence (evidence_of c.evidence_at.result) (unsettled.repeat_is ∙ sym c.evidence_at.ensures.repeat) (unsettled.counters_are ∙ sym c.evidence_at.ensures.counters) in
    let proves = subst (λ (a : Side). IsEvidence c.args.game.now (c.loop-before.before + 1) a (evidence_of c.evidence_at.result)) (ap (λ (p : Position). p.side) c.position.ensures.is)
    (subst (λ (e : Mates.Evidence). IsEvidence c.args.game.now (c.loop-before.before + 1) c.position.result.now.side e) same unsettled.proves) in
    let gone = from_ok _ _ end c.solve_once-solved.ensures.sought.watched.gone in
    trying_done (world g.S.Source.left g.S.Source.owed g.S.Source.faults g.K.Sink.taken g.K.Sink.faults g.C.Clock.given g.C.Clock.count g.C.Clock.last) c.args.dialect c.args.game.now c.args.last c.loop-before.before (moment c.args.source.now c.args.sink.now c.args.clock.now 0) (moment c.loop-before.source c.loop-before.sink c.loop-before.clock 0) c.loop-before.invariant.so_far (moment c.solve_once-solved.new.source c.solve_once-solved.new.sink c.solve_once-solved.new.clock c.solve_once-solved.ensures.sought.entered) c.args.limits c.solve_once-solved.new.line None gone
    (Unsettled (c.loop-before.before + 1) c.evidence_at.result) (omega arith) refl ((trying_decides (world g.S.Source.left g.S.Source.owed g.S.Source.faults g.K.Sink.taken g.K.Sink.faults g.C.Clock.given g.C.Clock.count g.C.Clock.last) c.args.dialect c.args.game.now c.args.last c.loop-before.before (moment c.args.source.now c.args.sink.now c.args.clock.now 0) (moment c.loop-before.source c.loop-before.sink c.loop-before.clock 0) c.loop-before.invariant.so_far (omega arith)), proves) (λ taken first may. tt)

pub returns-in-Err-Cut-clause-tried : goal.returns-in-Err-Cut-clause-tried
returns-in-Err-Cut-clause-tried g c =
    let end : c.solve_once-solved.result ≡ Err (halt.Cut c.in-Err-Cut.why) = search rules in
    let gone = c.solve_once-solved.ensures.sought.watched.ended (halt.Cut c.in-Err-Cut.why) end in
    trying_done (world g.S.Source.left g.S.Source.owed g.S.Source.faults g.K.Sink.taken g.K.Sink.faults g.C.Clock.given g.C.Clock.count g.C.Clock.last) c.args.dialect c.args.game.now c.args.last c.loop-before.before (moment c.args.source.now c.args.sink.now c.args.clock.now 0) (moment c.loop-before.source c.loop-before.sink c.loop-before.clock 0) c.loop-before.invariant.so_far (moment c.solve_once-solved.new.source c.solve_once-solved.new.sink c.solve_once-solved.new.clock c.solve_once-solved.ensures.sought.entered) c.args.limits c.solve_once-solved.new.line (Some c.in-Err-Cut.why) gone
    (Stopped (c.loop-before.before + 1) c.in-Err-Cut.why) (omega arith) refl (trying_decides (world g.S.Source.left g.S.Source.owed g.S.Source.faults g.K.Sink.taken g.K.Sink.faults g.C.Clock.given g.C.Clock.count g.C.Clock.last) c.args.dialect c.args.game.now c.args.last c.loop-before.before (moment c.args.source.now c.args.sink.now c.args.clock.now 0) (moment c.loop-before.source c.loop-before.sink c.loop-before.clock 0) c.loop-before.invariant.so_far (omega arith)) (λ taken first may. stopped_by (world g.S.Source.left g.S.Source.owed g.S.Source.faults g.K.Sink.taken g.K.Sink.faults g.C.Clock.given g.C.Clock.count g.C.Clock.last) c.args.dialect c.args.game.now c.args.last c.loop-before.before (moment c.args.source.now c.args.sink.now c.args.clock.now 0) (moment c.loop-before.source c.loop-before.sink c.loop-before.clock 0) c.loop-before.invariant.so_far (moment c.solve_once-solved.new.source c.solve_once-solved.new.sink c.solve_once-solved.new.clock c.solve_once-solved.ensures.sought.entered) c.args.limits c.solve_once-solved.new.line (Some c.in-Err-Cut.why) gone c.in-Err-Cut.why taken first (omega arith) may)

pub loop-before-preserved : goal.loop-before-preserved
loop-before-preserved g c =
    let end : c.solve_once-solved.result ≡ Ok settled.NoMate = search rules in
    let gone = from_ok _ _ end c.solve_once-solved.ensures.sought.watched.gone in
    let lost = rw end at c.solve_once-solved.ensures.right in
    let source = gone.later.source_later in let sink = gone.later.sink_later in
    record {
      so_far = trying_more (world g.S.Source.left g.S.Source.owed g.S.Source.faults g.K.Sink.taken g.K.Sink.faults g.C.Clock.given g.C.Clock.count g.C.Clock.last) c.args.dialect c.args.game.now c.args.last c.loop-before.before (moment c.args.source.now c.args.sink.now c.args.clock.now 0) (moment c.loop-before.source c.loop-before.sink c.loop-before.clock 0) c.loop-before.invariant.so_far (moment c.solve_once-solved.new.source c.solve_once-solved.new.sink c.solve_once-solved.new.clock c.solve_once-solved.ensures.sought.entered) c.args.limits c.solve_once-solved.new.line None gone refl
          (subst (λ (a : Side). IsNoWin c.args.game.now (c.loop-before.before + 1) a) (ap (λ (p : Position). p.side) c.position.ensures.is) lost);
      same = c.solve_once-solved.ensures.same ∙ c.loop-before.invariant.same;
      source_later = omega (arith, source);
      sink_later = omega (arith, sink);
    }

pub returns-in-Ok-Shown-clause-causes : goal.returns-in-Ok-Shown-clause-causes
returns-in-Ok-Shown-clause-causes g c =
    let end : c.solve_once-solved.result ≡ Ok (settled.Shown c.in-Ok-Shown.strategy) = search rules in
    let gone = from_ok _ _ end c.solve_once-solved.ensures.sought.watched.gone in
    let source = gone.later.source_later in let sink = gone.later.sink_later in
    ok_causes (world g.S.Source.left g.S.Source.owed g.S.Source.faults g.K.Sink.taken g.K.Sink.faults g.C.Clock.given g.C.Clock.count g.C.Clock.last) (moment c.args.source.now c.args.sink.now c.args.clock.now 0) (moment c.solve_once-solved.new.source c.solve_once-solved.new.sink c.solve_once-solved.new.clock 0) (Shown (c.loop-before.before + 1) c.in-Ok-Shown.strategy c.in-Some.best)
    (record { source_later = omega (arith, source); sink_later = omega (arith, sink) })

pub returns-in-Ok-Unsettled-clause-causes : goal.returns-in-Ok-Unsettled-clause-causes
returns-in-Ok-Unsettled-clause-causes g c =
    let end : c.solve_once-solved.result ≡ Ok (settled.Unsettled c.in-Ok-Unsettled.repeat c.in-Ok-Unsettled.counters) = search rules in
    let gone = from_ok _ _ end c.solve_once-solved.ensures.sought.watched.gone in
    let source = gone.later.source_later in let sink = gone.later.sink_later in
    ok_causes (world g.S.Source.left g.S.Source.owed g.S.Source.faults g.K.Sink.taken g.K.Sink.faults g.C.Clock.given g.C.Clock.count g.C.Clock.last) (moment c.args.source.now c.args.sink.now c.args.clock.now 0) (moment c.solve_once-solved.new.source c.solve_once-solved.new.sink c.solve_once-solved.new.clock 0) (Unsettled (c.loop-before.before + 1) c.evidence_at.result)
    (record { source_later = omega (arith, source); sink_later = omega (arith, sink) })

pub returns-in-Err-Cut-clause-causes : goal.returns-in-Err-Cut-clause-causes
returns-in-Err-Cut-clause-causes g c =
    let end : c.solve_once-solved.result ≡ Err (halt.Cut c.in-Err-Cut.why) = search rules in
    let gone = c.solve_once-solved.ensures.sought.watched.ended (halt.Cut c.in-Err-Cut.why) end in
    let source = gone.later.source_later in let sink = gone.later.sink_later in
    ok_causes (world g.S.Source.left g.S.Source.owed g.S.Source.faults g.K.Sink.taken g.K.Sink.faults g.C.Clock.given g.C.Clock.count g.C.Clock.last) (moment c.args.source.now c.args.sink.now c.args.clock.now 0) (moment c.solve_once-solved.new.source c.solve_once-solved.new.sink c.solve_once-solved.new.clock 0) (Stopped (c.loop-before.before + 1) c.in-Err-Cut.why)
    (record { source_later = omega (arith, source); sink_later = omega (arith, sink) })

pub returns-in-Err-Cut-clause-end : goal.returns-in-Err-Cut-clause-end
returns-in-Err-Cut-clause-end g c =
    let end : c.solve_once-solved.result ≡ Err (halt.Cut c.in-Err-Cut.why) = search rules in
    (c.solve_once-solved.ensures.sought.watched.ended (halt.Cut c.in-Err-Cut.why) end).end
