use Rattle.std.proofs.Common.{◌≡◌, ◌∙◌, Some, None, Ok, Err, refl, sym, ap, subst, arith, rules}
use mir.Syntax.{w32}
use Rattle.std.proofs.lemmas.Int.{ints, to_z-of_z}
use mir.Val.{to_z, of_z}
use Rattle.rules_model.specs.declared.board.Position.{Position}
use Rattle.rules_model.specs.declared.board.Side.{Side}
use Rattle.game_play.specs.Played.{legal_in}
use Rattle.mate_showing.proofs.OrderLaws.{from_ok}
use Rattle.mate_showing.specs.declared.answer.Settled.TheVariants as settled
use Rattle.watching.specs.declared.halt.Halt.TheVariants as halt
use Rattle.watching.specs.Watched.{moment, world}
use Rattle.session_model.proofs.Reports.{sought_range}
use Rattle.session_model.specs.Mates.{IsNoWin, IsEvidence, IsShown, favoured, mover}
use Rattle.session_model.specs.Mates as Mates
use Rattle.session_model.specs.Thinking.{mate_sought}
use Rattle.thinking.specs.declared.depth_result.CutSolve.{CutSolve}
use Rattle.thinking.specs.declared.judging.DepthJudged.{DepthJudged}
use Rattle.thinking.specs.Views.{evidence_of, task_seen}
use Rattle.thinking.proofs.FindingLaws.{evidence_same, favours_mover, finding_mated, finding_mates, finding_open, finding_points, legal_some, root_there, settled_by, settled_none}
use Rattle.thinking.proofs.JudgeLaws.{failed_causes, judged_cut, judged_none, judged_solved, near_of, ok_causes}
use Rattle.thinking.proofs.judging.seek_mate.Goals as goal

pub returns-in_default-clause-judged : goal.returns-in_default-clause-judged
returns-in_default-clause-judged g c =
    let value = to_z-of_z w32 c.args.value c.ranges.value in
    let is = value ∙ c.requires.value in
    let sought = sym (c.mate_sought.ensures c.args.depth is) ∙ c.in_default.is in
    judged_none (world g.S.Source.left g.S.Source.owed g.S.Source.faults g.K.Sink.taken g.K.Sink.faults g.C.Clock.given g.C.Clock.count g.C.Clock.last) c.args.dialect (moment c.args.source.now c.args.sink.now c.args.clock.now 0) (task_seen c.args.task.now) c.args.depth c.args.limits c.args.line.now c.settled.result c.settled.ensures.found c.settled.ensures.cut
    (finding_points (task_seen c.args.task.now) c.args.depth (to_z w32 (of_z w32 c.args.value)) c.args.best c.args.nodes is c.requires.few (omega arith) None c.requires.best (settled_none (task_seen c.args.task.now) c.args.depth (to_z w32 (of_z w32 c.args.value)) c.args.best c.args.nodes is c.requires.few (omega arith) sought))

pub solve_once-solved-requires-clause-n : goal.solve_once-solved-requires-clause-n
solve_once-solved-requires-clause-n g c =
    let value = to_z-of_z w32 c.args.value c.ranges.value in
    let is = value ∙ c.requires.value in
    let sought : mate_sought (task_seen c.args.task.now) c.args.depth ≡ Some c.in-Some.moves = sym (c.mate_sought.ensures c.args.depth is) ∙ c.in-Some.is in
    λ κs bounds. sought_range (task_seen c.args.task.now) c.args.depth c.in-Some.moves sought

pub returns-in-Err-Fault-clause-broken : goal.returns-in-Err-Fault-clause-broken
returns-in-Err-Fault-clause-broken g c =
    let end : c.solve_once-solved.result ≡ Err (halt.Fault c.in-Err-Fault.why) = search rules in
    (c.solve_once-solved.ensures.sought.watched.ended (halt.Fault c.in-Err-Fault.why) end).broke

pub returns-in-Err-Fault-clause-causes : goal.returns-in-Err-Fault-clause-causes
returns-in-Err-Fault-clause-causes g c =
    let end : c.solve_once-solved.result ≡ Err (halt.Fault c.in-Err-Fault.why) = search rules in
    failed_causes {T = DepthJudged} (world g.S.Source.left g.S.Source.owed g.S.Source.faults g.K.Sink.taken g.K.Sink.faults g.C.Clock.given g.C.Clock.count g.C.Clock.last) (moment c.args.source.now c.args.sink.now c.args.clock.now 0) (moment c.solve_once-solved.new.source c.solve_once-solved.new.sink c.solve_once-solved.new.clock c.solve_once-solved.ensures.sought.entered) c.args.dialect _ c.in-Err-Fault.why (Err c.in-Err-Fault.why) refl
    (c.solve_once-solved.ensures.sought.watched.ended (halt.Fault c.in-Err-Fault.why) end)

pub returns-then-value-lt0-clause-judged : goal.returns-then-value-lt0-clause-judged
returns-then-value-lt0-clause-judged g c =
    let end : c.solve_once-solved.result ≡ Ok (settled.Shown c.in-Ok-Shown.strategy) = search rules in
    let gone = from_ok _ _ end c.solve_once-solved.ensures.sought.watched.gone in
    let value = to_z-of_z w32 c.args.value c.ranges.value in
    let is = value ∙ c.requires.value in
    let sought : mate_sought (task_seen c.args.task.now) c.args.depth ≡ Some c.in-Some.moves = sym (c.mate_sought.ensures c.args.depth is) ∙ c.in-Some.is in
    let side = c.favoured-side.ensures ∙ ap (λ (p : Position). favoured p.side (to_z w32 (of_z w32 c.args.value))) c.position.ensures.is in
    let shown = rw end at c.solve_once-solved.ensures.right in
    judged_solved (world g.S.Source.left g.S.Source.owed g.S.Source.faults g.K.Sink.taken g.K.Sink.faults g.C.Clock.given g.C.Clock.count g.C.Clock.last) c.args.dialect (task_seen c.args.task.now) c.args.depth c.args.limits c.solve_once-solved.new.line refl c.in-Some.moves c.settled-then-value-lt0.result c.settled-then-value-lt0.ensures.found c.settled-then-value-lt0.ensures.cut
    gone (near_of (task_seen c.args.task.now) c.args.depth c.in-Some.moves c.requires.task.some c.requires.least sought)
    (finding_mated (task_seen c.args.task.now) c.args.depth (to_z w32 (of_z w32 c.args.value)) c.args.best c.args.nodes is c.requires.few (omega arith) c.in-Some.moves c.in-Ok-Shown.strategy sought (omega (arith, ints)) (subst (λ (a : Side). IsShown c.args.task.now.game.now c.in-Some.moves a c.in-Ok-Shown.strategy) side shown) c.requires.best)

pub unreachable-requires : goal.unreachable-requires
unreachable-requires g c =
    let end : c.solve_once-solved.result ≡ Ok (settled.Shown c.in-Ok-Shown.strategy) = search rules in
    let value = to_z-of_z w32 c.args.value c.ranges.value in
    let is = value ∙ c.requires.value in
    let side = c.favoured-side.ensures ∙ ap (λ (p : Position). favoured p.side (to_z w32 (of_z w32 c.args.value))) c.position.ensures.is in
    let shown = rw end at c.solve_once-solved.ensures.right in
    let mine : c.favoured-side.result ≡ mover c.args.task.now.game.now = side ∙ (favours_mover (mover c.args.task.now.game.now) (to_z w32 (of_z w32 c.args.value)) (omega (arith, ints))).1 in
    root_there c.args.task.now.game.now c.in-Some.moves c.in-Ok-Shown.strategy (subst (λ (a : Side). IsShown c.args.task.now.game.now c.in-Some.moves a c.in-Ok-Shown.strategy) mine shown)
    (legal_some c.args.task.now.roots.now (legal_in c.args.task.now.game.now) c.requires.task.legal c.requires.task.some) (sym c.root_move.ensures ∙ c.in_default-root_move.is)

pub returns-in-Ok-NoMate-clause-judged : goal.returns-in-Ok-NoMate-clause-judged
returns-in-Ok-NoMate-clause-judged g c =
    let end : c.solve_once-solved.result ≡ Ok settled.NoMate = search rules in
    let gone = from_ok _ _ end c.solve_once-solved.ensures.sought.watched.gone in
    let value = to_z-of_z w32 c.args.value c.ranges.value in
    let is = value ∙ c.requires.value in
    let sought : mate_sought (task_seen c.args.task.now) c.args.depth ≡ Some c.in-Some.moves = sym (c.mate_sought.ensures c.args.depth is) ∙ c.in-Some.is in
    let side = c.favoured-side.ensures ∙ ap (λ (p : Position). favoured p.side (to_z w32 (of_z w32 c.args.value))) c.position.ensures.is in
    let lost = rw end at c.solve_once-solved.ensures.right in
    let none = subst (λ (a : Side). IsNoWin c.args.task.now.game.now c.in-Some.moves a) (side ∙ ap (favoured (mover c.args.task.now.game.now)) is) lost in
    judged_solved (world g.S.Source.left g.S.Source.owed g.S.Source.faults g.K.Sink.taken g.K.Sink.faults g.C.Clock.given g.C.Clock.count g.C.Clock.last) c.args.dialect (task_seen c.args.task.now) c.args.depth c.args.limits c.solve_once-solved.new.line refl c.in-Some.moves c.settled-in-Ok-NoMate.result c.settled-in-Ok-NoMate.ensures.found c.settled-in-Ok-NoMate.ensures.cut
    gone (near_of (task_seen c.args.task.now) c.args.depth c.in-Some.moves c.requires.task.some c.requires.least sought)
    (finding_points (task_seen c.args.task.now) c.args.depth (to_z w32 (of_z w32 c.args.value)) c.args.best c.args.nodes is c.requires.few (omega arith) None c.requires.best (settled_by (task_seen c.args.task.now) c.args.depth (to_z w32 (of_z w32 c.args.value)) c.args.best c.args.nodes is c.requires.few (omega arith) c.in-Some.moves None sought none))

pub returns-in-Ok-Unsettled-clause-judged : goal.returns-in-Ok-Unsettled-clause-judged
returns-in-Ok-Unsettled-clause-judged g c =
    let end : c.solve_once-solved.result ≡ Ok (settled.Unsettled c.in-Ok-Unsettled.repeat c.in-Ok-Unsettled.counters) = search rules in
    let gone = from_ok _ _ end c.solve_once-solved.ensures.sought.watched.gone in
    let value = to_z-of_z w32 c.args.value c.ranges.value in
    let is = value ∙ c.requires.value in
    let sought : mate_sought (task_seen c.args.task.now) c.args.depth ≡ Some c.in-Some.moves = sym (c.mate_sought.ensures c.args.depth is) ∙ c.in-Some.is in
    let side = c.favoured-side.ensures ∙ ap (λ (p : Position). favoured p.side (to_z w32 (of_z w32 c.args.value))) c.position.ensures.is in
    let unsettled = rw end at c.solve_once-solved.ensures.right in
    let same = evidence_same unsettled.evidence (evidence_of c.evidence_at.result) (unsettled.repeat_is ∙ sym c.evidence_at.ensures.repeat) (unsettled.counters_are ∙ sym c.evidence_at.ensures.counters) in
    let proves = subst (λ (a : Side). IsEvidence c.args.task.now.game.now c.in-Some.moves a (evidence_of c.evidence_at.result)) (side ∙ ap (favoured (mover c.args.task.now.game.now)) is)
    (subst (λ (e : Mates.Evidence). IsEvidence c.args.task.now.game.now c.in-Some.moves c.favoured-side.result e) same unsettled.proves) in
    judged_solved (world g.S.Source.left g.S.Source.owed g.S.Source.faults g.K.Sink.taken g.K.Sink.faults g.C.Clock.given g.C.Clock.count g.C.Clock.last) c.args.dialect (task_seen c.args.task.now) c.args.depth c.args.limits c.solve_once-solved.new.line refl c.in-Some.moves c.settled-in-Ok-Unsettled.result c.settled-in-Ok-Unsettled.ensures.found c.settled-in-Ok-Unsettled.ensures.cut
    gone (near_of (task_seen c.args.task.now) c.args.depth c.in-Some.moves c.requires.task.some c.requires.least sought)
    (finding_points (task_seen c.args.task.now) c.args.depth (to_z w32 (of_z w32 c.args.value)) c.args.best c.args.nodes is c.requires.few (omega arith) (Some c.evidence_at.result) c.requires.best (settled_by (task_seen c.args.task.now) c.args.depth (to_z w32 (of_z w32 c.args.value)) c.args.best c.args.nodes is c.requires.few (omega arith) c.in-Some.moves (Some (evidence_of c.evidence_at.result)) sought proves))

pub returns-in-Some-root_move-clause-judged : goal.returns-in-Some-root_move-clause-judged
returns-in-Some-root_move-clause-judged g c =
    let end : c.solve_once-solved.result ≡ Ok (settled.Shown c.in-Ok-Shown.strategy) = search rules in
    let gone = from_ok _ _ end c.solve_once-solved.ensures.sought.watched.gone in
    let value = to_z-of_z w32 c.args.value c.ranges.value in
    let is = value ∙ c.requires.value in
    let sought : mate_sought (task_seen c.args.task.now) c.args.depth ≡ Some c.in-Some.moves = sym (c.mate_sought.ensures c.args.depth is) ∙ c.in-Some.is in
    let side = c.favoured-side.ensures ∙ ap (λ (p : Position). favoured p.side (to_z w32 (of_z w32 c.args.value))) c.position.ensures.is in
    let shown = rw end at c.solve_once-solved.ensures.right in
    judged_solved (world g.S.Source.left g.S.Source.owed g.S.Source.faults g.K.Sink.taken g.K.Sink.faults g.C.Clock.given g.C.Clock.count g.C.Clock.last) c.args.dialect (task_seen c.args.task.now) c.args.depth c.args.limits c.solve_once-solved.new.line refl c.in-Some.moves c.settled-in-Ok-Shown.result c.settled-in-Ok-Shown.ensures.found c.settled-in-Ok-Shown.ensures.cut
    gone (near_of (task_seen c.args.task.now) c.args.depth c.in-Some.moves c.requires.task.some c.requires.least sought)
    (finding_mates (task_seen c.args.task.now) c.args.depth (to_z w32 (of_z w32 c.args.value)) c.in-Some-root_move.chosen c.args.nodes is c.requires.few (omega arith) c.in-Some.moves c.in-Ok-Shown.strategy sought (omega (arith, ints)) (subst (λ (a : Side). IsShown c.args.task.now.game.now c.in-Some.moves a c.in-Ok-Shown.strategy) side shown) (sym c.root_move.ensures ∙ c.in-Some-root_move.is))

pub returns-in-Err-Cut-clause-judged : goal.returns-in-Err-Cut-clause-judged
returns-in-Err-Cut-clause-judged g c =
    let end : c.solve_once-solved.result ≡ Err (halt.Cut c.in-Err-Cut.why) = search rules in
    let value = to_z-of_z w32 c.args.value c.ranges.value in
    let is = value ∙ c.requires.value in
    let sought : mate_sought (task_seen c.args.task.now) c.args.depth ≡ Some c.in-Some.moves = sym (c.mate_sought.ensures c.args.depth is) ∙ c.in-Some.is in
    let solve : CutSolve = record { moves = c.in-Some.moves; why = c.in-Err-Cut.why } in
    judged_cut (world g.S.Source.left g.S.Source.owed g.S.Source.faults g.K.Sink.taken g.K.Sink.faults g.C.Clock.given g.C.Clock.count g.C.Clock.last) c.args.dialect (task_seen c.args.task.now) c.args.depth c.args.limits c.solve_once-solved.new.line refl solve c.settled-found.ensures.found
    (c.solve_once-solved.ensures.sought.watched.ended (halt.Cut c.in-Err-Cut.why) end) (near_of (task_seen c.args.task.now) c.args.depth c.in-Some.moves c.requires.task.some c.requires.least sought)
    (finding_open (task_seen c.args.task.now) c.args.depth (to_z w32 (of_z w32 c.args.value)) c.args.best c.args.nodes is c.requires.few (omega arith) solve sought c.requires.best)

pub returns-in-Err-Cut-clause-end : goal.returns-in-Err-Cut-clause-end
returns-in-Err-Cut-clause-end g c =
    let end : c.solve_once-solved.result ≡ Err (halt.Cut c.in-Err-Cut.why) = search rules in
    (c.solve_once-solved.ensures.sought.watched.ended (halt.Cut c.in-Err-Cut.why) end).end

pub returns-in-Err-Cut-clause-causes : goal.returns-in-Err-Cut-clause-causes
returns-in-Err-Cut-clause-causes g c =
    let end : c.solve_once-solved.result ≡ Err (halt.Cut c.in-Err-Cut.why) = search rules in
    ok_causes (world g.S.Source.left g.S.Source.owed g.S.Source.faults g.K.Sink.taken g.K.Sink.faults g.C.Clock.given g.C.Clock.count g.C.Clock.last) (moment c.args.source.now c.args.sink.now c.args.clock.now 0) (moment c.solve_once-solved.new.source c.solve_once-solved.new.sink c.solve_once-solved.new.clock c.solve_once-solved.ensures.sought.entered) _
    (c.solve_once-solved.ensures.sought.watched.ended (halt.Cut c.in-Err-Cut.why) end).later

pub returns-in-Ok-NoMate-clause-causes : goal.returns-in-Ok-NoMate-clause-causes
returns-in-Ok-NoMate-clause-causes g c =
    let end : c.solve_once-solved.result ≡ Ok settled.NoMate = search rules in
    let gone = from_ok _ _ end c.solve_once-solved.ensures.sought.watched.gone in
    ok_causes (world g.S.Source.left g.S.Source.owed g.S.Source.faults g.K.Sink.taken g.K.Sink.faults g.C.Clock.given g.C.Clock.count g.C.Clock.last) (moment c.args.source.now c.args.sink.now c.args.clock.now 0) (moment c.solve_once-solved.new.source c.solve_once-solved.new.sink c.solve_once-solved.new.clock c.solve_once-solved.ensures.sought.entered) _
    gone.later

pub returns-in-Ok-Unsettled-clause-causes : goal.returns-in-Ok-Unsettled-clause-causes
returns-in-Ok-Unsettled-clause-causes g c =
    let end : c.solve_once-solved.result ≡ Ok (settled.Unsettled c.in-Ok-Unsettled.repeat c.in-Ok-Unsettled.counters) = search rules in
    let gone = from_ok _ _ end c.solve_once-solved.ensures.sought.watched.gone in
    ok_causes (world g.S.Source.left g.S.Source.owed g.S.Source.faults g.K.Sink.taken g.K.Sink.faults g.C.Clock.given g.C.Clock.count g.C.Clock.last) (moment c.args.source.now c.args.sink.now c.args.clock.now 0) (moment c.solve_once-solved.new.source c.solve_once-solved.new.sink c.solve_once-solved.new.clock c.solve_once-solved.ensures.sought.entered) _
    gone.later

pub returns-then-value-lt0-clause-causes : goal.returns-then-value-lt0-clause-causes
returns-then-value-lt0-clause-causes g c =
    let end : c.solve_once-solved.result ≡ Ok (settled.Shown c.in-Ok-Shown.strategy) = search rules in
    let gone = from_ok _ _ end c.solve_once-solved.ensures.sought.watched.gone in
    ok_causes (world g.S.Source.left g.S.Source.owed g.S.Source.faults g.K.Sink.taken g.K.Sink.faults g.C.Clock.given g.C.Clock.count g.C.Clock.last) (moment c.args.source.now c.args.sink.now c.args.clock.now 0) (moment c.solve_once-solved.new.source c.solve_once-solved.new.sink c.solve_once-solved.new.clock c.solve_once-solved.ensures.sought.entered) _
    gone.later

pub returns-in-Some-root_move-clause-causes : goal.returns-in-Some-root_move-clause-causes
returns-in-Some-root_move-clause-causes g c =
    let end : c.solve_once-solved.result ≡ Ok (settled.Shown c.in-Ok-Shown.strategy) = search rules in
    let gone = from_ok _ _ end c.solve_once-solved.ensures.sought.watched.gone in
    ok_causes (world g.S.Source.left g.S.Source.owed g.S.Source.faults g.K.Sink.taken g.K.Sink.faults g.C.Clock.given g.C.Clock.count g.C.Clock.last) (moment c.args.source.now c.args.sink.now c.args.clock.now 0) (moment c.solve_once-solved.new.source c.solve_once-solved.new.sink c.solve_once-solved.new.clock c.solve_once-solved.ensures.sought.entered) _
    gone.later
