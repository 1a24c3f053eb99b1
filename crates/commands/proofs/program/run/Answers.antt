use Rattle.commands.specs.Run.{FilesFailed}
use Rattle.one_shots.specs.Sessions.{to_do}
use Rattle.words.specs.View.{command_seen}
use Rattle.commands.proofs.RunLemmas.{is_err, not_six, ok_done, part_by, part_of, reached, refused, run_complete, run_did, run_part, run_statuses, run_unread, run_usage, sink_failed, source_failed}
use Rattle.commands.proofs.SessionLemmas.{opened_one_shot, refused_part, session_complete, session_did, session_part}
use Rattle.std.proofs.Common.{map, string_bytes, sym}
use Rattle.commands.proofs.program.run.Goals as goal

pub returns-in-None-clause-statuses : goal.returns-in-None-clause-statuses
returns-in-None-clause-statuses g c =
    run_statuses (g.F.Files.contents c.args.files.now) _ _ _ (map string_bytes c.args.words.now) c.answer_to.result
    (reached (g.F.Files.contents c.args.files.now) _ _ _ (map string_bytes c.args.words.now) c.in-Ok.opened c.answer_to.result c.in-Ok.ensures.opens c.answer_to.ensures.heard)
    _ _ _ _ c.finish.result c.finish.ensures.finishes

pub returns-in-None-clause-done : goal.returns-in-None-clause-done
returns-in-None-clause-done g c =
    λ done. run_did c.args.source.now c.answer_to.new.source c.args.sink.now c.finish.new.sink c.args.clock.now c.args.files.now c.open.new.files _ _ _ _ c.answer_to.result c.finish.result
    (reached (g.F.Files.contents c.args.files.now) _ _ _ (map string_bytes c.args.words.now) c.in-Ok.opened c.answer_to.result c.in-Ok.ensures.opens c.answer_to.ensures.heard)
    c.finish.ensures.finishes done

pub returns-in-None-clause-cut : goal.returns-in-None-clause-cut
returns-in-None-clause-cut g c =
    λ cut. let one = opened_one_shot _ (to_do (map string_bytes c.args.words.now)) c.in-Ok.opened c.in-Ok.ensures.opens c.in-None.ensures in
    part_of (to_do (map string_bytes c.args.words.now)) _ _ one
    (run_part c.args.source.now c.answer_to.new.source c.args.sink.now c.finish.new.sink c.args.clock.now c.args.files.now c.open.new.files _ _ _ c.answer_to.result c.finish.result one
    (reached (g.F.Files.contents c.args.files.now) _ _ _ (map string_bytes c.args.words.now) c.in-Ok.opened c.answer_to.result c.in-Ok.ensures.opens c.answer_to.ensures.heard)
    c.finish.ensures.finishes cut)

pub returns-in-None-clause-usage : goal.returns-in-None-clause-usage
returns-in-None-clause-usage g c =
    run_usage (g.F.Files.contents c.args.files.now) _ _ _ (map string_bytes c.args.words.now) c.answer_to.result
    (reached (g.F.Files.contents c.args.files.now) _ _ _ (map string_bytes c.args.words.now) c.in-Ok.opened c.answer_to.result c.in-Ok.ensures.opens c.answer_to.ensures.heard)
    _ _ _ _ c.finish.result c.finish.ensures.finishes

pub returns-in-None-clause-source_failed : goal.returns-in-None-clause-source_failed
returns-in-None-clause-source_failed g c =
    λ is. c.answer_to.ensures.cause.failed (source_failed c.answer_to.result _ _ _ _ c.finish.result c.finish.ensures.finishes
    (ok_done (g.F.Files.contents c.args.files.now) _ _ _ (map string_bytes c.args.words.now) c.answer_to.result
    (reached (g.F.Files.contents c.args.files.now) _ _ _ (map string_bytes c.args.words.now) c.in-Ok.opened c.answer_to.result c.in-Ok.ensures.opens c.answer_to.ensures.heard)) is)

pub returns-in-None-clause-silent : goal.returns-in-None-clause-silent
returns-in-None-clause-silent g c =
    λ one is. c.finish.ensures.unsaid (is_err c.answer_to.result (source_failed c.answer_to.result _ _ _ _ c.finish.result c.finish.ensures.finishes
    (ok_done (g.F.Files.contents c.args.files.now) _ _ _ (map string_bytes c.args.words.now) c.answer_to.result
    (reached (g.F.Files.contents c.args.files.now) _ _ _ (map string_bytes c.args.words.now) c.in-Ok.opened c.answer_to.result c.in-Ok.ensures.opens c.answer_to.ensures.heard)) is))

pub returns-in-None-clause-sink_failed : goal.returns-in-None-clause-sink_failed
returns-in-None-clause-sink_failed g c =
    λ is. sink_failed c.answer_to.result _ _ _ _ c.finish.result c.finish.ensures.finishes
    (ok_done (g.F.Files.contents c.args.files.now) _ _ _ (map string_bytes c.args.words.now) c.answer_to.result
    (reached (g.F.Files.contents c.args.files.now) _ _ _ (map string_bytes c.args.words.now) c.in-Ok.opened c.answer_to.result c.in-Ok.ensures.opens c.answer_to.ensures.heard)) c.answer_to.ensures.unsaid is

pub returns-in-None-clause-file_unread : goal.returns-in-None-clause-file_unread
returns-in-None-clause-file_unread g c =
    run_unread (g.F.Files.contents c.args.files.now) _ _ _ (map string_bytes c.args.words.now) c.answer_to.result
    (reached (g.F.Files.contents c.args.files.now) _ _ _ (map string_bytes c.args.words.now) c.in-Ok.opened c.answer_to.result c.in-Ok.ensures.opens c.answer_to.ensures.heard)
    _ _ _ _ c.finish.result c.finish.ensures.finishes _ _ (λ reads asks. asks.failed) (λ reads asks. asks.found)

pub returns-in-None-clause-unreached : goal.returns-in-None-clause-unreached
returns-in-None-clause-unreached g c =
    λ six. absurd (not_six c.answer_to.result c.in-Ok.opened.sections (command_seen c.in-Ok.opened.asked.command) _ _ _ _ _ _ _ c.finish.result c.answer_to.ensures.heard c.finish.ensures.finishes six)

pub returns-in-None-clause-complete : goal.returns-in-None-clause-complete
returns-in-None-clause-complete g c =
    run_complete (g.F.Files.contents c.args.files.now) _ _ _ (map string_bytes c.args.words.now) c.answer_to.result
    (reached (g.F.Files.contents c.args.files.now) _ _ _ (map string_bytes c.args.words.now) c.in-Ok.opened c.answer_to.result c.in-Ok.ensures.opens c.answer_to.ensures.heard)
    _ _ _ _ c.finish.result c.finish.ensures.finishes _ _ (λ reads asks. asks.failed) (λ reads asks. asks.found)

pub returns-in-Some-clause-done : goal.returns-in-Some-clause-done
returns-in-Some-clause-done g c =
    rw c.status_of.ensures
    (session_did (map string_bytes c.args.words.now) c.in-Ok.opened c.in-Some.dialect c.in-Ok.ensures.opens (sym c.in-Some.ensures) c.speak-ended.new.files _ _ _ c.speak-ended.result c.speak-ended.ensures.talks)

pub returns-in-Some-clause-cut : goal.returns-in-Some-clause-cut
returns-in-Some-clause-cut g c =
    rw c.status_of.ensures
    (session_part (map string_bytes c.args.words.now) c.in-Ok.opened c.in-Some.dialect c.in-Ok.ensures.opens (sym c.in-Some.ensures) c.speak-ended.new.files _ _ _ c.speak-ended.result c.speak-ended.ensures.talks)

pub returns-in-Some-clause-complete : goal.returns-in-Some-clause-complete
returns-in-Some-clause-complete g c =
    session_complete (map string_bytes c.args.words.now) c.in-Ok.opened c.in-Some.dialect c.in-Ok.ensures.opens (sym c.in-Some.ensures)
    (g.S.Source.left c.args.source.now) (FilesFailed (g.F.Files.faults c.args.files.now) (g.F.Files.faults c.speak-ended.new.files)) c.status_of.result

pub returns-in-Err-clause-done : goal.returns-in-Err-clause-done
returns-in-Err-clause-done g c =
    λ done. run_did c.args.source.now c.args.source.now c.args.sink.now c.finish-in-Err.new.sink c.args.clock.now c.args.files.now c.open.new.files _ _ _ _ c.answer_of.result c.finish-in-Err.result
    (refused (g.F.Files.contents c.args.files.now) _ (g.S.Source.left c.args.source.now) (map string_bytes c.args.words.now) c.in-Err.no_answer c.answer_of.result c.in-Err.ensures.opens c.answer_of.ensures)
    c.finish-in-Err.ensures.finishes done

pub returns-in-Err-clause-cut : goal.returns-in-Err-clause-cut
returns-in-Err-clause-cut g c =
    λ cut. part_by (to_do (map string_bytes c.args.words.now)) _ _
    (λ one. run_part c.args.source.now c.args.source.now c.args.sink.now c.finish-in-Err.new.sink c.args.clock.now c.args.files.now c.open.new.files _ _ _ c.answer_of.result c.finish-in-Err.result one
    (refused (g.F.Files.contents c.args.files.now) _ (g.S.Source.left c.args.source.now) (map string_bytes c.args.words.now) c.in-Err.no_answer c.answer_of.result c.in-Err.ensures.opens c.answer_of.ensures)
    c.finish-in-Err.ensures.finishes cut)
    (λ a is session. refused_part c.args.source.now c.args.sink.now c.finish-in-Err.new.sink c.args.clock.now c.args.files.now c.open.new.files _ a c.in-Err.no_answer _ _ c.answer_of.result c.finish-in-Err.result is session
    c.in-Err.ensures.opens c.answer_of.ensures c.finish-in-Err.ensures.finishes cut)

pub returns-in-Err-clause-complete : goal.returns-in-Err-clause-complete
returns-in-Err-clause-complete g c =
    run_complete (g.F.Files.contents c.args.files.now) _ _ _ (map string_bytes c.args.words.now) c.answer_of.result
    (refused (g.F.Files.contents c.args.files.now) _ (g.S.Source.left c.args.source.now) (map string_bytes c.args.words.now) c.in-Err.no_answer c.answer_of.result c.in-Err.ensures.opens c.answer_of.ensures)
    _ _ _ _ c.finish-in-Err.result c.finish-in-Err.ensures.finishes _ _ (λ reads asks. asks.failed) (λ reads asks. asks.found)
