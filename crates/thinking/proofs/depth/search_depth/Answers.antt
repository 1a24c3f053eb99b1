use Rattle.std.proofs.Common.{◌≡◌, ◌∙◌, [], ◌∷◌, refl}
use Rattle.std.specs.List.{concat}
use Rattle.io_ports.proofs.Moved.{appends_none}
use Rattle.thinking.specs.Tells.{lines_by}
use Rattle.thinking.specs.Views.{report_of, task_seen}
use Rattle.thinking.proofs.FindingLaws.{finding_sound}
use Rattle.thinking.proofs.JudgeLaws.{broke_before, broke_in, deeper_done, deeper_off}
use Rattle.thinking.proofs.depth.search_depth.Goals as goal

pub returns-in_err-explored-clause-broke : goal.returns-in_err-explored-clause-broke
returns-in_err-explored-clause-broke g c why is = broke_before c.args.dialect c.args.style (task_seen c.args.task.now) c.args.first c.args.depth c.args.limits [] c.in_err-explored.ensures.broken

pub depth_lines-requires-clause-fit : goal.depth_lines-requires-clause-fit
depth_lines-requires-clause-fit g c = rw c.rules.ensures c.prove_played.ensures.fit

pub depth_lines-requires-clause-sound : goal.depth_lines-requires-clause-sound
depth_lines-requires-clause-sound g c =
    let explored = rw c.in-Found.is at c.in_ok-explored.ensures.explored in
    rw c.rules.ensures (finding_sound (task_seen c.args.task.now) c.args.depth c.in-Found.judged.found c.in-Found.judged.cut c.prove_played.ensures explored.is)

pub returns-in_err-text-in-Found-clause-broke : goal.returns-in_err-text-in-Found-clause-broke
returns-in_err-text-in-Found-clause-broke g c why is =
    let explored = rw c.in-Found.is at c.in_ok-explored.ensures.explored in
    broke_in c.args.dialect c.args.style (task_seen c.args.task.now) c.args.first c.args.depth c.args.limits c.search_and_judge.new.line c.in-Found.judged c.reading_for-reading.result explored c.reading_for-reading.ensures.given c.reading_for-reading.ensures.count c.reading_for-reading.ensures.last
    (record { front = []; back = _; whole = refl; took = appends_none (g.K.Sink.taken c.search_and_judge.new.sink) })

pub returns-in_err-say_some-in-Found-clause-broke : goal.returns-in_err-say_some-in-Found-clause-broke
returns-in_err-say_some-in-Found-clause-broke g c why is =
    let explored = rw c.in-Found.is at c.in_ok-explored.ensures.explored in
    let lines = lines_by c.args.style c.rules.result.now c.args.first c.args.depth (report_of c.in-Found.judged.found c.reading_for-reading.result ∷ []) in
    let text : c.as_slice.result.now ≡ concat lines = c.as_slice.ensures.value ∙ c.text.view_is ∙ c.in_ok-text-in-Found.ensures in
    broke_in c.args.dialect c.args.style (task_seen c.args.task.now) c.args.first c.args.depth c.args.limits c.search_and_judge.new.line c.in-Found.judged c.reading_for-reading.result explored c.reading_for-reading.ensures.given c.reading_for-reading.ensures.count c.reading_for-reading.ensures.last
    (rw c.rules.ensures at (rw text at c.in_err-say_some-in-Found.ensures.err))

pub returns-in-Off-clause-search_depth : goal.returns-in-Off-clause-search_depth
returns-in-Off-clause-search_depth g c = deeper_off c.args.dialect c.args.style (task_seen c.args.task.now) c.args.first c.args.depth c.args.limits c.search_and_judge.new.line c.in-Off.why (rw c.in-Off.is at c.in_ok-explored.ensures.explored)

pub returns-in_ok-say_some-in-Found-clause-search_depth : goal.returns-in_ok-say_some-in-Found-clause-search_depth
returns-in_ok-say_some-in-Found-clause-search_depth g c =
    let explored = rw c.in-Found.is at c.in_ok-explored.ensures.explored in
    let lines = lines_by c.args.style c.rules.result.now c.args.first c.args.depth (report_of c.in-Found.judged.found c.reading_for-reading.result ∷ []) in
    let text : c.as_slice.result.now ≡ concat lines = c.as_slice.ensures.value ∙ c.text.view_is ∙ c.in_ok-text-in-Found.ensures in
    deeper_done c.args.dialect c.args.style (task_seen c.args.task.now) c.args.first c.args.depth c.args.limits c.search_and_judge.new.line c.in-Found.judged c.reading_for-reading.result explored c.reading_for-reading.ensures.given c.reading_for-reading.ensures.count c.reading_for-reading.ensures.last
    (rw c.rules.ensures at (rw text at c.in_ok-say_some-in-Found.ensures.ok))
