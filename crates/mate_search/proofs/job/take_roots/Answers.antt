use Rattle.std.proofs.Common.{◌≡◌, ◌≤◌, ◌<◌, ◌+◌, length, get_or, take, Some, Err, refl, ◌∙◌, arith, rules, slice_get}
use Rattle.std.specs.List.{sum_by}
use Rattle.mate_settle.proofs.Lines.{part-more, part-whole, same-lines}
use Rattle.mate_settle.proofs.Settled.{after-is, moves-of, member-at}
use Rattle.mate_settle.specs.Choices.{lines_of_moves}
use Rattle.mate_settle.specs.Lines.{lines_within, lines_after, seen_in}
use Rattle.rules_model.specs.Next.{next}
use Rattle.mate_search.specs.Races.{root_lines}
use Rattle.mate_search.proofs.HandedLaws.{handed_none, handed_more}
use Rattle.mate_search.proofs.RaceLaws.{part-skip, root-moves, root-rules, root-within}
use Rattle.mate_search.proofs.job.take_roots.Goals.{then-takes+in_ok-finding, else-takes}
use Rattle.mate_settle.proofs.OrderLaws.{no_move, read-at}
use Rattle.mate_search.proofs.job.take_roots.Goals as goal

pub after-next-requires : goal.after-next-requires
after-next-requires g c =
    let ms = c.args.race.now.roots.now in
    let i = c.loop-i.i in
    let x = get_or ms i no_move in
    let within : i < length ms = c.loop-i-test.true in
    let at : slice_get ms i ≡ Some x = read-at ms i no_move within in
    (root-moves c.args.race.now c.requires.ready c.board-board.result c.board-board.ensures).sound x (member-at ms i x at)

pub loop-i-init : goal.loop-i-init
loop-i-init g c = record {
  facts = refl;
  handed = handed_none c.args.race.now.shards.now _ c.requires.passes;
  gone = g.met.W.Watch.wider _ _ 0 _ (g.met.W.Watch.none c.args.watch.now) (omega arith);
}

pub returns-in_err-finding-clause-ended : goal.returns-in_err-finding-clause-ended
returns-in_err-finding-clause-ended g c why is =
    let race = c.args.race.now in
    let f = c.args.facts.now in
    let r = seen_in f in
    let p = c.board-board.result.position in
    let left = c.task-task.result.left in
    let ms = race.roots.now in
    let i = c.loop-i.i in
    let x = get_or ms i no_move in
    let same-rules = root-rules race c.requires.ready f c.board-board.result c.requires.facts c.board-board.ensures in
    let all = moves-of f c.board-board.result ms same-rules (root-moves race c.requires.ready c.board-board.result c.board-board.ensures) in
    let within : i < length ms = c.loop-i-test.true in
    let at : slice_get ms i ≡ Some x = read-at ms i no_move within in
    let there : c.after-next.result.position ≡ next f.rules p x = after-is f.rules f c.board-board.result c.after-next.result x same-rules c.after-next.ensures in
    let kept : c.loop-i.facts ≡ f = c.loop-i.invariant.facts in
    let lines = same-lines c.loop-i.facts f c.after-next.result.position (next f.rules p x) left kept there in
    let back : c.settle_next.result ≡ Err why = search rules in
    let more = part-more r p left ms i x (lines_within (seen_in c.loop-i.facts) left c.after-next.result.position) at lines in
    let whole : sum_by (lines_after r left p) (take (i + 1) ms) ≤ lines_of_moves f left p = part-whole (lines_after r left p) (r.legal p) ms all (i + 1) in
    let root = root-within race c.requires.ready f c.board-board.result c.requires.facts c.board-board.ensures c.task-task.result c.task-task.ensures in
    g.met.W.Watch.ends_wider _ _ _ (root_lines race) why (g.met.W.Watch.ends _ _ _ (sum_by (lines_after r left p) (take i ms)) (lines_within (seen_in c.loop-i.facts) left c.after-next.result.position) why c.loop-i.invariant.gone (c.settle_next.ensures.ended why back))
    (omega (arith, more, whole, root))

pub returns-in_err-finding-clause-handed : goal.returns-in_err-finding-clause-handed
returns-in_err-finding-clause-handed g c = handed_more c.args.race.now.shards.now _ _ _ c.loop-i.invariant.handed c.settle_next.ensures.handed

pub loop-i-preserved : goal.loop-i-preserved
loop-i-preserved g c =
    let race = c.args.race.now in
    let f = c.args.facts.now in
    let s = race.shards.now in
    let r = seen_in f in
    let p = c.board-board.result.position in
    let left = c.task-task.result.left in
    let ms = race.roots.now in
    let i = c.loop-i.i in
    let old = c.loop-i.invariant in
    let kept : c.loop-i.facts ≡ f = old.facts in
    let same-rules = root-rules race c.requires.ready f c.board-board.result c.requires.facts c.board-board.ensures in
    elim c.if-takes.branch [
      | then-takes+in_ok-finding w ↦
          (let x = get_or ms i no_move in
          let e = w.in_ok-finding.ensures in
          let within : i < length ms = c.loop-i-test.true in
          let at : slice_get ms i ≡ Some x = read-at ms i no_move within in
          let there : w.after-next.result.position ≡ next f.rules p x = after-is f.rules f c.board-board.result w.after-next.result x same-rules w.after-next.ensures in
          let lines = same-lines c.loop-i.facts f w.after-next.result.position (next f.rules p x) left kept there in
          record {
            facts = rw w.facts-is (e.frame ∙ kept);
            handed = rw w.worker-is (handed_more s _ _ _ old.handed e.handed);
            gone = rw w.watch-is (g.met.W.Watch.wider _ _ _ _ (g.met.W.Watch.more _ _ _ (sum_by (lines_after r left p) (take i ms)) (lines_within (seen_in c.loop-i.facts) left w.after-next.result.position) old.gone e.gone)
                (part-more r p left ms i x _ at lines));
          })
      | else-takes w ↦
          record {
            facts = rw w.facts-is kept;
            handed = rw w.worker-is old.handed;
            gone = rw w.watch-is (g.met.W.Watch.wider _ _ _ _ old.gone (part-skip (lines_after r left p) ms i c.loop-i-test.true));
          }
    ]

pub returns-clause-gone : goal.returns-clause-gone
returns-clause-gone g c =
    let race = c.args.race.now in
    let f = c.args.facts.now in
    let r = seen_in f in
    let p = c.board-board.result.position in
    let left = c.task-task.result.left in
    let ms = race.roots.now in
    let same-rules = root-rules race c.requires.ready f c.board-board.result c.requires.facts c.board-board.ensures in
    let all = moves-of f c.board-board.result ms same-rules (root-moves race c.requires.ready c.board-board.result c.board-board.ensures) in
    let whole : sum_by (lines_after r left p) (take c.loop-i.i ms) ≤ lines_of_moves f left p = part-whole (lines_after r left p) (r.legal p) ms all c.loop-i.i in
    let root = root-within race c.requires.ready f c.board-board.result c.requires.facts c.board-board.ensures c.task-task.result c.task-task.ensures in
    g.met.W.Watch.wider _ _ _ (root_lines race) c.loop-i.invariant.gone (omega (arith, whole, root))
