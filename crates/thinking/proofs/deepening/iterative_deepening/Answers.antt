use Rattle.std.proofs.Common.{◌≡◌, ◌∙◌, ◌-◌, Err, refl, sym, arith, rules}
use Rattle.std.specs.Option.{option_map}
use Rattle.session_model.specs.UciSession.{first_of}
use Rattle.thinking.specs.Views.{announced_seen, task_seen}
use Rattle.thinking.proofs.DepthLaws.{deepening_broke, deepening_left, deepening_more, deepening_none, deepening_off, first_read}
use Rattle.thinking.proofs.deepening.iterative_deepening.Goals as goal

pub loop-done-init : goal.loop-done-init
loop-done-init g c = record {
  so_far = λ other. deepening_none c.args.dialect c.args.style c.args.source.now c.args.sink.now c.args.clock.now (g.S.Source.owed c.args.source.now) (task_seen c.args.task.now) (first_of other c.args.task.now.roots.now) _ c.args.start.first
      (first_read c.args.task.now.roots.now other _ c.requires.task.some);
  same = refl;
  source_later = omega arith;
  sink_later = omega arith;
}

pub returns-in_err-depth-clause-broke : goal.returns-in_err-depth-clause-broke
returns-in_err-depth-clause-broke g c why is =
    let other = c.loop-done.best in
    let back : c.search_depth.result ≡ Err why = search rules in
    deepening_broke c.args.dialect c.args.style (task_seen c.args.task.now) (first_of other c.args.task.now.roots.now) c.args.start.first c.loop-done.done c.loop-done.entered c.loop-done.best (announced_seen c.loop-done.kept) (c.loop-done.invariant.so_far other) (record { quota = option_map (λ number. number - c.loop-done.entered) c.args.task.now.share; deadline = c.args.start.deadline }) c.search_depth.new.line (omega arith) refl c.requires.start (rw c.quota_left.ensures at (c.search_depth.ensures.broke why back))

pub returns-in-Off-clause-deepened : goal.returns-in-Off-clause-deepened
returns-in-Off-clause-deepened g c other =
    deepening_off c.args.dialect c.args.style (task_seen c.args.task.now) (first_of other c.args.task.now.roots.now) c.args.start.first c.loop-done.done c.loop-done.entered c.loop-done.best (announced_seen c.loop-done.kept) (c.loop-done.invariant.so_far other) (record { quota = option_map (λ number. number - c.loop-done.entered) c.args.task.now.share; deadline = c.args.start.deadline }) c.search_depth.new.line (omega arith) refl c.requires.start c.loop-done.kept c.in-Off.why refl
    (rw c.quota_left.ensures at (rw c.in-Off.is at c.in_ok-depth.ensures.search_depth))

pub returns-in-Some-clause-deepened : goal.returns-in-Some-clause-deepened
returns-in-Some-clause-deepened g c other =
    deepening_left c.args.dialect c.args.style (task_seen c.args.task.now) (first_of other c.args.task.now.roots.now) c.args.start.first c.loop-done.done c.loop-done.entered c.loop-done.best (announced_seen c.loop-done.kept) (c.loop-done.invariant.so_far other) (record { quota = option_map (λ number. number - c.loop-done.entered) c.args.task.now.share; deadline = c.args.start.deadline }) c.search_depth.new.line (omega arith) refl c.requires.start c.in-Done.found c.in-Done.clock c.in-Some.solve c.announced_by-kept.result (sym c.announced_by-kept.ensures)
    (rw c.in-Some.is at (rw c.quota_left.ensures at (rw c.in-Done.is at c.in_ok-depth.ensures.search_depth)))

pub loop-done-preserved : goal.loop-done-preserved
loop-done-preserved g c = record {
  so_far = λ other. rw c.announced_by-kept.ensures
      (deepening_more c.args.dialect c.args.style (task_seen c.args.task.now) (first_of other c.args.task.now.roots.now) c.args.start.first c.loop-done.done c.loop-done.entered c.loop-done.best (announced_seen c.loop-done.kept) (c.loop-done.invariant.so_far other) (record { quota = option_map (λ number. number - c.loop-done.entered) c.args.task.now.share; deadline = c.args.start.deadline }) c.search_depth.new.line c.in-Done.found c.in-Done.clock _ (rw c.in_default.is at (rw c.quota_left.ensures at (rw c.in-Done.is at c.in_ok-depth.ensures.search_depth))) (omega arith));
  same = c.in_ok-depth.ensures.same ∙ c.loop-done.invariant.same;
  source_later = omega arith;
  sink_later = omega arith;
}
