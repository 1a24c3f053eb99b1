use Rattle.std.proofs.Common.{rules}
use Rattle.alpha_beta.specs.Searches.{bound_of}
use Rattle.alpha_beta.proofs.SearchLaws.{lent_of}
use Rattle.watching.specs.Stopping.{Partly}
use Rattle.watching.specs.Watched.{moment, world}
use Rattle.thinking.proofs.AnswerLaws.{found_by}
use Rattle.thinking.proofs.SeekCutLaws.{sought_memory, sought_of}
use Rattle.thinking.proofs.search.search_once.Goals as goal

pub returns-in_err-make_hints-clause-sought : goal.returns-in_err-make_hints-clause-sought
returns-in_err-make_hints-clause-sought g c =
    sought_memory _ c.args.dialect c.args.limits _ _ _ c.args.line.now _ c.from_residual.result c.from_residual.ensures.1

pub returns-clause-sought : goal.returns-clause-sought
returns-clause-sought g c =
    let w = world g.S.Source.left g.S.Source.owed g.S.Source.faults g.K.Sink.taken g.K.Sink.faults g.C.Clock.given g.C.Clock.count g.C.Clock.last in
    let a = moment c.args.source.now c.args.sink.now c.args.clock.now 0 in
    let watch = c.search_watched.new.watch in
    let r = c.search_watched.result in
    let e = c.search_watched.ensures in
    let sought : Partly w c.args.dialect c.args.limits a watch.source.now watch.sink.now watch.clock.now watch.line.now (bound_of c.args.game.now c.args.depth) r = sought_of w _ _ _ r e.gone e.ended in
    let lent = lent_of w _ _ _ r e.gone e.ended in
    let source_is = lent.same.source_is in let sink_is = lent.same.sink_is in
    let clock_is = lent.same.clock_is in let line_is = lent.same.line_is in
    search rules

pub returns-clause-found : goal.returns-clause-found
returns-clause-found g c =
    found_by c.args.game.now c.args.roots.now c.args.depth c.search_watched.result c.search_watched.ensures.best c.search_watched.ensures.few
