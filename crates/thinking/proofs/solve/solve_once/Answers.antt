use Rattle.std.proofs.Common.{IfOk, ◌∙◌, ap, arith, rules, subst}
use Rattle.rules_model.specs.declared.board.Side.{Side}
use Rattle.fact_lock.specs.Passes.{all_parts}
use Rattle.game_play.specs.Played.{story}
use Rattle.alpha_beta.proofs.SearchLaws.{lent_of}
use Rattle.mate_core.specs.declared.frame.Frame.{Frame}
use Rattle.mate_search.specs.Solves.{bound_of}
use Rattle.mate_showing.specs.Answers as Solved
use Rattle.watching.specs.Stopping.{Partly}
use Rattle.watching.specs.Watched.{moment, world}
use Rattle.thinking.proofs.AnswerLaws.{right_by}
use Rattle.thinking.proofs.SeekCutLaws.{sought_memory, sought_of}
use Rattle.thinking.proofs.solve.solve_once.Goals as goal

pub returns-in_err-make_hints-clause-sought : goal.returns-in_err-make_hints-clause-sought
returns-in_err-make_hints-clause-sought g c =
    sought_memory _ c.args.dialect c.args.limits _ _ _ c.args.line.now _ c.from_residual.result c.from_residual.ensures.1

pub returns-in_err-frame-clause-sought : goal.returns-in_err-frame-clause-sought
returns-in_err-frame-clause-sought g c =
    sought_memory _ c.args.dialect c.args.limits _ _ _ c.args.line.now _ c.from_residual-in_err-frame.result c.from_residual-in_err-frame.ensures.1

pub returns-in_err-take_facts-clause-sought : goal.returns-in_err-take_facts-clause-sought
returns-in_err-take_facts-clause-sought g c =
    sought_memory _ c.args.dialect c.args.limits _ _ _ c.args.line.now _ c.from_residual-in_err-take_facts.result c.from_residual-in_err-take_facts.ensures.1

pub solve_watched-passes-requires-clause-parts : goal.solve_watched-passes-requires-clause-parts
solve_watched-passes-requires-clause-parts g c κs within =
    let few = c.threads.ensures.in_range.1 in
    (all_parts, c.into_parts-shards.ensures.parts, omega arith)

pub of-requires-clause-parts : goal.of-requires-clause-parts
of-requires-clause-parts g c = c.solve_watched-passes.ensures.handed.parts all_parts c.into_parts-shards.ensures.parts

pub returns-clause-sought : goal.returns-clause-sought
returns-clause-sought g c =
    let w = world g.S.Source.left g.S.Source.owed g.S.Source.faults g.K.Sink.taken g.K.Sink.faults g.C.Clock.given g.C.Clock.count g.C.Clock.last in
    let a = moment c.args.source.now c.args.sink.now c.args.clock.now 0 in
    let watch = c.solve_watched-passes.new.watch in
    let r = c.solve_watched-passes.result.1 in
    let e = c.solve_watched-passes.ensures in
    let sought : Partly w c.args.dialect c.args.limits a watch.source.now watch.sink.now watch.clock.now watch.line.now (bound_of c.args.game.now c.args.n) r = sought_of w _ _ _ r e.gone e.ended in
    let lent = lent_of w _ _ _ r e.gone e.ended in
    let source_is = lent.same.source_is in let sink_is = lent.same.sink_is in
    let clock_is = lent.same.clock_is in let line_is = lent.same.line_is in
    search rules

pub returns-clause-right : goal.returns-clause-right
returns-clause-right g c =
    let game = c.args.game.now in
    let solved = c.solve_watched-passes.result.1 in
    let same = ap (λ (f : Frame). f.attacker) (c.into_parts-shards.ensures.frame ∙ c.in_ok-take_facts.ensures.frame) ∙ c.in_ok-frame.ensures.attacker_is in
    right_by game c.args.n c.args.attacker solved
    (subst (λ (a : Side). IfOk solved (Solved.IsRight game.rules (story game) a c.args.n)) same c.solve_watched-passes.ensures.right)
