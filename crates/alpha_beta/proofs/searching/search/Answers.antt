use Rattle.std.proofs.Common.{◌≡◌, [], Some, Err, rules, subst, sym}
use Rattle.io_ports.specs.declared.limits.SearchFault.{SearchFault}
use Rattle.io_ports.specs.declared.limits.SearchFault.TheVariants as fault
use Rattle.watching.specs.declared.halt.Halt.{Halt}
use Rattle.watching.specs.declared.halt.Halt.TheVariants as halt
use Rattle.watching.specs.CallerLaws.{gone_none, ended_memory}
use Rattle.watching.specs.Watched.{moment, world}
use Rattle.alpha_beta.specs.Searches.{bound_of}
use Rattle.watching.specs.Stopping.{Fails}
use Rattle.alpha_beta.proofs.SearchLaws.{lent_of}
use Rattle.alpha_beta.proofs.searching.search.Goals as goal

pub returns-in_err-line-clause-fails : goal.returns-in_err-line-clause-fails
returns-in_err-line-clause-fails g c why is =
    let memory : why ≡ fault.Memory = search rules in
    let p = c.args.ports.now in
    let w = world g.S.Source.left g.S.Source.owed g.S.Source.faults g.K.Sink.taken g.K.Sink.faults g.C.Clock.given g.C.Clock.count g.C.Clock.last in
    let a = moment p.source.now p.sink.now p.clock.now 0 in
    let bound = bound_of c.args.game.now c.args.depth in
    subst (λ (f : SearchFault). Fails w p.dialect a p.source.now p.sink.now p.clock.now bound f) (sym memory)
    (record { entered = 0; failed = ended_memory w p.dialect c.args.limits a a [] bound (gone_none w p.dialect c.args.limits a bound []) })

pub returns-in-Err-Cut-clause-heard : goal.returns-in-Err-Cut-clause-heard
returns-in-Err-Cut-clause-heard g c =
    let why : Halt = halt.Cut c.in-Err-Cut.why in
    let end : c.search_watched-outcome.result ≡ Err why = search rules in
    let stopped = c.search_watched-outcome.ensures.ended why end in
    let source_is = stopped.lent.same.source_is in let sink_is = stopped.lent.same.sink_is in
    let clock_is = stopped.lent.same.clock_is in let line_is = stopped.lent.same.line_is in
    let ended = stopped.ended in
    let kept = c.stopped_by.ensures in
    record {
      entered = c.search_watched-outcome.new.watch.nodes;
      text = c.search_watched-outcome.new.watch.line.now;
      why = Some c.in-Err-Cut.why;
      gone = search rules;
      answers = search rules;
    }

pub returns-in-Err-Fault-clause-fails : goal.returns-in-Err-Fault-clause-fails
returns-in-Err-Fault-clause-fails g c why is =
    let same : c.in-Err-Fault.why ≡ why = search rules in
    let back : Halt = halt.Fault why in
    let end : c.search_watched-outcome.result ≡ Err back = search rules in
    let stopped = c.search_watched-outcome.ensures.ended back end in
    let source_is = stopped.lent.same.source_is in let sink_is = stopped.lent.same.sink_is in
    let clock_is = stopped.lent.same.clock_is in let line_is = stopped.lent.same.line_is in
    let ended = stopped.ended in
    record { entered = c.search_watched-outcome.new.watch.nodes; failed = search rules }

pub shape_of-ports : goal.shape_of-ports
shape_of-ports g c =
    let lent = lent_of _ _ _ _ c.search_watched-outcome.result c.search_watched-outcome.ensures.gone c.search_watched-outcome.ensures.ended in
    let is = lent.same.clock_is in
    search rules

pub shape_of-ports-2 : goal.shape_of-ports-2
shape_of-ports-2 g c =
    let lent = lent_of _ _ _ _ c.search_watched-outcome.result c.search_watched-outcome.ensures.gone c.search_watched-outcome.ensures.ended in
    let is = lent.same.sink_is in
    search rules

pub shape_of-ports-3 : goal.shape_of-ports-3
shape_of-ports-3 g c =
    let lent = lent_of _ _ _ _ c.search_watched-outcome.result c.search_watched-outcome.ensures.gone c.search_watched-outcome.ensures.ended in
    let is = lent.same.source_is in
    search rules
