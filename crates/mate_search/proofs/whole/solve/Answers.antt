use Rattle.std.proofs.Common.{◌≡◌, Ok, Err, Some, None, sym, subst, rules}
use Rattle.io_ports.specs.declared.limits.SearchFault.TheVariants as fault
use Rattle.watching.specs.declared.halt.Halt.{Halt}
use Rattle.watching.specs.declared.halt.Halt.TheVariants as halt
use Rattle.mate_showing.proofs.OrderLaws.{from_ok}
use Rattle.watching.specs.LookLaws.{either_way, on_ok_of}
use Rattle.mate_search.specs.Solves.{IsAnswer}
use Rattle.mate_search.specs.declared.answer.Mate.{Mate}
use Rattle.mate_search.proofs.MateLaws.{answers-uncut, fails-memory, heard-looked}
use Rattle.mate_search.proofs.whole.solve.Goals as goal

pub returns-then-eq-clause-heard : goal.returns-then-eq-clause-heard
returns-then-eq-clause-heard g c =
    let is : c.args.limits.quota ≡ Some 0 = search rules in
    heard-looked _ c.args.ports.now.dialect c.args.limits _ _ _ c.args.game.now c.args.n c.look_up-answer.result is c.look_up-answer.ensures.looked.either

pub returns-in_default-clause-fails : goal.returns-in_default-clause-fails
returns-in_default-clause-fails g c why is =
    let memory : why ≡ fault.Memory = search rules in
    fails-memory _ c.args.ports.now.dialect c.args.limits _ _ _ _ why memory

pub shape_of-ports : goal.shape_of-ports
shape_of-ports g c =
    let r = c.solve_watched-passes.result.1 in
    let e = c.solve_watched-passes.ensures in
    let lent = either_way r (on_ok_of r e.gone (λ went. went.lent)) (λ why is. (e.ended why is).lent) in
    sym lent.same.clock_is

pub shape_of-ports-2 : goal.shape_of-ports-2
shape_of-ports-2 g c =
    let r = c.solve_watched-passes.result.1 in
    let e = c.solve_watched-passes.ensures in
    let lent = either_way r (on_ok_of r e.gone (λ went. went.lent)) (λ why is. (e.ended why is).lent) in
    sym lent.same.sink_is

pub shape_of-ports-3 : goal.shape_of-ports-3
shape_of-ports-3 g c =
    let r = c.solve_watched-passes.result.1 in
    let e = c.solve_watched-passes.ensures in
    let lent = either_way r (on_ok_of r e.gone (λ went. went.lent)) (λ why is. (e.ended why is).lent) in
    sym lent.same.source_is

pub returns-in-Ok-end-clause-heard : goal.returns-in-Ok-end-clause-heard
returns-in-Ok-end-clause-heard g c =
    let watch = c.solve_watched-passes.new.watch in
    let end : c.solve_watched-passes.result.1 ≡ Ok c.in-Ok-end.settled = search rules in
    let went = from_ok c.solve_watched-passes.result.1 c.in-Ok-end.settled end c.solve_watched-passes.ensures.gone in
    let source_is = went.lent.same.source_is in let sink_is = went.lent.same.sink_is in
    let clock_is = went.lent.same.clock_is in
    let gone = went.gone in
    record {
      entered = watch.nodes;
      text = watch.line.now;
      why = None;
      gone = search rules;
      answers = subst (λ (m : Mate). IsAnswer None watch.line.now m) (sym c.into.ensures) (answers-uncut watch.line.now c.in-Ok-end.settled);
    }

pub returns-in-Err-Cut-clause-heard : goal.returns-in-Err-Cut-clause-heard
returns-in-Err-Cut-clause-heard g c =
    let watch = c.solve_watched-passes.new.watch in
    let why : Halt = halt.Cut c.in-Err-Cut.why in
    let end : c.solve_watched-passes.result.1 ≡ Err why = search rules in
    let stopped = c.solve_watched-passes.ensures.ended why end in
    let source_is = stopped.lent.same.source_is in let sink_is = stopped.lent.same.sink_is in
    let clock_is = stopped.lent.same.clock_is in let line_is = stopped.lent.same.line_is in
    let ended = stopped.ended in
    record {
      entered = watch.nodes;
      text = watch.line.now;
      why = Some c.in-Err-Cut.why;
      gone = search rules;
      answers = search rules;
    }

pub returns-in-Err-Fault-clause-fails : goal.returns-in-Err-Fault-clause-fails
returns-in-Err-Fault-clause-fails g c why is =
    let same : c.in-Err-Fault.why ≡ why = search rules in
    let back : Halt = halt.Fault why in
    let end : c.solve_watched-passes.result.1 ≡ Err back = search rules in
    let stopped = c.solve_watched-passes.ensures.ended back end in
    let source_is = stopped.lent.same.source_is in let sink_is = stopped.lent.same.sink_is in
    let clock_is = stopped.lent.same.clock_is in
    let ended = stopped.ended in
    record { entered = c.solve_watched-passes.new.watch.nodes; failed = search rules }
