use Rattle.std.proofs.Common.{rules, Option, sym, subst}
use Rattle.std.specs.Prelude.{IfOk}
use Rattle.check_moves.specs.declared.checks.Checks.{Checks}
use Rattle.mate_settle.specs.Tried.{AreTried}
use Rattle.mate_settle.proofs.TriedLaws.{checks_listed}
use Rattle.mate_settle.proofs.last_replies.last_moves.Goals as goal

pub returns-in_ok-push_checks-in-Some-clause-tried : goal.returns-in_ok-push_checks-in-Some-clause-tried
returns-in_ok-push_checks-in-Some-clause-tried c =
    let s = c.args.board.now in
    let Tried : Option Checks → Type 0 = λ o. AreTried s o c.push_checks.new.out in
    subst Tried (sym c.in-Some.is) (checks_listed s _ c.push_checks.new.out (search rules) c.in_ok-push_checks-in-Some.ensures.ok)

pub returns-in-None-clause-tried : goal.returns-in-None-clause-tried
returns-in-None-clause-tried c =
    let s = c.args.board.now in
    let Tried : Option Checks → Type 0 = λ o. IfOk c.list_legal.result (λ ms. AreTried s o ms) in
    subst Tried (sym c.in-None.is) c.list_legal.ensures
