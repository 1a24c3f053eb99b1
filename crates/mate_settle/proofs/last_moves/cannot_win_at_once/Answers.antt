use Rattle.std.proofs.Common.{◌≡◌, true, false, Option, ap, sym, ◌∙◌, subst}
use Rattle.std.specs.Prelude.{OnSome}
use Rattle.rules_model.specs.declared.rules.Rules.{Rules}
use Rattle.rules_model.specs.Legal.{gives_check}
use Rattle.rules_model.specs.Repeats.{repeat_of}
use Rattle.rules_model.proofs.LegalLaws.{legal-member}
use Rattle.check_moves.specs.declared.checks.Checks.{Checks}
use Rattle.mate_settle.specs.LastMoves.{only_checks_win}
use Rattle.mate_settle.proofs.LastMoves.{quiet-loses}
use Rattle.mate_settle.proofs.last_moves.cannot_win_at_once.Goals as goal

pub may_check-requires-clause-move_fits : goal.may_check-requires-clause-move_fits
may_check-requires-clause-move_fits c = (legal-member _ _ _ c.requires.legal).0

pub returns-then-not-may_check-clause-no_win : goal.returns-then-not-may_check-clause-no_win
returns-then-not-may_check-clause-no_win c =
    let f = c.args.frame.now in
    let p = c.args.board.now.position in
    let m = c.args.m.now in
    let Alone : Option Checks → Type 0 = λ o. OnSome o (only_checks_win f.rules ≡ true) in
    let only : only_checks_win f.rules ≡ true = subst Alone c.in-Some.is c.requires.only in
    let quiet : gives_check f.rules (repeat_of p) m ≡ false = ap (λ (x : Rules). gives_check x (repeat_of p) m) (sym c.requires.rules) ∙ c.may_check.ensures c.if-not-may_check.true in
    quiet-loses f p m only c.requires.attack.ongoing c.requires.attack.turn quiet

pub leaves_step-requires-clause-only : goal.leaves_step-requires-clause-only
leaves_step-requires-clause-only c =
    let Alone : Option Checks → Type 0 = λ o. OnSome o (only_checks_win c.args.frame.now.rules ≡ true) in
    subst Alone c.in-Some.is c.requires.only
