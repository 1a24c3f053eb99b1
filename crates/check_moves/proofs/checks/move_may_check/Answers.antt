use Rattle.std.proofs.Common.{◌≡◌, false, subst, sym}
use Rattle.rules_model.specs.declared.moves.Move.{Move}
use Rattle.rules_model.specs.Legal.{gives_check}
use Rattle.rules_model.specs.Moves.{IsFitMove}
use Rattle.rules_model.specs.Repeats.{repeat_of}
use Rattle.check_moves.proofs.ComeLaws.{drop_is_quiet}
use Rattle.check_moves.proofs.checks.move_may_check.Goals as goal

pub returns-in-Drop : goal.returns-in-Drop
returns-in-Drop c = λ quiet.
    let r = repeat_of c.args.p.now in
    let Quiet : Move → Type 0 = λ m. gives_check c.args.tables.now r m ≡ false in
    let fit = subst (λ m. IsFitMove m) c.in-Drop.is c.requires.move_fits in
    subst Quiet (sym c.in-Drop.is) (drop_is_quiet c.args.tables.now r c.prove_position_sizes.ensures.cells c.in-Drop.kind c.in-Drop.to fit.1 (c.may_come.ensures quiet))
