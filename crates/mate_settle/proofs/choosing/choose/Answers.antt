use Rattle.std.proofs.Common.{◌-◌}
use Rattle.std.proofs.lemmas.Result.{IfOk-weaker}
use Rattle.mate_settle.proofs.Settled.{moves-of, none-found}
use Rattle.mate_settle.proofs.choosing.choose.Goals as goal

pub returns-clause-none : goal.returns-clause-none
returns-clause-none g c =
    let f = c.args.facts.now in
    let ms = c.args.moves.now in
    let all = moves-of f c.args.board.now ms c.requires.rules c.requires.moves in
    IfOk-weaker c.first_that.result _ _ (none-found f (c.args.n - 1) c.args.board.now.position ms all) c.first_that.ensures.first
