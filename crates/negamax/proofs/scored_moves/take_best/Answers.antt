use Rattle.std.proofs.Common.{ap, length, arith}
use Rattle.negamax.proofs.ListLaws.{taken_behind}
use Rattle.negamax.proofs.scored_moves.take_best.Goals as goal

pub returns-clause-takes : goal.returns-clause-takes
returns-clause-takes c =
    let place = c.best_place-place.ensures in
    let long = ap length c.as_slice.ensures.value in
    let within = place.within in
    taken_behind c.args.first c.best_place-place.result _ _ c.swap_remove.result place.behind (omega (arith, long, within)) c.swap_remove.ensures.value c.swap_remove.ensures.items
