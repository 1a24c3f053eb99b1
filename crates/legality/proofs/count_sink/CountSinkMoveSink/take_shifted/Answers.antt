use Rattle.std.proofs.lemmas.Result.{on_ok_weaker}
use Rattle.legality.proofs.ShiftLaws.{both_counted}
use Rattle.legality.proofs.count_sink.CountSinkMoveSink.take_shifted.Goals as goal

pub returns-clause-ok : goal.returns-clause-ok
returns-clause-ok c =
    on_ok_weaker c.take_each.result
    (λ u. both_counted c.args.shift c.args.targets c.told_by-told.result.targets c.minus.result c.told_by-told.ensures.within c.minus.ensures _ _ _ c.count_told.ensures u)
    c.take_each.ensures.ok
