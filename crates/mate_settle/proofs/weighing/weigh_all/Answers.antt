use Rattle.std.proofs.lemmas.Option.{slice_get-get_or}
use Rattle.mate_settle.proofs.Settled.{member-at}
use Rattle.mate_settle.proofs.weighing.weigh_all.Goals as goal

pub weigh-one-requires-clause-legal : goal.weigh-one-requires-clause-legal
weigh-one-requires-clause-legal c =
    let ms = c.args.moves.now in
    let i = c.loop-i.i in
    c.requires.moves _ (member-at ms i _ (slice_get-get_or ms i _ c.loop-i-test.true))
