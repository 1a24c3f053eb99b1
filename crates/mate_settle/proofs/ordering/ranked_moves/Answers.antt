use Rattle.std.proofs.lemmas.Option.{slice_get-get_or}
use Rattle.mate_settle.proofs.Settled.{member-at}
use Rattle.mate_settle.proofs.ordering.ranked_moves.Goals as goal

pub rank-rank-requires-clause-legal : goal.rank-rank-requires-clause-legal
rank-rank-requires-clause-legal c =
    let ms = c.args.moves.now in
    let i = c.loop-i.i in
    c.requires.moves _ (member-at ms i _ (slice_get-get_or ms i _ c.loop-i-test.true))
