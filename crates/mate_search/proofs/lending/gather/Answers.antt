use Rattle.std.proofs.Common.{◌≡◌, ◌∙◌, get_or, slice_get, Some}
use Rattle.mate_settle.proofs.Settled.{member-at}
use Rattle.mate_search.proofs.HandedLaws.{handed_more}
use Rattle.mate_search.proofs.RaceLaws.{root-moves}
use Rattle.mate_settle.proofs.OrderLaws.{no_move, read-at}
use Rattle.mate_search.proofs.lending.gather.Goals as goal

pub after-next-requires : goal.after-next-requires
after-next-requires g c =
    let race = c.args.race.now in
    let ms = race.roots.now in
    let i = c.loop-i.i in
    let x = get_or ms i no_move in
    let at : slice_get ms i ≡ Some x = read-at ms i no_move c.loop-i-test.true in
    (root-moves race c.requires.ready c.board-board.result c.board-board.ensures).sound x (member-at ms i x at)

pub loop-i-preserved : goal.loop-i-preserved
loop-i-preserved g c = record {
  facts = c.learn.ensures.facts ∙ c.loop-i.invariant.facts;
  handed = handed_more c.args.race.now.shards.now _ _ _ c.loop-i.invariant.handed c.learn.ensures.handed;
}
