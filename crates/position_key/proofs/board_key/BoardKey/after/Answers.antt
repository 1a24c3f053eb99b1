use Rattle.std.proofs.Common.{ap, sym}
use Rattle.std.proofs.lemmas.Bool.{OnFalse_at, not-true}
use Rattle.position_key.specs.Key.{board_key, hands_sum}
use Rattle.position_key.proofs.ExchangeLemmas.{parts-exchanged, same-exchanged}
use Rattle.position_key.proofs.board_key.BoardKey.after.Goals as goal

pub returns-then-not-touched : goal.returns-then-not-touched
unfolding board_key
returns-then-not-touched c =
    let before = c.args.before.now.hands in
    let next = c.args.next.now.hands in
    let same = OnFalse_at (not-true c.args.touched.hands c.if-not-touched.true) c.requires.touched.hands in
    parts-exchanged _ _ _ _ _ _ _ c.requires.key c.with_cells-moved.ensures (same-exchanged _ (hands_sum before) (hands_sum next) (ap hands_sum (sym same)))

pub returns : goal.returns
unfolding board_key
returns c = parts-exchanged _ _ _ _ _ _ _ c.requires.key c.with_cells-moved.ensures c.with_hands.ensures
