use Rattle.std.proofs.Common.{true, sym, subst, slice_index, take, arith}
use Rattle.std.proofs.lemmas.Bool.{OnTrue_at, OnTrue_from}
use Rattle.std.proofs.lemmas.List.{take_all, take_more}
use Rattle.game_line.specs.Slots.{AreApart}
use Rattle.game_line.proofs.SlotLemmas.{apart-none, apart-push}
use Rattle.game_line.proofs.slots.Slots.keep_apart.Goals as goal

pub loop-i-init : goal.loop-i-init
loop-i-init c = apart-none

pub loop-i-preserved : goal.loop-i-preserved
loop-i-preserved c =
    let keys = c.args.keys.now in
    let i = c.loop-i.i in
    subst AreApart (sym (take_more keys i 0 c.loop-i-test.true))
    (apart-push (take i keys) (slice_index keys i) c.loop-i.invariant (OnTrue_at c.if-not-comes_first.false c.comes_first.ensures))

pub returns : goal.returns
returns c = OnTrue_from true (AreApart c.args.keys.now) (λ told.
    subst AreApart (take_all c.loop-i.i c.args.keys.now (let end = c.loop-i-test.false in omega arith)) c.loop-i.invariant)
