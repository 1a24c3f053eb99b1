use Rattle.std.proofs.Common.{◌≡◌, length, sym, subst, arith}
use Rattle.std.proofs.lemmas.Bool.{OnTrue_from}
use Rattle.std.proofs.lemmas.Bool.Decides.{nat_tests}
use Rattle.game_play.specs.Played.{story}
use Rattle.game_line.specs.Slots.{AreApart}
use Rattle.game_line.proofs.HeldLemmas.{held-count}
use Rattle.game_line.proofs.SlotLaws.{apart-whole, line-keys}
use Rattle.game_line.proofs.line.Line.is_apart.Goals as goal

pub returns : goal.returns
returns c = OnTrue_from _ _ (λ told.
    let i = c.self.inside in
    let base = story i.game.now in
    let keys = line-keys i.game.now i.moves.items i.room i.boards.items i.keys.items i.slots c.self.invariant.0 c.self.invariant.2 c.args.self.now c.self.view_is in
    let count = (held-count i.game.now.rules base.last i.moves.items i.boards.items i.keys.items c.self.invariant.0).1 in
    let all : i.apart ≡ length i.keys.items = grind (arith, nat_tests, told) in
    subst AreApart (sym keys) (apart-whole base i.keys.items i.apart c.self.invariant.3 all (omega (arith, count))))
