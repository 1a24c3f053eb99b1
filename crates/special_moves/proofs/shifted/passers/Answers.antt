use Rattle.std.proofs.Common.{subst, sym}
use Rattle.special_moves.specs.Shifted.{HasPassers}
use Rattle.special_moves.proofs.SetLemmas.{passers_are}
use Rattle.special_moves.proofs.ShiftLemmas.{origins_are}
use Rattle.special_moves.proofs.shifted.passers.Goals as goal

pub returns-else-ep-ge120 : goal.returns-else-ep-ge120
returns-else-ep-ge120 c =
    let passing = passers_are c.args.masks.now c.in-Some.ep _ _ _ _ c.or.result c.with-at.ensures
    (origins_are _ _ _ _ c.back.ensures.is c.shifted.ensures)
    (origins_are _ _ _ _ c.back-in-Some.ensures.is c.shifted-in-Some.ensures)
    c.or.ensures in
    subst (λ ep. HasPassers c.args.masks.now ep c.or.result) (sym c.in-Some.is) passing
