use Rattle.std.proofs.Common.{sym, subst}
use Rattle.move_tables.specs.declared.spot.Spot.{Spot}
use Rattle.move_tables.specs.Spots.{IsSpotAt}
use Rattle.move_tables.proofs.BuildLaws.{spot_there}
use Rattle.move_tables.proofs.tables.MoveTables.spot.Goals as goal

pub returns : goal.returns
returns c =
    let at = c.self.invariant.1.each c.spot_place.result c.spot_place.ensures.below c.index.result.now in
    let P : Spot → Type 0 = λ s. IsSpotAt c.args.self.now c.spot_place.result s in
    let here : P c.index.result.now = subst P (sym c.index.ensures) (rw (sym c.self.view_is) at) in
    spot_there c.args.self.now c.args.by c.args.kind c.args.mode c.args.from c.spot_place.result c.index.result.now c.requires.kind c.requires.from c.spot_place.ensures.is here
