use Rattle.std.proofs.Common.{◌/◌, ◌%◌, ℕ, sym, subst}
use Rattle.rules_model.specs.declared.board.Side.{Side}
use Rattle.move_tables.specs.Spots.{side_of}
use Rattle.square_set.specs.declared.Set.{Set}
use Rattle.attack_tables.specs.KindMasks.{IsKindMask}
use Rattle.attack_tables.proofs.KindLaws.{there_of}
use Rattle.attack_tables.proofs.tables.Tables.takers_of.Goals as goal

pub returns : goal.returns
returns c =
    let rules = c.args.self.now in
    let place = c.kind_place_of.result in
    let P : Side → ℕ → ℕ → Type 0 = λ s f k. IsKindMask rules s k f c.index.result.now in
    let Q : Set → Type 0 = λ m. IsKindMask rules (side_of (place / 26 / 120)) (place % 26) (place / 26 % 120) m in
    let each = c.self.invariant.9.each place c.kind_place_of.ensures.below c.index.result.now in
    let mask : Q c.index.result.now = subst Q (sym c.index.ensures) (rw (sym c.self.view_is) each) in
    there_of P c.args.by c.args.at.0 c.args.kind.0 place c.requires.at c.requires.kind c.kind_place_of.ensures.is mask
