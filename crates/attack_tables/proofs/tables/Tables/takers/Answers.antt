use Rattle.std.proofs.Common.{◌/◌, ◌%◌, ℕ, sym, subst}
use Rattle.rules_model.specs.declared.board.Side.{Side}
use Rattle.move_tables.specs.Spots.{side_of}
use Rattle.square_set.specs.declared.Set.{Set}
use Rattle.attack_tables.specs.Masks.{IsMaskBelow}
use Rattle.attack_tables.proofs.MaskLaws.{there}
use Rattle.attack_tables.proofs.tables.Tables.takers.Goals as goal

pub returns : goal.returns
returns c =
    let P : Side → ℕ → Type 0 = λ s f. IsMaskBelow c.args.self.now s 120 f c.index.result.now in
    let Q : Set → Type 0 = λ m. IsMaskBelow c.args.self.now (side_of (c.place_of.result / 120)) 120 (c.place_of.result % 120) m in
    let each = c.self.invariant.1.each c.place_of.result c.place_of.ensures.below c.index.result.now in
    let mask : Q c.index.result.now = subst Q (sym c.index.ensures) (rw (sym c.self.view_is) each) in
    there P c.args.by c.args.at.0 c.place_of.result c.requires c.place_of.ensures.is mask
