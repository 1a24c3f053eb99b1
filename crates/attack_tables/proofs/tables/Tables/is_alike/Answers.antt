use Rattle.std.proofs.Common.{Bool, sym, subst}
use Rattle.attack_tables.specs.Goals.{IsAlikeAt}
use Rattle.attack_tables.proofs.tables.Tables.is_alike.Goals as goal

pub returns : goal.returns
returns c =
    let P : Bool → Type 0 = λ known. IsAlikeAt c.args.self.now c.args.kind.0 known in
    subst P (sym c.index.ensures) (rw (sym c.self.view_is) (c.self.invariant.3.each c.args.kind.0 c.requires c.index.result.now))
