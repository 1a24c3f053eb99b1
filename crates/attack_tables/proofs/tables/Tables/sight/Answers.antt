use Rattle.std.proofs.Common.{sym, subst}
use Rattle.attack_tables.specs.declared.sight.Sight.{Sight}
use Rattle.attack_tables.specs.Sights.{IsSightOf}
use Rattle.attack_tables.proofs.tables.Tables.sight.Goals as goal

pub returns : goal.returns
returns c =
    let P : Sight → Type 0 = λ s. IsSightOf c.args.at.0 s in
    subst P (sym c.index.ensures) (c.self.invariant.2.each c.args.at.0 c.requires c.index.result.now)
