use Rattle.std.proofs.Common.{refl, sym, ◌∙◌}
use Rattle.attack_tables.proofs.MaskLaws.{from_man, from_none}
use Rattle.attack_tables.proofs.tables.Tables.attacks_from.Goals as goal

pub returns-in-None : goal.returns-in-None
returns-in-None c = λ board is same. sym (from_none c.args.self.now board c.args.by c.args.at.0 c.args.from (same ∙ sym c.cell_on.ensures ∙ c.in-None.is))

pub returns-then-is : goal.returns-then-is
returns-then-is c = λ board is same.
    let e = from_man c.args.self.now board c.args.by c.args.at.0 c.args.from c.in-Some.cell (same ∙ sym c.cell_on.ensures ∙ c.in-Some.is) in
    rw (e, sym c.is.ensures, c.if-is.true) (c.takes.ensures board is)

pub returns-else-is : goal.returns-else-is
returns-else-is c = λ board is same.
    let e = from_man c.args.self.now board c.args.by c.args.at.0 c.args.from c.in-Some.cell (same ∙ sym c.cell_on.ensures ∙ c.in-Some.is) in
    rw (e, sym c.is.ensures, c.if-is.false) refl
