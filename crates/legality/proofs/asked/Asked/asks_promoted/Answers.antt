use Rattle.std.proofs.Common.{refl, sym, ◌∙◌}
use Rattle.legality.proofs.asked.Asked.asks_promoted.Goals as goal

pub returns-then-is_some : goal.returns-then-is_some
returns-then-is_some c = rw (sym c.is_some.ensures ∙ c.if-is_some.true) refl

pub returns-then-not-has : goal.returns-then-not-has
returns-then-not-has c = rw (sym c.is_some.ensures ∙ c.if-is_some.false, sym c.has.ensures ∙ c.if-not-has.true) refl

pub returns-in-None : goal.returns-in-None
returns-in-None c = rw (sym c.is_some.ensures ∙ c.if-is_some.false, sym c.has.ensures ∙ c.if-not-has.false, sym c.cell_on.ensures ∙ c.in-None.is) refl

pub returns-then-is : goal.returns-then-is
returns-then-is c =
    rw (sym c.is_some.ensures ∙ c.if-is_some.false, sym c.has.ensures ∙ c.if-not-has.false, sym c.cell_on.ensures ∙ c.in-Some.is, sym c.is.ensures ∙ c.if-is.true) c.is_to.ensures

pub returns-else-is : goal.returns-else-is
returns-else-is c =
    rw (sym c.is_some.ensures ∙ c.if-is_some.false, sym c.has.ensures ∙ c.if-not-has.false, sym c.cell_on.ensures ∙ c.in-Some.is, sym c.is.ensures ∙ c.if-is.false) refl
