use Rattle.std.proofs.Common.{sym, ◌∙◌}
use Rattle.std.proofs.Math.Bool.{and-true}
use Rattle.square_set.specs.Members.{has}
use Rattle.legality.proofs.asked.Asked.of_targets.Goals as goal

pub returns-then-is_some : goal.returns-then-is_some
returns-then-is_some c = λ s. rw (sym c.is_some.ensures ∙ c.if-is_some.true) (sym (and-true (has c.args.targets s)))

pub returns-then-not-has : goal.returns-then-not-has
returns-then-not-has c = λ s.
    rw (sym c.is_some.ensures ∙ c.if-is_some.false, sym c.has.ensures ∙ c.if-not-has.true) (sym (and-true (has c.args.targets s)))

pub returns-in-None : goal.returns-in-None
returns-in-None c = λ s.
    rw (sym c.is_some.ensures ∙ c.if-is_some.false, sym c.has.ensures ∙ c.if-not-has.false, sym c.cell_on.ensures ∙ c.in-None.is) (sym (and-true (has c.args.targets s)))

pub returns-then-is : goal.returns-then-is
returns-then-is c = λ s.
    rw (sym c.is_some.ensures ∙ c.if-is_some.false, sym c.has.ensures ∙ c.if-not-has.false, sym c.cell_on.ensures ∙ c.in-Some.is, sym c.is.ensures ∙ c.if-is.true) (c.of_kind.ensures s)

pub returns-else-is : goal.returns-else-is
returns-else-is c = λ s.
    rw (sym c.is_some.ensures ∙ c.if-is_some.false, sym c.has.ensures ∙ c.if-not-has.false, sym c.cell_on.ensures ∙ c.in-Some.is, sym c.is.ensures ∙ c.if-is.false) (sym (and-true (has c.args.targets s)))
