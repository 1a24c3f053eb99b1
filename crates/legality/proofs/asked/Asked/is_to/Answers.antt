use Rattle.std.proofs.Common.{refl, sym, ◌∙◌}
use Rattle.legality.proofs.AskingLaws.{is_to-above, is_to-letter}
use Rattle.legality.proofs.asked.Asked.is_to.Goals as goal

pub returns-then-kind-lt26 : goal.returns-then-kind-lt26
returns-then-kind-lt26 c = c.has.ensures ∙ sym (is_to-letter c.args.self.now c.args.kind c.args.to.0 c.if-kind-lt26.true _ refl)

pub returns-else-kind-lt26 : goal.returns-else-kind-lt26
returns-else-kind-lt26 c = sym (is_to-above c.args.self.now c.args.kind c.args.to.0 c.if-kind-lt26.false)
