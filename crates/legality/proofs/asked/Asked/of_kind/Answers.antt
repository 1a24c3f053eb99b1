use Rattle.std.proofs.Common.{◌&&◌, refl, sym, ap, ◌∙◌}
use Rattle.std.proofs.Math.Bool.{and-true}
use Rattle.square_set.specs.Members.{has}
use Rattle.legality.proofs.AskingLaws.{is_to-above, is_to-letter}
use Rattle.legality.proofs.asked.Asked.of_kind.Goals as goal

pub returns-then-kind-lt26 : goal.returns-then-kind-lt26
returns-then-kind-lt26 c = λ s.
    c.and.ensures s ∙ ap (λ b. has c.args.targets s && b) (sym (is_to-letter c.args.self.now c.args.kind s c.if-kind-lt26.true _ refl))

pub returns-else-kind-lt26 : goal.returns-else-kind-lt26
returns-else-kind-lt26 c = λ s.
    sym (ap (λ b. has c.args.targets s && b) (is_to-above c.args.self.now c.args.kind s c.if-kind-lt26.false) ∙ and-true (has c.args.targets s))
