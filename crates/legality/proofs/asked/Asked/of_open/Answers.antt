use Rattle.std.proofs.Common.{◌&&◌, ◌||◌, not, ap, ◌∙◌}
use Rattle.square_set.specs.Members.{has}
use Rattle.legality.specs.Asking.{is_to}
use Rattle.legality.proofs.AskingLaws.{either_of}
use Rattle.legality.proofs.asked.Asked.of_open.Goals as goal

pub returns : goal.returns
returns c = λ s.
    let asked = c.args.self.now in
    c.or.ensures s
    ∙ ap (λ b. b || has c.of_kind.result s) (c.minus.ensures s)
    ∙ ap (λ b. (has c.args.targets s && not (has c.args.shut s)) || b) (c.of_kind.ensures s)
    ∙ either_of (has c.args.targets s) (has c.args.shut s) (is_to asked c.args.kind s)
