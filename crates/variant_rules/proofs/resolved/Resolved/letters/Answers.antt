use Rattle.std.proofs.Common.{ap, ◌∙◌}
use Rattle.variant_rules.specs.Letters.{letters_of}
use Rattle.variant_rules.proofs.LetterLemmas.{letters_same}
use Rattle.variant_rules.proofs.resolved.Resolved.letters.Goals as goal

pub returns : goal.returns
returns c = c.self.invariant.1 ∙ ap (λ at. letters_of at.0 at.1) c.self.view_is ∙ letters_same c.args.self.now
