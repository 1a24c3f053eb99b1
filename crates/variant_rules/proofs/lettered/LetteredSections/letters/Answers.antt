use Rattle.std.proofs.Common.{◌<◌, get_or, length, ap, ◌∙◌, arith}
use Rattle.variant_rules.specs.Letters.{letters_of}
use Rattle.variant_rules.proofs.LetterLemmas.{length_before, letters_above}
use Rattle.variant_rules.proofs.lettered.LetteredSections.letters.Goals as goal

pub index-requires : goal.index-requires
index-requires c =
    let within : c.args.place < length c.self.inside.sections.now = rw c.self.view_is c.requires in
    omega (arith, within, ap length c.self.invariant, length_before c.self.inside.sections.now (length c.self.inside.sections.now), c.self.inside.letters.ok.0)

pub returns : goal.returns
returns c =
    let within : c.args.place < length c.self.inside.sections.now = rw c.self.view_is c.requires in
    c.index.ensures
    ∙ ap (λ letters. get_or letters c.args.place c.index.result.now) c.self.invariant
    ∙ letters_above c.self.inside.sections.now (length c.self.inside.sections.now) c.args.place c.index.result.now within
    ∙ ap (λ sections. letters_of sections c.args.place) c.self.view_is
