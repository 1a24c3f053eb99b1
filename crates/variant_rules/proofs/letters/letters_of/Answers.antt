use Rattle.std.proofs.Common.{◌∙◌}
use Rattle.variant_rules.proofs.LetterLemmas.{letters_are}
use Rattle.variant_rules.proofs.letters.letters_of.Goals as goal

pub returns : goal.returns
returns c =
    c.letters_by.ensures
    ∙ letters_are c.args.sections.now c.args.place c.own_letters-own.result c.inherited.result c.own_letters-own.ensures c.inherited.ensures
