use Rattle.std.proofs.Common.{◌∙◌, ap}
use Rattle.variant_model.specs.PieceLetters.{letter_with, own_lines, parent_letter}
use Rattle.variant_model.proofs.LetterLaws.{piece_letter_is}
use Rattle.variant_model.proofs.laws.letters_are_inherited.Goals as goal

pub returns-clause-own : goal.returns-clause-own
returns-clause-own c = λ sections place piece value e.
    piece_letter_is sections piece place
    ∙ ap (λ said. letter_with (own_lines sections place) said (parent_letter sections place piece)) e

pub returns-clause-inherited : goal.returns-clause-inherited
returns-clause-inherited c = λ sections place piece e.
    piece_letter_is sections piece place
    ∙ ap (λ said. letter_with (own_lines sections place) said (parent_letter sections place piece)) e
