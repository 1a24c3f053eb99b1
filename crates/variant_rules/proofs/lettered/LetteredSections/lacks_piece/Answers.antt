use Rattle.std.proofs.Common.{Option, None, ap, ◌∙◌}
use Rattle.std.specs.Prelude.{is_none}
use Rattle.rules_model.specs.declared.board.Kind.{Kind}
use Rattle.variant_model.specs.PieceLetters.{piece_letter}
use Rattle.variant_model.specs.Told.{lacks_row}
use Rattle.variant_rules.specs.Letters.{letters_of}
use Rattle.variant_rules.proofs.TableLemmas.{piece_mapped}
use Rattle.variant_rules.proofs.lettered.LetteredSections.lacks_piece.Goals as goal

pub returns-in-Some : goal.returns-in-Some
unfolding letters_of
returns-in-Some c =
    c.is_absent.ensures
    ∙ ap (λ (letter : Option Kind). is_none letter)
    (piece_mapped (λ piece. piece_letter c.args.self.now c.args.section piece.key) c.letters.result None c.in-Some.place
    c.letters.ensures c.in-Some.ensures.below)
    ∙ ap (lacks_row c.args.self.now c.args.section) c.in-Some.ensures.is
