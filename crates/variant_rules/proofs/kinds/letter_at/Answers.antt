use Rattle.std.proofs.Common.{None}
use Rattle.variant_model.specs.PieceLetters.{piece_letter}
use Rattle.variant_rules.specs.Said.{letters_in}
use Rattle.variant_rules.proofs.TableLemmas.{piece_mapped}
use Rattle.variant_rules.proofs.kinds.letter_at.Goals as goal

pub returns : goal.returns
unfolding letters_in
returns c =
    piece_mapped (λ piece. piece_letter c.args.section.now.0 c.args.section.now.1 piece.key) c.letters-letters.result.now None c.args.place c.letters-letters.ensures c.requires
