use Rattle.std.proofs.Common.{◌≡◌, ◌∷◌, None, Some, Err, sym, ap, ◌∙◌, subst}
use Rattle.fen_model.specs.Board.{squares_of}
use Rattle.fen_model.specs.Tokens.{tokens_of}
use Rattle.fen_model.specs.declared.fault.FenFault.TheVariants.{Letter}
use Rattle.fen_model.proofs.TokenLemmas.{NoLetter}
use Rattle.variant_fen.specs.Cut.{begins_with, unmarked}
use Rattle.variant_fen.specs.Pieces.{byte_cell}
use Rattle.variant_fen.proofs.PieceLemmas.{if_none, no_letter_fault, none_left, piece_fault, piece_said}
use Rattle.variant_fen.proofs.pieces.cut_piece.Goals as goal

pub returns-in_err-letter-clause-fault : goal.returns-in_err-letter-clause-fault
returns-in_err-letter-clause-fault c =
    if_none _ c.from_residual.result
    (no_letter_fault c.args.rules.now c.args.text.now c.requires.some c.requires.no_digit (subst NoLetter c.cut_mark-plus.ensures.rest (none_left c.cut_mark-plus.result.1.now c.in_err-letter.ensures.cases)))

pub returns-in_err-cell-clause-fault : goal.returns-in_err-cell-clause-fault
returns-in_err-cell-clause-fault c =
    let first : unmarked 43 c.args.text.now ≡ c.in_ok-letter.letter.now ∷ c.in_ok-letter.rest.now = sym c.cut_mark-plus.ensures.rest ∙ c.in_ok-letter.ensures.cases.0 in
    let cell : byte_cell c.args.rules.now (begins_with 43 c.args.text.now) c.in_ok-letter.letter.now (begins_with 126 c.in_ok-letter.rest.now) ≡ None =
    cc (c.byte_cell.ensures, c.cut_mark-plus.ensures.found, c.cut_mark-tilde.ensures.found, c.in_err-cell.was) in
    if_none _ c.from_residual-in_err-cell.result (piece_fault c.args.rules.now c.args.text.now c.in_ok-letter.letter.now c.in_ok-letter.rest.now c.requires.some c.requires.no_digit first cell)

pub returns-clause-said : goal.returns-clause-said
returns-clause-said c =
    let first : unmarked 43 c.args.text.now ≡ c.in_ok-letter.letter.now ∷ c.in_ok-letter.rest.now = sym c.cut_mark-plus.ensures.rest ∙ c.in_ok-letter.ensures.cases.0 in
    let cell : byte_cell c.args.rules.now (begins_with 43 c.args.text.now) c.in_ok-letter.letter.now (begins_with 126 c.in_ok-letter.rest.now) ≡ Some c.in_ok-cell.cell =
    cc (c.byte_cell.ensures, c.cut_mark-plus.ensures.found, c.cut_mark-tilde.ensures.found, c.in_ok-cell.was) in
    let rest = c.cut_mark-tilde.ensures.rest in
    rw rest (piece_said c.args.rules.now c.args.text.now c.in_ok-letter.letter.now c.in_ok-letter.rest.now c.in_ok-cell.cell first cell)
