use Rattle.std.proofs.Common.{ap, ◌∙◌}
use Rattle.variant_options.specs.Options.{is_pawn_key}
use Rattle.variant_options.specs.PieceTable.{PieceRow}
use Rattle.variant_model.specs.PieceRules.{kind_rule_of, piece_row, piece_word, promoted_by, word_terms}
use Rattle.variant_rules.specs.Said.{resolved_at}
use Rattle.variant_rules.proofs.LetterLemmas.{mobility_is}
use Rattle.variant_rules.proofs.kinds.kind_rule.Goals as goal

pub returns : goal.returns
unfolding kind_rule_of
returns c =
    let terms = c.in_ok-terms.ensures ∙ ap (λ (row : PieceRow). word_terms (piece_word (resolved_at c.args.section.now) row)) c.piece_at-piece.ensures in
    let white = c.keys_of-keys.ensures.white (piece_row c.args.place) c.keys_at.ensures in
    let black = c.keys_of-keys.ensures.black (piece_row c.args.place) c.keys_at.ensures in
    let mobility = c.in_ok-regions.ensures ∙ mobility_is (resolved_at c.args.section.now) c.args.board _ _ (piece_row c.args.place) c.requires.board white black in
    let pawn = c.is_pawn.ensures ∙ ap (λ (row : PieceRow). is_pawn_key row.key) c.piece_at-piece.ensures in
    let promoted = c.promoted_by.ensures ∙ ap (λ pairs. promoted_by pairs c.args.kind) c.requires.pairs in
    λ i. record { terms = terms i; mobility = mobility i; pawn = pawn i; promoted = promoted i }
