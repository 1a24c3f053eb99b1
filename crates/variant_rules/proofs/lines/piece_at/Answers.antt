use Rattle.std.proofs.Common.{[], get_or, sym, ap, ◌∙◌, arith}
use Rattle.std.proofs.lemmas.List.{get_or-map}
use Rattle.variant_options.specs.PieceTable.{wordless}
use Rattle.variant_options.specs.PieceView.{piece_view}
use Rattle.variant_rules.proofs.lines.piece_at.Goals as goal

pub returns : goal.returns
returns c =
    sym (get_or-map piece_view c.pieces-table.result.now c.args.place _ (wordless []) (omega (arith, c.requires, c.pieces-table.ensures.count)))
    ∙ ap (λ rows. get_or rows c.args.place (wordless [])) c.pieces-table.ensures.rows
