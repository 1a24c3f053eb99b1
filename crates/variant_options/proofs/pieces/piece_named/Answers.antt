use Rattle.std.proofs.Common.{sym, ap, ◌∙◌}
use Rattle.std.specs.List.{find}
use Rattle.std.specs.Option.{option_map}
use Rattle.std.specs.Str.{bytes_eq}
use Rattle.variant_options.specs.PieceView.{piece_view}
use Rattle.variant_options.proofs.FindLemmas.{find-map}
use Rattle.variant_options.proofs.pieces.piece_named.Goals as goal

pub returns : goal.returns
returns c =
    ap (option_map piece_view) c.find_piece.ensures
    ∙ sym (find-map piece_view (λ row. bytes_eq row.key c.args.key.now) c.pieces.result.now)
    ∙ ap (find (λ row. bytes_eq row.key c.args.key.now)) c.pieces.ensures.rows
