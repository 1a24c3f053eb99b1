use Rattle.std.proofs.Common.{sym, ap, ◌∙◌, ◌+◌}
use Rattle.std.proofs.lemmas.List.Splits.{length-slice_split}
use Rattle.fen_model.specs.Board.{is_slash}
use Rattle.variant_fen.proofs.board.rank_count.Goals as goal

pub returns : goal.returns
returns c = ap (λ n. n + 1) c.slash_count.ensures.is ∙ sym (length-slice_split is_slash c.args.board.now)
