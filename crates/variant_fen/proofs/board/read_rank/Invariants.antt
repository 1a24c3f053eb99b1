use Rattle.std.proofs.Common.{◌≡◌, length}
use Rattle.fen_model.specs.Board.{row_of, squares_of}
use Rattle.variant_fen.specs.Cells.{IsFreeFrom, IsSameBut}
use Rattle.fen_model.specs.Tokens.{tokens_of}
use Rattle.variant_fen.proofs.RowLemmas.{ended}
use Rattle.variant_fen.proofs.board.read_rank.Given as goal

abbrev pub invariant-loop-first : goal.invariant-loop-first
invariant-loop-first l = record {
  said : row_of l.rules l.text ≡ ended l.rules l.cells l.rank l.file (squares_of l.rules (tokens_of l.left));
  free : IsFreeFrom l.cells l.rank l.file;
  others : IsSameBut l.rank l.initial.cells l.cells;
}

abbrev pub decreases-loop-first : goal.decreases-loop-first
decreases-loop-first l = length l.left
