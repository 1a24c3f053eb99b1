use Rattle.std.proofs.Common.{◌∙◌}
use Rattle.playing.proofs.board.Board.legal_items.Goals as goal

pub returns : goal.returns
returns c = c.moves.view_is ∙ c.in_ok-moves.ensures
