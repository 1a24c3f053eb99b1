use Rattle.std.proofs.Common.{sym, ◌∙◌}
use Rattle.piece_moves.proofs.GoalLemmas.{goes_is}
use Rattle.piece_moves.proofs.goal.goes.Goals as goal

pub returns : goal.returns
returns c = c.lands_on.ensures ∙ sym (goes_is _ _ _ _ _ _ c.requires.own)
