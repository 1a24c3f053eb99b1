use Rattle.std.proofs.Common.{◌≡◌}
use Rattle.session_model.specs.CecpState.{without_last}
use Rattle.cecp_front.proofs.answers.undo_plies.Given as goal

abbrev pub invariant-loop-ply : goal.invariant-loop-ply
invariant-loop-ply l = l.game ≡ without_last l._ply l.fn.game
