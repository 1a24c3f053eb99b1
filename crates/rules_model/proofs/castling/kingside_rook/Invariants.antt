use Rattle.std.proofs.Common.{◌≡◌, ◌≤◌}
use Rattle.foundation.specs.Count.{last_below}
use Rattle.rules_model.specs.declared.board.Wing.TheVariants.{Kingside}
use Rattle.rules_model.specs.Castling.{rook_beyond}
use Rattle.rules_model.proofs.castling.kingside_rook.Given as goal

abbrev pub invariant-loop-file : goal.invariant-loop-file
invariant-loop-file l = record {
  inner : last_below (rook_beyond l.rules l.cells l.side Kingside) l.rules.files ≡ last_below (rook_beyond l.rules l.cells l.side Kingside) l.file;
  within : l.file ≤ l.rules.files;
}

abbrev pub decreases-loop-file : goal.decreases-loop-file
decreases-loop-file l = l.file
