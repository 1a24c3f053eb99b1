use Rattle.std.proofs.Common.{◌≡◌, ◌≤◌, None}
use Rattle.foundation.specs.Count.{first_below}
use Rattle.rules_model.specs.declared.board.Wing.TheVariants.{Queenside}
use Rattle.rules_model.specs.Castling.{rook_beyond}
use Rattle.rules_model.proofs.castling.queenside_rook.Given as goal

abbrev pub invariant-loop-file : goal.invariant-loop-file
invariant-loop-file l = record {
  none : first_below (rook_beyond l.rules l.cells l.side Queenside) l.file ≡ None;
  within : l.file ≤ l.rules.files;
}
