use Rattle.std.proofs.Common.{sym, ◌∙◌}
use Rattle.std.proofs.lemmas.Bool.{and_parts}
use Rattle.move_tests.proofs.pinned.on_board.Goals as goal

pub returns : goal.returns
returns c s h = c.everywhere.ensures s (and_parts _ _ (sym (c.and.ensures s) ∙ h)).0
