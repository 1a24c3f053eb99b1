use Rattle.std.specs.Prelude.{[]}
use Rattle.board_sets.proofs.WriteLaws.{agrees_with_empty, none_of_empty}
use Rattle.board_sets.proofs.sets.sets_of.Goals as goal

pub returns : goal.returns
returns c = c.after.ensures [] (none_of_empty _ _) (agrees_with_empty _ c.prove_board_size.ensures)
