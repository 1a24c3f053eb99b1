use Rattle.session_model.proofs.Uncut.{mates_are_printed}
use Rattle.session_model.proofs.laws.endless_polls_print_the_mate.Goals as goal

pub returns : goal.returns
returns c = mates_are_printed
