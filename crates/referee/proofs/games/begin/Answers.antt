use Rattle.std.proofs.Common.{Ok}
use Rattle.std.specs.Option.{option_copied}
use Rattle.referee.proofs.GameLemmas.{refused_begins}
use Rattle.referee.proofs.games.begin.Goals as goal

pub returns-in-Ok-answer_of : goal.returns-in-Ok-answer_of
returns-in-Ok-answer_of c = refused_begins (option_copied c.args.file) c.args.input.now c.in-Err.why (Ok c.in-Ok-answer_of.answer) c.in-Err.ensures c.in-Ok-answer_of.ensures
