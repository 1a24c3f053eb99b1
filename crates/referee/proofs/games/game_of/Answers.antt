use Rattle.std.specs.Option.{option_copied}
use Rattle.referee.proofs.GameLemmas.{taken_begins, untaken_begins}
use Rattle.referee.proofs.games.game_of.Goals as goal

pub returns-in-Ok : goal.returns-in-Ok
returns-in-Ok c = taken_begins (option_copied c.args.file) c.args.input.now c.in-Ok.sections c.game_in_text.result c.in-Ok.ensures c.game_in_text.ensures

pub returns-in-Err : goal.returns-in-Err
returns-in-Err c = untaken_begins (option_copied c.args.file) c.args.input.now c.in-Err.why c.in-Err.ensures
