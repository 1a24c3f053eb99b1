use Rattle.std.proofs.Common.{[], sym}
use Rattle.game_text.proofs.ReadLemmas.{by-bad, by-started}
use Rattle.game_text.proofs.read.started.Goals as goal

pub returns-in_ok-new-in-Ok-clause-says : goal.returns-in_ok-new-in-Ok-clause-says
returns-in_ok-new-in-Ok-clause-says c = by-started c.args.rules.now c.args.text.now c.in-Ok.p _ (sym c.in-Ok.ensures.is) c.in_ok-new-in-Ok.ensures

pub returns-in-Err-clause-says : goal.returns-in-Err-clause-says
returns-in-Err-clause-says c = by-bad c.args.rules.now c.args.text.now [] c.in-Err.fault (sym c.in-Err.ensures.is)
