use Rattle.rules_model.proofs.ResultLaws.{times-none, times-here, times-elsewhere}
use Rattle.rules_model.proofs.game_laws.standings_are_counted.Goals as goal

pub returns : goal.returns
returns c = record {
  none = times-none;
  here = times-here;
  elsewhere = times-elsewhere;
}
