use Rattle.strategy.proofs.LineLaws.{strategy-back}
use Rattle.strategy.proofs.laws.reading_gives_back.Goals as goal

pub returns : goal.returns
returns c = strategy-back
