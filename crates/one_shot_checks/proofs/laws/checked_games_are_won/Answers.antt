use Rattle.std.proofs.Common.{refl}
use Rattle.strategy_check.specs.Rows.{kept}
use Rattle.one_shot_checks.proofs.CheckLemmas.{checked_won}
use Rattle.one_shot_checks.proofs.laws.checked_games_are_won.Goals as goal

pub returns : goal.returns
returns c = λ variants input text says. checked_won variants input 0 text (λ rules. c.good_strategies_win.ensures rules kept) refl says
