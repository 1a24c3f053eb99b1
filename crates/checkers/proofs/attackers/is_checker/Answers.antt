use Rattle.std.proofs.Common.{sym, ◌∙◌}
use Rattle.foundation.proofs.CountLemmas.{any_below-true}
use Rattle.checkers.specs.Checkers.{is_checker}
use Rattle.checkers.proofs.attackers.is_checker.Goals as goal

pub returns-then-attacks_king_on : goal.returns-then-attacks_king_on
unfolding is_checker
returns-then-attacks_king_on c =
    sym (any_below-true _ _ c.loop-to.to c.loop-to-test.true (sym c.attacks_king_on.ensures ∙ c.if-attacks_king_on.true))
