use Rattle.settle_tests.proofs.settled.wins_by_moves.Goals as goal

pub choose-choice-requires-clause-moves : goal.choose-choice-requires-clause-moves
choose-choice-requires-clause-moves g c = rw c.deref.ensures.value c.ordered-moves.ensures

pub all_won-won-requires-clause-moves : goal.all_won-won-requires-clause-moves
all_won-won-requires-clause-moves g c = rw c.deref-else-is.ensures.value c.ordered-moves.ensures
