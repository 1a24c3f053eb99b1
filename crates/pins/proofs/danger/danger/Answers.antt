use Rattle.pins.proofs.danger.danger.Goals as goal

pub returns-else-count-lt-MANY_TARGETS : goal.returns-else-count-lt-MANY_TARGETS
returns-else-count-lt-MANY_TARGETS c = λ to target. c.danger_anywhere.ensures to
