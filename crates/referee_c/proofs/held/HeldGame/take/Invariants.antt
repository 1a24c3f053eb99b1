use Rattle.referee_c.proofs.held.HeldGame.take.Given as goal

abbrev pub ghost-into_parts : goal.ghost-into_parts
ghost-into_parts g a = g.g
