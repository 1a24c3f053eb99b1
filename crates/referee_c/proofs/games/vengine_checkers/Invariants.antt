use Rattle.referee_c.proofs.games.vengine_checkers.Given as goal

abbrev pub ghost-take : goal.ghost-take
ghost-take g a = g.g
