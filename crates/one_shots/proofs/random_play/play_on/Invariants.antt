use Rattle.std.proofs.Common.{◌≡◌, ◌+◌, ◌-◌, ◌≤◌, length}
use Rattle.game_play.specs.declared.game.TheConstants.{MOST_PLIES}
use Rattle.one_shots.specs.Generate.{random_game}
use Rattle.one_shots.proofs.random_play.play_on.Given as goal

abbrev pub invariant-loop-ply : goal.invariant-loop-ply
invariant-loop-ply l =
    (random_game (l.plies - l.ply) l.generator l.game ≡ random_game l.plies l.initial.generator l.initial.game)
    × (length l.game.moves + (l.plies - l.ply) ≤ MOST_PLIES)
