use Rattle.std.specs.Arc.{arc_value}
use Rattle.game_play.proofs.KeptLemmas.{kept-new}
use Rattle.game_play.proofs.game.Game.of_tables.Goals as goal

pub invariant_of-result : goal.invariant_of-result
invariant_of-result c =
    rw (c.in_ok-standings.ensures, c.new-2.ensures.items)
    (kept-new (arc_value c.args.tables) c.args.start.now c.requires.fit c.requires.sound)
