-- Why no piece is put on a square: the fault that the code gives, as the definitions have it.
use Rattle.one_shot_checks.specs.declared.setup.ReachFault.{ReachFault}
use Rattle.one_shot_checks.specs.declared.setup.ReachFault.TheVariants as reach
use Rattle.one_shot_checks.specs.Setup.{Unplaced, NoSquare, Taken}

abbrev pub unplaced_of : ReachFault → Unplaced
unplaced_of (reach.BadSquare text) = NoSquare text.now
unplaced_of (reach.SquareTwice text) = Taken text.now
