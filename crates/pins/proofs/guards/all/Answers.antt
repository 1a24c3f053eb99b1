use Rattle.pins.proofs.GuardLaws.{every_square}
use Rattle.pins.proofs.guards.all.Goals as goal

pub returns : goal.returns
returns c = λ s. every_square s
