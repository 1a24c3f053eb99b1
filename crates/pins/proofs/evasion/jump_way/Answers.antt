use Rattle.pins.proofs.DependLaws.{by_jump-depends}
use Rattle.pins.proofs.evasion.jump_way.Goals as goal

pub returns-then-has : goal.returns-then-has
returns-then-has c = by_jump-depends c.args.jump c.args.target
