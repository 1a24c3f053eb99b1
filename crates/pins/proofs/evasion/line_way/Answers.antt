use Rattle.pins.proofs.DependLaws.{on_line-depends}
use Rattle.pins.proofs.evasion.line_way.Goals as goal

pub returns-then-has : goal.returns-then-has
returns-then-has c = on_line-depends c.args.line c.args.target c.squares_before.result c.requires c.squares_before.ensures
