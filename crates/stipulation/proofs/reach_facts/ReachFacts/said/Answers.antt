use Rattle.std.proofs.Common.{rules}
use Rattle.legality.specs.Stance.{repeat_in}
use Rattle.stipulation.proofs.BareLaws.{told}
use Rattle.stipulation.proofs.reach_facts.ReachFacts.said.Goals as goal

pub returns-then-is_of : goal.returns-then-is_of
returns-then-is_of c = told c.args.self.now c.args.fact.now c.args.plies (repeat_in c.args.board.now) c.requires.truth (search rules) (search rules)
