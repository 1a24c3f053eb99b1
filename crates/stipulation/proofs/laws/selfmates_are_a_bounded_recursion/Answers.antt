use Rattle.stipulation.proofs.RuleLaws.{self-sentences}
use Rattle.stipulation.proofs.laws.selfmates_are_a_bounded_recursion.Goals as goal

pub returns : goal.returns
returns c = λ rules n g a. self-sentences rules a n g
