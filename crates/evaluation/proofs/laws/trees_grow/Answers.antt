use Rattle.evaluation.proofs.TreeLaws.{roots-lines, tree-grows, tree-some}
use Rattle.evaluation.proofs.laws.trees_grow.Goals as goal

pub returns : goal.returns
returns g c = record {
  some = λ play. tree-some play;
  longer = λ play. tree-grows play;
  roots = λ play. roots-lines play;
}
