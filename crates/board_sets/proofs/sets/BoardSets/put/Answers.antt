use Rattle.board_sets.proofs.WriteLaws.{all_put}
use Rattle.board_sets.proofs.sets.BoardSets.put.Goals as goal

pub returns : goal.returns
returns c = λ cells size are. all_put _ cells size c.requires _ c.squares_of.ensures _ _ _ _ _ are c.minus-sets.ensures c.add.ensures
