use Rattle.std.proofs.Common.{sym, ◌∙◌, not}
use Rattle.std.proofs.lemmas.Bool.{and_parts}
use Rattle.square_set.specs.Members.{has}
use Rattle.board_sets.proofs.PawnLaws.{pieces}
use Rattle.board_sets.proofs.sets.BoardSets.own_pieces.Goals as goal

pub returns-clause-are : goal.returns-clause-are
returns-clause-are c = λ rules side cells are. pieces rules side cells _ _ are c.minus.ensures

pub returns-clause-within : goal.returns-clause-within
returns-clause-within c = λ s e. (and_parts (has c.args.self.now.own s) (not (has c.args.self.now.pawns s)) (sym (c.minus.ensures s) ∙ e)).0
