use Rattle.std.proofs.Common.{sym, ◌∙◌}
use Rattle.std.proofs.lemmas.Bool.{and_parts}
use Rattle.square_set.specs.Members.{has}
use Rattle.board_sets.proofs.PawnLaws.{pawns}
use Rattle.board_sets.proofs.sets.BoardSets.own_pawns.Goals as goal

pub returns-clause-are : goal.returns-clause-are
returns-clause-are c = λ rules side cells are. pawns rules side cells _ _ are c.and.ensures

pub returns-clause-within : goal.returns-clause-within
returns-clause-within c = λ s e. (and_parts (has c.args.self.now.own s) (has c.args.self.now.pawns s) (sym (c.and.ensures s) ∙ e)).0
