use Rattle.std.proofs.Common.{sym, ◌∙◌}
use Rattle.std.proofs.lemmas.Bool.{and_right}
use Rattle.square_set.specs.Members.{has}
use Rattle.move_tables.specs.Lines.{by_parts}
use Rattle.attack_tables.proofs.masks.range_of_kind.Goals as goal

pub returns : goal.returns
returns c = λ at l h occupied cells is.
    sym (c.spot.ensures occupied cells is at) ∙ and_right (by_parts c.spot.result.now occupied at) (has c.spot.result.now.within at) h
