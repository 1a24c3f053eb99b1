use Rattle.std.proofs.Common.{◌==◌, not, sym, ◌∙◌}
use Rattle.std.proofs.lemmas.Bool.{and_parts}
use Rattle.square_set.specs.Members.{has}
use Rattle.board_tests.proofs.attacks.is_attacked_after.Goals as goal

pub attacks_king-requires-clause-men : goal.attacks_king-requires-clause-men
attacks_king-requires-clause-men c = λ s h. sym (c.men.ensures s) ∙ (and_parts (has c.men.result s) (not (s == c.args.to.0)) (sym (c.without-enemies.ensures s) ∙ h)).0
