use Rattle.std.proofs.Common.{refl, ◌∙◌}
use Rattle.attack_tables.proofs.tables.Tables.goals.Goals as goal

pub returns : goal.returns
returns c = λ cells is s.
    c.or.ensures s ∙ rw (c.minus.ensures s, c.and.ensures s, c.quiet_set-quiet.ensures cells is s, c.reach_set-takes.ensures cells is s) refl
