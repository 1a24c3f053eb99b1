use Rattle.std.proofs.Common.{sym, ◌∙◌}
use Rattle.attack_tables.proofs.AlikeLaws.{holds}
use Rattle.attack_tables.proofs.tables.Tables.quiet_set.Goals as goal

pub returns-then-is_alike : goal.returns-then-is_alike
returns-then-is_alike c = λ cells is s.
    c.requires.takes cells is s ∙ sym (holds c.is_alike.result c.if-is_alike.true c.is_alike.ensures cells c.args.by c.args.from s)
