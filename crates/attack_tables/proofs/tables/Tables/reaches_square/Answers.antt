use Rattle.std.proofs.Common.{rules, sym, ◌∙◌}
use Rattle.std.proofs.lemmas.Bool.{le-ltb}
use Rattle.square_set.proofs.BitLaws.{bit-above}
use Rattle.attack_tables.proofs.tables.Tables.reaches_square.Goals as goal

pub returns-else-to-lt128 : goal.returns-else-to-lt128
returns-else-to-lt128 c = le-ltb c.args.to.0 128 c.if-to-lt128.false ∙ sym (sym (c.reached-reached.ensures c.args.to.0) ∙ bit-above c.reached-reached.result.0 c.args.to.0 (search rules) c.if-to-lt128.false)
