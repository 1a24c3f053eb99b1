-- The next position but for the checks left, and then these.
use Rattle.std.proofs.Common.{◌∙◌}
use Rattle.next_position.proofs.PartLaws.{next-by}
use Rattle.next_position.proofs.make_move.Goals as goal

pub returns : goal.returns
returns c = c.count_check.ensures ∙ next-by c.args.rules.now c.args.p.now c.make_but_checks-touched.new.p c.args.m.now c.is_counted-gives.result c.make_but_checks-touched.ensures.position c.is_counted-gives.ensures
