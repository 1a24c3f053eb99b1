use Rattle.std.proofs.Common.{◌≡◌, length, rules}
use Rattle.rules_model.specs.declared.board.Side.TheVariants.{White}
use Rattle.attack_tables.proofs.AttackLaws.{kings_small}
use Rattle.move_tests.proofs.pinned.evasions_of.Goals as goal

pub evasions-requires-clause-kings : goal.evasions-requires-clause-kings
evasions-requires-clause-kings c =
    let whole : length c.args.p.now.cells ≡ 120 = search rules in
    kings_small c.rules.result.now White c.args.p.now.cells c.sets_of.result.kings whole c.sets_of.ensures.kings
