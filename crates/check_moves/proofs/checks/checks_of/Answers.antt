use Rattle.std.proofs.Common.{subst}
use Rattle.rules_model.specs.declared.board.Position.{Position}
use Rattle.rules_model.specs.declared.rules.Rules.{Rules}
use Rattle.check_moves.specs.Shut.{AreShut}
use Rattle.check_moves.proofs.ShutLaws.{by_any_set}
use Rattle.check_moves.proofs.checks.checks_of.Goals as goal

pub returns : goal.returns
returns c =
    let s = c.args.board.now in
    let kings = c.sets-sets.result.now.enemy_kings in
    let By : Rules → Position → Type 0 = λ rules p. AreShut rules p.side p.cells c.occupied-occupied.result kings c.shut-shut.result in
    let of_rules = subst (λ rules. By rules c.position-p.result.now) c.tables.ensures c.shut-shut.ensures in
    let of_position = subst (By s.rules) c.position-p.ensures of_rules in
    let occupied = c.occupied-occupied.ensures _ _ _ c.sets-sets.ensures in
    record {
      kings = c.sets-sets.ensures.enemy_kings;
      shut = λ set is. by_any_set s.rules s.position.side s.position.cells c.occupied-occupied.result set kings c.shut-shut.result occupied is of_position;
    }
