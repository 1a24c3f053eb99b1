use Rattle.std.proofs.Common.{◌==◌, not, sym, ◌∙◌}
use Rattle.std.proofs.lemmas.Bool.{and_parts}
use Rattle.square_set.specs.Members.{has}
use Rattle.attack_tables.proofs.AttackLaws.{men_small}
use Rattle.pins.specs.Evasion.{PiecesAttack}
use Rattle.pins.proofs.EvasionLaws.{still_attacks, vain_by_either}
use Rattle.pins.proofs.evasion.king_evasions.Goals as goal

pub loop-from-preserved-in-Some-attack_way : goal.loop-from-preserved-in-Some-attack_way
loop-from-preserved-in-Some-attack_way c =
    let enemy = c.loop-from.invariant.inside c.in-Some.from c.in-Some.ensures.some.member in
    let small = men_small c.args.by c.args.cells.now c.args.enemies c.in-Some.from c.prove_board_size.ensures c.requires.enemies enemy in
    let way = c.in-Some-attack_way.way in
    record {
      inside = λ s h. c.loop-from.invariant.inside s (and_parts (has c.loop-from.near s) (not (s == c.in-Some.from)) (sym (c.in-Some.ensures.rest s) ∙ h)).0;
      done =
          let attack = still_attacks c.args.tables.now c.args.by c.args.cells.now c.args.enemies c.args.occupied way c.with.result c.args.king.0 c.in-Some.from c.in-Some-attack_way.ensures enemy small c.with.ensures in
          vain_by_either c.args.by c.args.cells.now c.args.enemies c.args.occupied c.loop-from.leave c.loop-from.enter way c.with.result c.or-leave.result c.and-enter.result
          (PiecesAttack c.args.tables.now c.args.by c.args.king.0) c.or-leave.ensures c.and-enter.ensures c.loop-from.invariant.done attack;
    }
