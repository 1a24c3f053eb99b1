use Rattle.std.proofs.Common.{◌==◌, not, subst, sym, ◌∙◌}
use Rattle.std.proofs.lemmas.Bool.{and_parts}
use Rattle.rules_model.specs.declared.board.Side.{Side}
use Rattle.rules_model.specs.Sides.{other}
use Rattle.square_set.specs.Members.{has}
use Rattle.pins.specs.Evasion.{AfterVainMoves, PiecesAttack, StaysAttacked}
use Rattle.pins.proofs.EvasionLaws.{attacked_by_pieces, vain_by_either}
use Rattle.pins.proofs.evasion.evasions.Goals as goal

pub loop-king-preserved : goal.loop-king-preserved
loop-king-preserved c =
    let by = other c.args.side in
    let member = c.loop-king.invariant.inside c.in-Some.king c.in-Some.ensures.some.member in
    let attacks = c.king_evasions-found.result in
    let Vain : Side → Type 0 = λ side. AfterVainMoves side c.args.cells.now c.args.enemies c.args.occupied attacks.leave attacks.enter (PiecesAttack c.args.tables.now side c.in-Some.king) in
    let attacked = subst Vain c.other-by.ensures c.king_evasions-found.ensures in
    record {
      inside = λ s h. c.loop-king.invariant.inside s (and_parts (has c.loop-king.rest s) (not (s == c.in-Some.king)) (sym (c.in-Some.ensures.rest s) ∙ h)).0;
      done =
          vain_by_either by c.args.cells.now c.args.enemies c.args.occupied c.loop-king.leave c.loop-king.enter attacks.leave attacks.enter c.or-leave.result c.and-enter.result
          (StaysAttacked c.args.tables.now c.args.side c.args.kings) c.or-leave.ensures c.and-enter.ensures c.loop-king.invariant.done
          (λ from to men moved board l out into taken gone is are.
          attacked_by_pieces c.args.tables.now board c.args.side c.in-Some.king (c.requires.kings c.in-Some.king member) (sym (are c.in-Some.king) ∙ member) (attacked from to men moved board l out into taken gone is));
    }
