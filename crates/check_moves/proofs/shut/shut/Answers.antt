use Rattle.std.proofs.Common.{◌==◌, not, subst, sym, ◌∙◌}
use Rattle.std.proofs.lemmas.Bool.{and_parts, ltb-true, not-true}
use Rattle.square_set.specs.Members.{has}
use Rattle.square_set.proofs.Cases.{by_equal}
use Rattle.attack_tables.proofs.MaskLaws.{and_not}
use Rattle.pins.proofs.GuardLaws.{every_square}
use Rattle.check_moves.specs.Shut.{StayersSpare}
use Rattle.check_moves.proofs.shut.shut.Goals as goal

pub loop-king-init : goal.loop-king-init
loop-king-init c = record {
  inside = λ s h. h;
  small = λ s h. ltb-true s 128 (sym (every_square s) ∙ h);
  done = λ from to king moved board on member out gone is. absurd (let f : ⊥ = cc in f);
}

pub guards_of_king-requires-clause-king : goal.guards_of_king-requires-clause-king
guards_of_king-requires-clause-king c = c.requires.kings c.in-Some.king (c.loop-king.invariant.inside c.in-Some.king c.in-Some.ensures.some.member)

pub loop-king-preserved : goal.loop-king-preserved
loop-king-preserved c = record {
  inside = λ s h. c.loop-king.invariant.inside s (and_parts (has c.loop-king.rest s) (not (s == c.in-Some.king)) (sym (c.in-Some.ensures.rest s) ∙ h)).0;
  small = λ s h. c.loop-king.invariant.small s (and_parts (has c.loop-king.shut s) (not (has c.guards_of_king.result s)) (sym (c.minus-shut.ensures s) ∙ h)).0;
  done = λ from to king moved board on member out gone is.
      let p = and_parts (has c.loop-king.shut from) (not (has c.guards_of_king.result from)) (sym (c.minus-shut.ensures from) ∙ on) in
      by_equal king c.in-Some.king (StayersSpare c.args.tables.now c.args.by c.args.cells.now king board)
      (λ e q. subst (λ k. StayersSpare c.args.tables.now c.args.by c.args.cells.now k board) (sym q)
      (c.guards_of_king.ensures from to moved board (c.loop-king.invariant.small from p.0) (not-true (has c.guards_of_king.result from) p.1) gone is))
      (λ e q. c.loop-king.invariant.done from to king moved board p.0 member (and_not (has c.loop-king.rest king) (king == c.in-Some.king) e (sym (c.in-Some.ensures.rest king) ∙ out)) gone is);
}

pub returns : goal.returns
returns c = λ from to king moved board on member gone is. c.loop-king.invariant.done from to king moved board on member (c.in_default.ensures.none king) gone is
