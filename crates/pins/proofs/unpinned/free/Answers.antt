use Rattle.std.proofs.Common.{◌≡◌, ◌==◌, not, true, false, ap, subst, sym, ◌∙◌}
use Rattle.std.proofs.lemmas.Bool.{and_parts, ltb-true}
use Rattle.foundation.proofs.CountLemmas.{any_below-none}
use Rattle.rules_model.specs.declared.board.Side.{Side}
use Rattle.rules_model.specs.Attacks.{is_own_king, king_attacked, king_attacked_at}
use Rattle.rules_model.specs.Sides.{other}
use Rattle.rules_model.specs.Squares.{cell_at}
use Rattle.square_set.specs.Members.{has}
use Rattle.square_set.proofs.Cases.{by_equal}
use Rattle.attack_tables.specs.Boards.{HoldsMen, IsBoardBy}
use Rattle.attack_tables.proofs.AttackLaws.{king_at, no_king_at, other_other}
use Rattle.attack_tables.proofs.MaskLaws.{and_not}
use Rattle.pins.proofs.GuardLaws.{not_true}
use Rattle.pins.proofs.unpinned.free.Goals as goal

pub loop-king-init : goal.loop-king-init
loop-king-init c = record {
  inside = λ s h. h;
  small = λ s h. ltb-true s 128 (sym (c.all-free.ensures s) ∙ h);
  done = λ from to men moved board on taken gone is are s ls h. no_king_at c.args.tables.now board c.args.side s (sym (are s) ∙ h);
}

pub guards_of_king-requires : goal.guards_of_king-requires
guards_of_king-requires c = record {
  king = c.requires.kings c.in-Some.king (c.loop-king.invariant.inside c.in-Some.king c.in-Some.ensures.some.member);
  enemies = let Q : Side → Type 0 = λ by. HoldsMen by c.args.cells.now c.args.enemies in subst Q (sym c.other-by.ensures) c.requires.enemies;
}

pub loop-king-preserved : goal.loop-king-preserved
loop-king-preserved c =
    record {
      inside = λ s h. c.loop-king.invariant.inside s (and_parts (has c.loop-king.rest s) (not (s == c.in-Some.king)) (sym (c.in-Some.ensures.rest s) ∙ h)).0;
      small = λ s h. c.loop-king.invariant.small s (and_parts (has c.loop-king.free s) (not (has c.guards_of_king.result s)) (sym (c.minus-free.ensures s) ∙ h)).0;
      done = λ from to men moved board on taken gone is are s ls h.
          let p = and_parts (has c.loop-king.free from) (not (has c.guards_of_king.result from)) (sym (c.minus-free.ensures from) ∙ on) in
          by_equal s c.in-Some.king (king_attacked_at c.args.tables.now board c.args.side s ≡ false)
          (λ e q.
          let Q : Side → Type 0 = λ by. IsBoardBy by c.args.cells.now men moved board in
          let by_it = subst Q (sym c.other-by.ensures) is in
          let king : is_own_king c.args.tables.now c.args.side (cell_at board c.in-Some.king) ≡ true = sym (are c.in-Some.king) ∙ c.loop-king.invariant.inside c.in-Some.king c.in-Some.ensures.some.member in
          let same : other c.other-by.result ≡ c.args.side = ap other c.other-by.ensures ∙ other_other c.args.side in
          let out = not_true (has c.guards_of_king.result from) p.1 in
          let spared = c.guards_of_king.ensures from to men moved board (c.loop-king.invariant.small from p.0) out taken gone by_it (rw same king) in
          ap (king_attacked_at c.args.tables.now board c.args.side) q ∙ king_at c.args.tables.now board c.args.side c.in-Some.king king ∙ rw (sym c.other-by.ensures) spared)
          (λ e q. c.loop-king.invariant.done from to men moved board p.0 taken gone is are s ls (and_not (has c.loop-king.rest s) (s == c.in-Some.king) e (sym (c.in-Some.ensures.rest s) ∙ h)));
    }

pub returns : goal.returns
unfolding king_attacked
returns c = λ from to men moved board on taken gone is are. any_below-none (king_attacked_at c.args.tables.now board c.args.side) 120 (λ s ls. c.loop-king.invariant.done from to men moved board on taken gone is are s ls (c.in_default.ensures.none s))
