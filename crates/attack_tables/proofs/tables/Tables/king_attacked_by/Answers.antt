use Rattle.std.proofs.Common.{◌≡◌, ◌==◌, not, true, false, ap, subst, sym, ◌∙◌}
use Rattle.std.proofs.lemmas.Bool.{and_parts}
use Rattle.foundation.proofs.CountLemmas.{any_below-true, any_below-none}
use Rattle.rules_model.specs.declared.board.Side.{Side}
use Rattle.rules_model.specs.Attacks.{is_own_king, king_attacked, king_attacked_at}
use Rattle.rules_model.specs.Sides.{other}
use Rattle.rules_model.specs.Squares.{cell_at}
use Rattle.square_set.specs.Members.{has}
use Rattle.square_set.proofs.Cases.{by_equal}
use Rattle.attack_tables.specs.Boards.{HoldsMen, IsBoardBy}
use Rattle.attack_tables.proofs.AttackLaws.{king_at, no_king_at, other_other}
use Rattle.attack_tables.proofs.MaskLaws.{and_not}
use Rattle.attack_tables.proofs.tables.Tables.king_attacked_by.Goals as goal

pub loop-at-init : goal.loop-at-init
loop-at-init c = record {
  inside = λ s h. h;
  done = λ board is are s l h. no_king_at c.args.self.now board c.args.side s (sym (are s) ∙ h);
}

pub attacks_king-requires : goal.attacks_king-requires
attacks_king-requires c = record {
  at = c.requires.kings c.in-Some.at (c.loop-at.invariant.inside c.in-Some.at c.in-Some.ensures.some.member);
  men = let Q : Side → Type 0 = λ by. HoldsMen by c.args.cells.now c.args.men in subst Q (sym c.other-by.ensures) c.requires.men;
}

pub loop-at-preserved : goal.loop-at-preserved
loop-at-preserved c = record {
  inside = λ s h. c.loop-at.invariant.inside s (and_parts (has c.loop-at.rest s) (not (s == c.in-Some.at)) (sym (c.in-Some.ensures.rest s) ∙ h)).0;
  done = λ board is are s l h.
      by_equal s c.in-Some.at (king_attacked_at c.args.self.now board c.args.side s ≡ false)
      (λ e q.
      let Q : Side → Type 0 = λ by. IsBoardBy by c.args.cells.now c.args.men c.args.occupied board in
      let by_it = subst Q (sym c.other-by.ensures) is in
      let king : is_own_king c.args.self.now c.args.side (cell_at board c.in-Some.at) ≡ true = sym (are c.in-Some.at) ∙ c.loop-at.invariant.inside c.in-Some.at c.in-Some.ensures.some.member in
      let same : other c.other-by.result ≡ c.args.side = ap other c.other-by.ensures ∙ other_other c.args.side in
      let free = sym (c.attacks_king.ensures board by_it (rw same king)) ∙ c.if-attacks_king.false in
      ap (king_attacked_at c.args.self.now board c.args.side) q ∙ king_at c.args.self.now board c.args.side c.in-Some.at king ∙ rw (sym c.other-by.ensures) free)
      (λ e q. c.loop-at.invariant.done board is are s l (and_not (has c.loop-at.rest s) (s == c.in-Some.at) e (sym (c.in-Some.ensures.rest s) ∙ h)));
}

pub returns-then-attacks_king : goal.returns-then-attacks_king
unfolding king_attacked
returns-then-attacks_king c = λ board is are.
    let Q : Side → Type 0 = λ by. IsBoardBy by c.args.cells.now c.args.men c.args.occupied board in
    let by_it = subst Q (sym c.other-by.ensures) is in
    let on = c.loop-at.invariant.inside c.in-Some.at c.in-Some.ensures.some.member in
    let king : is_own_king c.args.self.now c.args.side (cell_at board c.in-Some.at) ≡ true = sym (are c.in-Some.at) ∙ on in
    let same : other c.other-by.result ≡ c.args.side = ap other c.other-by.ensures ∙ other_other c.args.side in
    let taken = sym (c.attacks_king.ensures board by_it (rw same king)) ∙ c.if-attacks_king.true in
    sym (any_below-true (king_attacked_at c.args.self.now board c.args.side) 120 c.in-Some.at (c.requires.kings c.in-Some.at on) (king_at c.args.self.now board c.args.side c.in-Some.at king ∙ rw (sym c.other-by.ensures) taken))

pub returns : goal.returns
unfolding king_attacked
returns c = λ board is are. sym (any_below-none (king_attacked_at c.args.self.now board c.args.side) 120 (λ s l. c.loop-at.invariant.done board is are s l (c.in_default.ensures.none s)))
