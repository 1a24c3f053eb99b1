use Rattle.std.proofs.Common.{◌≡◌, ◌==◌, not, false, refl, ap, sym, ◌∙◌}
use Rattle.std.proofs.lemmas.Bool.{and_parts, and_right, or_parts}
use Rattle.rules_model.specs.Attacks.{is_own_king, king_faces}
use Rattle.rules_model.specs.Squares.{cell_at}
use Rattle.square_set.specs.Members.{has}
use Rattle.square_set.proofs.Cases.{by_bool, by_equal}
use Rattle.attack_tables.specs.Sights.{sees}
use Rattle.attack_tables.proofs.AttackLaws.{faces_seen, king_is_man, men_small, not_facing}
use Rattle.attack_tables.proofs.MaskLaws.{and_not}
use Rattle.pins.proofs.GuardLaws.{second_of}
use Rattle.pins.proofs.unpinned.guards_from_kings.Goals as goal

pub loop-from-init : goal.loop-from-init
loop-from-init c = record {
  inside = λ s h. (and_parts (has c.or.result s) (has c.args.enemies s) (sym (c.and-near.ensures s) ∙ h)).1;
  done = λ from to men moved board l out taken gone is s ls h king.
      by_bool (has men s) (king_faces c.args.tables.now board c.args.by c.args.king.0 s ≡ false)
      (λ man.
      let enemy = (and_parts (has c.args.enemies s) (not (s == to)) (sym (taken s) ∙ man)).0 in
      let far = second_of (has c.or.result s) (has c.args.enemies s) enemy (sym (c.and-near.ensures s) ∙ h) in
      let o = or_parts (has c.sight-sight.result.above s) (has c.sight-sight.result.below s) (sym (c.or.ensures s) ∙ far) in
      let unseen : sees c.sight-sight.result moved s ≡ false = rw (o.0, o.1) refl in
      faces_seen c.args.tables.now board c.args.by c.args.king.0 moved is.squares c.requires.king c.sight-sight.result c.sight-sight.ensures king s ls
      ∙ and_right (is_own_king c.args.tables.now c.args.by (cell_at board s)) (sees c.sight-sight.result moved s) unseen)
      (λ none. not_facing c.args.tables.now board c.args.by c.args.king.0 s (king_is_man c.args.tables.now c.args.by (cell_at board s) (sym (is.own s) ∙ none)));
}

pub guards_from_king-requires-clause-from : goal.guards_from_king-requires-clause-from
guards_from_king-requires-clause-from c = men_small c.args.by c.args.cells.now c.args.enemies c.in-Some.from c.prove_board_size.ensures c.requires.enemies (c.loop-from.invariant.inside c.in-Some.from c.in-Some.ensures.some.member)

pub loop-from-preserved : goal.loop-from-preserved
loop-from-preserved c = record {
  inside = λ s h. c.loop-from.invariant.inside s (and_parts (has c.loop-from.near s) (not (s == c.in-Some.from)) (sym (c.in-Some.ensures.rest s) ∙ h)).0;
  done = λ from to men moved board l out taken gone is s ls h king.
      let o = or_parts (has c.loop-from.guards from) (has c.guards_from_king.result from) (sym (c.or-guards.ensures from) ∙ out) in
      by_equal s c.in-Some.from (king_faces c.args.tables.now board c.args.by c.args.king.0 s ≡ false)
      (λ e q.
      ap (king_faces c.args.tables.now board c.args.by c.args.king.0) q
      ∙ by_bool (has men c.in-Some.from) (king_faces c.args.tables.now board c.args.by c.args.king.0 c.in-Some.from ≡ false)
      (λ man. c.guards_from_king.ensures from to moved board l o.1 gone is.squares (is.same c.in-Some.from man) king)
      (λ none. not_facing c.args.tables.now board c.args.by c.args.king.0 c.in-Some.from (king_is_man c.args.tables.now c.args.by (cell_at board c.in-Some.from) (sym (is.own c.in-Some.from) ∙ none))))
      (λ e q. c.loop-from.invariant.done from to men moved board l o.0 taken gone is s ls (and_not (has c.loop-from.near s) (s == c.in-Some.from) e (sym (c.in-Some.ensures.rest s) ∙ h)) king);
}

pub returns : goal.returns
returns c = λ from to men moved board l out taken gone is s ls king. c.loop-from.invariant.done from to men moved board l out taken gone is s ls (c.in_default.ensures.none s) king
