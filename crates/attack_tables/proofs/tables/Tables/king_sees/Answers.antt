use Rattle.std.proofs.Common.{◌≡◌, ◌==◌, inl, inr, not, true, false, refl, ap, sym, ◌∙◌, arith}
use Rattle.std.proofs.lemmas.Bool.{and_cases, and_parts, and_right}
use Rattle.foundation.proofs.CountLemmas.{any_below-true, any_below-none}
use Rattle.rules_model.specs.Attacks.{is_own_king, king_faces}
use Rattle.rules_model.specs.Squares.{cell_at}
use Rattle.square_set.specs.Members.{has}
use Rattle.square_set.proofs.Cases.{by_equal}
use Rattle.attack_tables.specs.Sights.{sees}
use Rattle.attack_tables.proofs.AttackLaws.{faces_seen, king_is_man, men_small, not_facing}
use Rattle.attack_tables.proofs.MaskLaws.{and_not}
use Rattle.attack_tables.proofs.tables.Tables.king_sees.Goals as goal

pub loop-from-init : goal.loop-from-init
loop-from-init c =
    record {
      inside = λ s h. (and_parts (has c.reach.result s) (has c.args.men s) (sym (c.and-seen.ensures s) ∙ h)).1;
      faces = λ board is king s l h own.
          let reach = (and_parts (has c.reach.result s) (has c.args.men s) (sym (c.and-seen.ensures s) ∙ h)).0 in
          let sight = sym (c.reach.ensures s (omega (arith, l))) ∙ reach in
          faces_seen c.args.self.now board c.args.by c.args.at.0 c.args.occupied is.squares c.requires.at c.sight.result c.sight.ensures king s l ∙ rw (own, sight) refl;
      done = λ board is king s l h.
          elim (and_cases (has c.reach.result s) (has c.args.men s) (sym (c.and-seen.ensures s) ∙ h)) as (λ _. king_faces c.args.self.now board c.args.by c.args.at.0 s ≡ false) [
            | inl r ↦
                faces_seen c.args.self.now board c.args.by c.args.at.0 c.args.occupied is.squares c.requires.at c.sight.result c.sight.ensures king s l
                ∙ and_right (is_own_king c.args.self.now c.args.by (cell_at board s)) (sees c.sight.result c.args.occupied s) (sym (c.reach.ensures s (omega (arith, l))) ∙ r)
            | inr m ↦ not_facing c.args.self.now board c.args.by c.args.at.0 s (king_is_man c.args.self.now c.args.by (cell_at board s) (sym (is.own s) ∙ m))
          ];
    }

pub loop-from-preserved : goal.loop-from-preserved
loop-from-preserved c =
    let man = c.loop-from.invariant.inside c.in-Some.from c.in-Some.ensures.some.member in
    record {
      inside = λ s h. c.loop-from.invariant.inside s (and_parts (has c.loop-from.seen s) (not (s == c.in-Some.from)) (sym (c.in-Some.ensures.rest s) ∙ h)).0;
      faces = λ board is king s l h own. c.loop-from.invariant.faces board is king s l (and_parts (has c.loop-from.seen s) (not (s == c.in-Some.from)) (sym (c.in-Some.ensures.rest s) ∙ h)).0 own;
      done = λ board is king s l h.
          by_equal s c.in-Some.from (king_faces c.args.self.now board c.args.by c.args.at.0 s ≡ false)
          (λ e q.
          let none : is_own_king c.args.self.now c.args.by (cell_at board c.in-Some.from) ≡ false =
          ap (is_own_king c.args.self.now c.args.by) (is.same c.in-Some.from man ∙ sym c.cell_on.ensures) ∙ ap (λ r. is_own_king r c.args.by c.cell_on.result) (sym c.rules-rules.ensures.is) ∙ sym c.is_own_king.ensures ∙ c.if-is_own_king.false in
          ap (king_faces c.args.self.now board c.args.by c.args.at.0) q ∙ not_facing c.args.self.now board c.args.by c.args.at.0 c.in-Some.from none)
          (λ e q. c.loop-from.invariant.done board is king s l (and_not (has c.loop-from.seen s) (s == c.in-Some.from) e (sym (c.in-Some.ensures.rest s) ∙ h)));
    }

pub cell_on-requires : goal.cell_on-requires
cell_on-requires c = men_small c.args.by c.args.cells.now c.args.men c.in-Some.from c.prove_board_size.ensures c.requires.men (c.loop-from.invariant.inside c.in-Some.from c.in-Some.ensures.some.member)

pub returns-then-is_own_king : goal.returns-then-is_own_king
returns-then-is_own_king c = λ board is king.
    let man = c.loop-from.invariant.inside c.in-Some.from c.in-Some.ensures.some.member in
    let small = men_small c.args.by c.args.cells.now c.args.men c.in-Some.from c.prove_board_size.ensures c.requires.men man in
    let own : is_own_king c.args.self.now c.args.by (cell_at board c.in-Some.from) ≡ true =
    ap (is_own_king c.args.self.now c.args.by) (is.same c.in-Some.from man ∙ sym c.cell_on.ensures) ∙ ap (λ r. is_own_king r c.args.by c.cell_on.result) (sym c.rules-rules.ensures.is) ∙ sym c.is_own_king.ensures ∙ c.if-is_own_king.true in
    sym (any_below-true (king_faces c.args.self.now board c.args.by c.args.at.0) 120 c.in-Some.from small (c.loop-from.invariant.faces board is king c.in-Some.from small c.in-Some.ensures.some.member own))

pub returns : goal.returns
returns c = λ board is king. sym (any_below-none (king_faces c.args.self.now board c.args.by c.args.at.0) 120 (λ s l. c.loop-from.invariant.done board is king s l (c.in_default.ensures.none s)))
