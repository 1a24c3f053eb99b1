use Rattle.std.proofs.Common.{◌≡◌, ◌==◌, not, false, ap, sym, ◌∙◌}
use Rattle.std.proofs.lemmas.Bool.{and_parts}
use Rattle.foundation.proofs.CountLemmas.{any_below-true, any_below-none}
use Rattle.rules_model.specs.Attacks.{attacks_from}
use Rattle.square_set.specs.Members.{has}
use Rattle.square_set.proofs.Cases.{by_equal}
use Rattle.attack_tables.proofs.AttackLaws.{men_small}
use Rattle.attack_tables.proofs.MaskLaws.{and_not, none_there}
use Rattle.attack_tables.proofs.tables.Tables.piece_attacks.Goals as goal

pub loop-from-init : goal.loop-from-init
loop-from-init c =
    record {
      inside = λ s h. (and_parts (has c.takers.result s) (has c.args.men s) (sym (c.and-near.ensures s) ∙ h)).1;
      done = λ board is s l h. none_there c.args.self.now c.rules-rules.ensures.fit board c.args.by c.args.at.0 c.args.occupied is.squares c.takers.result c.args.men c.takers.ensures is.own s l (sym (c.and-near.ensures s) ∙ h);
    }

pub attacks_from-requires-clause-from : goal.attacks_from-requires-clause-from
attacks_from-requires-clause-from c = men_small c.args.by c.args.cells.now c.args.men c.in-Some.from c.prove_board_size.ensures c.requires.men (c.loop-from.invariant.inside c.in-Some.from c.in-Some.ensures.some.member)

pub loop-from-preserved : goal.loop-from-preserved
loop-from-preserved c = record {
  inside = λ s h. c.loop-from.invariant.inside s (and_parts (has c.loop-from.near s) (not (s == c.in-Some.from)) (sym (c.in-Some.ensures.rest s) ∙ h)).0;
  done = λ board is s l h.
      by_equal s c.in-Some.from (attacks_from c.args.self.now board c.args.by c.args.at.0 s ≡ false)
      (λ e q. ap (attacks_from c.args.self.now board c.args.by c.args.at.0) q ∙ sym (c.attacks_from.ensures board is.squares (is.same c.in-Some.from (c.loop-from.invariant.inside c.in-Some.from c.in-Some.ensures.some.member))) ∙ c.if-attacks_from.false)
      (λ e q. c.loop-from.invariant.done board is s l (and_not (has c.loop-from.near s) (s == c.in-Some.from) e (sym (c.in-Some.ensures.rest s) ∙ h)));
}

pub returns-then-attacks_from : goal.returns-then-attacks_from
returns-then-attacks_from c = λ board is.
    let man = c.loop-from.invariant.inside c.in-Some.from c.in-Some.ensures.some.member in
    let small = men_small c.args.by c.args.cells.now c.args.men c.in-Some.from c.prove_board_size.ensures c.requires.men man in
    sym (any_below-true (attacks_from c.args.self.now board c.args.by c.args.at.0) 120 c.in-Some.from small (sym (c.attacks_from.ensures board is.squares (is.same c.in-Some.from man)) ∙ c.if-attacks_from.true))

pub returns : goal.returns
returns c = λ board is. sym (any_below-none (attacks_from c.args.self.now board c.args.by c.args.at.0) 120 (λ s l. c.loop-from.invariant.done board is s l (c.in_default.ensures.none s)))
