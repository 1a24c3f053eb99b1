use Rattle.std.proofs.Common.{◌≡◌, ◌==◌, ◌&&◌, not, false, ap, sym, ◌∙◌}
use Rattle.std.proofs.lemmas.Bool.{and_parts, and_right, lt-ltb, or_parts}
use Rattle.foundation.proofs.CountLemmas.{any_below-none}
use Rattle.rules_model.specs.Attacks.{attacks_from}
use Rattle.square_set.specs.Members.{has}
use Rattle.square_set.proofs.Cases.{by_bool, by_equal}
use Rattle.attack_tables.proofs.AttackLaws.{men_small}
use Rattle.attack_tables.proofs.MaskLaws.{and_not, none_there}
use Rattle.pins.proofs.GuardLaws.{fewer_both, none-left}
use Rattle.pins.proofs.unpinned.guards_from_pieces.Goals as goal

pub loop-from-init : goal.loop-from-init
loop-from-init c = record {
  inside = λ s h. (and_parts (has c.takers.result s) (has c.args.enemies s) (sym (c.and-near.ensures s) ∙ h)).1;
  done = λ from to men moved board l out taken gone is s ls h.
      let none = ap (λ b. has c.takers.result s && b) (taken s) ∙ fewer_both (has c.takers.result s) (has c.args.enemies s) (not (s == to)) (sym (c.and-near.ensures s) ∙ h) in
      none_there c.args.tables.now c.rules-rules.ensures.fit board c.args.by c.args.king.0 moved is.squares c.takers.result men c.takers.ensures is.own s ls none;
}

pub guards_from-requires-clause-from : goal.guards_from-requires-clause-from
guards_from-requires-clause-from c = men_small c.args.by c.args.cells.now c.args.enemies c.in-Some.from c.prove_board_size.ensures c.requires.enemies (c.loop-from.invariant.inside c.in-Some.from c.in-Some.ensures.some.member)

pub returns-then-is_empty : goal.returns-then-is_empty
returns-then-is_empty c = λ from to men moved board l out taken gone is.
    absurd (none-left _ _ (c.all.ensures from ∙ lt-ltb from 128 l) out (sym (c.minus.ensures from) ∙ c.if-is_empty.ensures.empty from))

pub loop-from-preserved : goal.loop-from-preserved
loop-from-preserved c =
    let small = men_small c.args.by c.args.cells.now c.args.enemies c.in-Some.from c.prove_board_size.ensures c.requires.enemies (c.loop-from.invariant.inside c.in-Some.from c.in-Some.ensures.some.member) in
    record {
      inside = λ s h. c.loop-from.invariant.inside s (and_parts (has c.loop-from.near s) (not (s == c.in-Some.from)) (sym (c.in-Some.ensures.rest s) ∙ h)).0;
      done = λ from to men moved board l out taken gone is s ls h.
          let o = or_parts (has c.loop-from.guards from) (has c.guards_from.result from) (sym (c.or-guards.ensures from) ∙ out) in
          by_equal s c.in-Some.from (attacks_from c.args.tables.now board c.args.by c.args.king.0 s ≡ false)
          (λ e q.
          ap (attacks_from c.args.tables.now board c.args.by c.args.king.0) q
          ∙ by_bool (has men c.in-Some.from) (attacks_from c.args.tables.now board c.args.by c.args.king.0 c.in-Some.from ≡ false)
          (λ man. c.guards_from.ensures from to moved board l o.1 gone is.squares (is.same c.in-Some.from man))
          (λ none. none_there c.args.tables.now c.rules-rules.ensures.fit board c.args.by c.args.king.0 moved is.squares c.takers.result men c.takers.ensures is.own c.in-Some.from small (and_right (has c.takers.result c.in-Some.from) (has men c.in-Some.from) none)))
          (λ e q. c.loop-from.invariant.done from to men moved board l o.0 taken gone is s ls (and_not (has c.loop-from.near s) (s == c.in-Some.from) e (sym (c.in-Some.ensures.rest s) ∙ h)));
    }

pub returns : goal.returns
returns c = λ from to men moved board l out taken gone is.
    any_below-none (attacks_from c.args.tables.now board c.args.by c.args.king.0) 120 (λ s ls. c.loop-from.invariant.done from to men moved board l out taken gone is s ls (c.in_default.ensures.none s))
