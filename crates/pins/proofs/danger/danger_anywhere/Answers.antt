use Rattle.std.proofs.Common.{◌≡◌, ◌||◌, ◌==◌, not, true, false, inl, inr, refl, ap, sym, ◌∙◌}
use Rattle.std.proofs.lemmas.Bool.{and_parts, or_cases, or_parts}
use Rattle.foundation.specs.Count.{any_below}
use Rattle.foundation.proofs.CountLemmas.{any_below-none, any_below-true}
use Rattle.rules_model.specs.Attacks.{attacks_from}
use Rattle.rules_model.specs.Sides.{other}
use Rattle.square_set.specs.Members.{has, IsWith}
use Rattle.square_set.proofs.Cases.{by_bool, by_equal}
use Rattle.square_set.proofs.CoverLaws.{has-zero}
use Rattle.attack_tables.proofs.AttackLaws.{men_small}
use Rattle.attack_tables.proofs.MaskLaws.{and_not}
use Rattle.pins.proofs.DangerLaws.{attack_is, no_enemy}
use Rattle.pins.proofs.danger.danger_anywhere.Goals as goal

pub loop-from-init : goal.loop-from-init
loop-from-init c = record {
  inside = λ s h. h;
  taken = λ to men entered board gone is by_it h. let none = has-zero (record { 0 = 0 }) refl to in cc;
  done = λ to men entered board gone is by_it h s l out. no_enemy c.args.tables.now c.rules-rules.ensures.fit (other c.args.side) c.args.cells.now c.args.enemies men entered board to s gone by_it out;
}

pub reach_from-requires : goal.reach_from-requires
reach_from-requires c = record {
  from = men_small (other c.args.side) c.args.cells.now c.args.enemies c.in-Some.from c.prove_board_size.ensures c.requires.enemies (c.loop-from.invariant.inside c.in-Some.from c.in-Some.ensures.some.member);
}

pub loop-from-preserved : goal.loop-from-preserved
loop-from-preserved c =
    let rules = c.args.tables.now in
    let by = other c.args.side in
    let enemy = c.loop-from.invariant.inside c.in-Some.from c.in-Some.ensures.some.member in
    let small = men_small by c.args.cells.now c.args.enemies c.in-Some.from c.prove_board_size.ensures c.requires.enemies enemy in
    record {
      inside = λ s h. c.loop-from.invariant.inside s (and_parts (has c.loop-from.rest s) (not (s == c.in-Some.from)) (sym (c.in-Some.ensures.rest s) ∙ h)).0;
      taken = λ to men entered board gone is by_it h.
          elim (or_cases (has c.loop-from.danger to) (has c.reach_from.result to) (sym (c.or-danger.ensures to) ∙ h)) as (λ _. any_below (attacks_from rules board by to) 120 ≡ true) [
            | inl d ↦ c.loop-from.invariant.taken to men entered board gone is by_it d
            | inr d ↦
                any_below-true (attacks_from rules board by to) 120 c.in-Some.from small
                (attack_is rules c.rules-rules.ensures.fit by c.args.cells.now c.args.enemies men entered board to c.in-Some.from gone by_it enemy
                ∙ sym (c.reach_from.ensures to entered board is by_it.squares) ∙ d)
          ];
      done = λ to men entered board gone is by_it h s l out.
          let o = or_parts (has c.loop-from.danger to) (has c.reach_from.result to) (sym (c.or-danger.ensures to) ∙ h) in
          by_equal s c.in-Some.from (attacks_from rules board by to s ≡ false)
          (λ e q.
          ap (attacks_from rules board by to) q
          ∙ attack_is rules c.rules-rules.ensures.fit by c.args.cells.now c.args.enemies men entered board to c.in-Some.from gone by_it enemy
          ∙ sym (c.reach_from.ensures to entered board is by_it.squares) ∙ o.1)
          (λ e q. c.loop-from.invariant.done to men entered board gone is by_it o.0 s l (and_not (has c.loop-from.rest s) (s == c.in-Some.from) e (sym (c.in-Some.ensures.rest s) ∙ out)));
    }

pub returns : goal.returns
returns c = λ to men moved board gone is by_it.
    let rules = c.args.tables.now in
    let by = other c.args.side in
    let entered : IsWith c.without-left.result to moved = λ s. is s ∙ ap (λ b. b || (s == to)) (sym (c.without-left.ensures s)) in
    by_bool (has c.loop-from.danger to) (has c.loop-from.danger to ≡ any_below (attacks_from rules board by to) 120)
    (λ e. e ∙ sym (c.loop-from.invariant.taken to men moved board gone entered by_it e))
    (λ e. e ∙ sym (any_below-none (attacks_from rules board by to) 120 (λ s l. c.loop-from.invariant.done to men moved board gone entered by_it e s l (c.in_default.ensures.none s))))
