use Rattle.std.proofs.Common.{◌≡◌, ◌==◌, not, false, ap, sym, ◌∙◌}
use Rattle.std.proofs.lemmas.Bool.{and_parts, lt-ltb, or_parts}
use Rattle.rules_model.specs.Attacks.{attacks_from}
use Rattle.rules_model.specs.Squares.{cell_at}
use Rattle.square_set.specs.Members.{has}
use Rattle.square_set.proofs.Cases.{by_equal}
use Rattle.attack_tables.proofs.AttackLaws.{men_small}
use Rattle.attack_tables.proofs.MaskLaws.{and_not}
use Rattle.pins.proofs.GuardLaws.{every_square, none-left}
use Rattle.check_moves.proofs.ShutLaws.{no_stayer}
use Rattle.check_moves.proofs.shut.guards_of_king.Goals as goal

pub loop-from-init : goal.loop-from-init
loop-from-init c = record {
  inside = λ s h. (and_parts (has c.takers.result s) (has c.args.men s) (sym (c.and-near.ensures s) ∙ h)).1;
  done = λ from to moved board l out gone is s ls h stays.
      no_stayer c.args.tables.now c.rules-rules.ensures.fit board c.args.cells.now c.args.by c.args.king.0 moved is c.takers.result c.args.men c.takers.ensures c.requires.men s ls stays (sym (c.and-near.ensures s) ∙ h);
}

pub guards_from-requires-clause-from : goal.guards_from-requires-clause-from
guards_from-requires-clause-from c =
    men_small c.args.by c.args.cells.now c.args.men c.in-Some.from c.prove_board_size.ensures (λ s h. sym (c.requires.men s) ∙ h) (c.loop-from.invariant.inside c.in-Some.from c.in-Some.ensures.some.member)

pub returns-then-is_empty : goal.returns-then-is_empty
returns-then-is_empty c = λ from to moved board l out gone is.
    absurd (none-left _ _ (every_square from ∙ lt-ltb from 128 l) out (sym (c.minus.ensures from) ∙ c.if-is_empty.ensures.empty from))

pub loop-from-preserved : goal.loop-from-preserved
loop-from-preserved c = record {
  inside = λ s h. c.loop-from.invariant.inside s (and_parts (has c.loop-from.near s) (not (s == c.in-Some.from)) (sym (c.in-Some.ensures.rest s) ∙ h)).0;
  done = λ from to moved board l out gone is s ls h stays.
      let o = or_parts (has c.loop-from.guards from) (has c.guards_from.result from) (sym (c.or-guards.ensures from) ∙ out) in
      by_equal s c.in-Some.from (attacks_from c.args.tables.now board c.args.by c.args.king.0 s ≡ false)
      (λ e q.
      let there : cell_at board c.in-Some.from ≡ cell_at c.args.cells.now c.in-Some.from = ap (cell_at board) (sym q) ∙ stays ∙ ap (cell_at c.args.cells.now) q in
      ap (attacks_from c.args.tables.now board c.args.by c.args.king.0) q ∙ c.guards_from.ensures from to moved board l o.1 gone is there)
      (λ e q. c.loop-from.invariant.done from to moved board l o.0 gone is s ls (and_not (has c.loop-from.near s) (s == c.in-Some.from) e (sym (c.in-Some.ensures.rest s) ∙ h)) stays);
}

pub returns : goal.returns
returns c = λ from to moved board l out gone is s ls stays. c.loop-from.invariant.done from to moved board l out gone is s ls (c.in_default.ensures.none s) stays
