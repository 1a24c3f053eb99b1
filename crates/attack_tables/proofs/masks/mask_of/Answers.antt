use Rattle.std.proofs.Common.{◌≡◌, ◌<◌, ◌==◌, ◌/◌, ◌%◌, ℕ, false, refl, subst, sym, ◌∙◌, arith}
use Rattle.std.proofs.lemmas.Bool.{eq-eqb, or_parts}
use Rattle.rules_model.specs.declared.board.Side.{Side}
use Rattle.move_tables.specs.Spots.{side_of}
use Rattle.square_set.specs.declared.Set.{Set}
use Rattle.square_set.specs.Members.{has}
use Rattle.attack_tables.specs.Masks.{IsRangeOf, NeverTakes}
use Rattle.attack_tables.proofs.MaskLaws.{below_next, there}
use Rattle.attack_tables.proofs.masks.mask_of.Goals as goal
use Rattle.attack_tables.proofs.masks.mask_of.Goals.{then-has, else-has}

pub loop-from-preserved : goal.loop-from-preserved
loop-from-preserved c =
    elim c.if-has.branch [
      | then-has w ↦
          let P : ℕ → Type 0 = λ k. has w.with-mask.result k ≡ false → (kind : ℕ) → kind < 26 → NeverTakes c.args.moves.now c.args.side kind k c.args.at in
          rw w.mask-is (below_next P c.loop-from.from
          (λ k l h. c.loop-from.invariant k l (or_parts (has c.loop-from.mask k) (k == c.loop-from.from) (sym (w.with-mask.ensures k) ∙ h)).0)
          (λ h. let e = (or_parts (has c.loop-from.mask c.loop-from.from) (c.loop-from.from == c.loop-from.from) (sym (w.with-mask.ensures c.loop-from.from) ∙ h)).1 in let f = eq-eqb c.loop-from.from c.loop-from.from refl in absurd (let g : ⊥ = cc in g)))
      | else-has w ↦
          let P : ℕ → Type 0 = λ k. has c.loop-from.mask k ≡ false → (kind : ℕ) → kind < 26 → NeverTakes c.args.moves.now c.args.side kind k c.args.at in
          rw w.mask-is (below_next P c.loop-from.from c.loop-from.invariant (λ h kind m.
          let P : Side → ℕ → Type 0 = λ s f. IsRangeOf c.args.moves.now s 26 f c.index.result.now in
          let Q : Set → Type 0 = λ r. IsRangeOf c.args.moves.now (side_of (c.place_of.result / 120)) 26 (c.place_of.result % 120) r in
          let each = c.requires.ranges.each c.place_of.result c.place_of.ensures.below c.index.result.now in
          let range : IsRangeOf c.args.moves.now c.args.side 26 c.loop-from.from c.index.result.now = there P c.args.side c.loop-from.from c.place_of.result c.loop-from-test.true c.place_of.ensures.is (subst Q (sym c.index.ensures) each) in
          range kind m c.args.at c.requires.at (sym c.has.ensures ∙ w.if-has.false)))
    ]

pub returns : goal.returns
returns c = λ from l h. c.loop-from.invariant from (omega (arith, l)) h
