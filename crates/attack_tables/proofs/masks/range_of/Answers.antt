use Rattle.std.proofs.Common.{◌≡◌, ◌<◌, ℕ, false, sym, ◌∙◌, arith}
use Rattle.std.proofs.lemmas.Bool.{or_parts}
use Rattle.square_set.specs.Members.{has}
use Rattle.attack_tables.specs.Masks.{NeverTakes}
use Rattle.attack_tables.proofs.MaskLaws.{below_next}
use Rattle.attack_tables.proofs.masks.range_of.Goals as goal

pub loop-kind-preserved : goal.loop-kind-preserved
loop-kind-preserved c =
    let P : ℕ → Type 0 = λ k. (at : ℕ) → at < 120 → has c.or-range.result at ≡ false → NeverTakes c.args.moves.now c.args.side k c.args.from at in
    below_next P c.loop-kind.kind
    (λ k l at m h. c.loop-kind.invariant k l at m (or_parts (has c.loop-kind.range at) (has c.range_of_kind.result at) (sym (c.or-range.ensures at) ∙ h)).0)
    (λ at m h. c.range_of_kind.ensures at m (or_parts (has c.loop-kind.range at) (has c.range_of_kind.result at) (sym (c.or-range.ensures at) ∙ h)).1)

pub returns : goal.returns
returns c = λ k l. c.loop-kind.invariant k (omega (arith, l))
