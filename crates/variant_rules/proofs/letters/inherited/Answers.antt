use Rattle.std.proofs.Common.{◌≡◌, [], get_or, length, ap, ◌∙◌, arith}
use Rattle.variant_rules.proofs.LetterLemmas.{length_before, letters_above, nothing_inherited, parents_inherited}
use Rattle.variant_rules.proofs.letters.inherited.Goals as goal

pub bounds-above-parent : goal.bounds-above-parent
bounds-above-parent c =
    let most : length c.args.above.now ≡ c.args.place = ap length c.requires.above ∙ length_before c.args.sections.now c.args.place in
    omega (arith, c.in-Some.ensures.above, most)

pub offset_bounds-above-parent : goal.offset_bounds-above-parent
offset_bounds-above-parent c =
    let most : length c.args.above.now ≡ c.args.place = ap length c.requires.above ∙ length_before c.args.sections.now c.args.place in
    omega (arith, c.in-Some.ensures.above, most)

pub returns-in-Some : goal.returns-in-Some
returns-in-Some c =
    ap (λ above. get_or above c.in-Some.parent []) c.requires.above
    ∙ letters_above c.args.sections.now c.args.place c.in-Some.parent [] c.in-Some.ensures.above
    ∙ parents_inherited c.args.sections.now c.args.place c.in-Some.parent c.in-Some.ensures.is

pub returns-in-None : goal.returns-in-None
returns-in-None c = nothing_inherited c.args.sections.now c.args.place c.in-None.ensures.is
