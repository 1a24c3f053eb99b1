use Rattle.std.proofs.Common.{[], ◌∷◌, ◌++◌, sym, ap, ◌∙◌}
use Rattle.variant_rules.specs.Letters.{letters_before}
use Rattle.variant_rules.proofs.LetterLemmas.{none_before, one_more}
use Rattle.variant_rules.proofs.letters.all_letters.Goals as goal

pub loop-place-init : goal.loop-place-init
loop-place-init c = c.in_ok-letters.ensures.items ∙ sym (none_before c.args.sections.now)

pub loop-place-preserved : goal.loop-place-preserved
loop-place-preserved c =
    c.in_ok-push.ensures.items
    ∙ ap (λ letters. letters ++ c.letters_of.result ∷ []) c.loop-place.invariant
    ∙ ap (λ last. letters_before c.args.sections.now c.loop-place.place ++ last ∷ []) c.letters_of.ensures
    ∙ sym (one_more c.args.sections.now c.loop-place.place)
