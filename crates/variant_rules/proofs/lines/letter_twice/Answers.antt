use Rattle.std.proofs.Common.{sym, ◌∙◌}
use Rattle.variant_ini.specs.Section.{section_at}
use Rattle.variant_options.specs.Letters.{kind}
use Rattle.variant_model.specs.PieceLetters.{is_given_twice, letter_twice}
use Rattle.variant_rules.proofs.LetterLemmas.{count_own}
use Rattle.variant_rules.proofs.TableLemmas.{at_most_one, first_below-here, first_below-next, more_than_one}
use Rattle.variant_rules.proofs.lines.letter_twice.Goals as goal

pub returns-then-letter_count-gt1 : goal.returns-then-letter_count-gt1
unfolding letter_twice
returns-then-letter_count-gt1 c =
    let same = c.letter_count.ensures ∙ count_own (section_at c.args.sections.now c.args.section).lines c.own_letters-letters.result (kind c.loop-k.k) c.own_letters-letters.ensures in
    sym (first_below-here (is_given_twice (section_at c.args.sections.now c.args.section).lines) 26 c.loop-k.k c.loop-k-test.true c.loop-k.invariant (more_than_one _ _ same c.if-letter_count-gt1.true))

pub loop-k-preserved : goal.loop-k-preserved
loop-k-preserved c =
    let same = c.letter_count.ensures ∙ count_own (section_at c.args.sections.now c.args.section).lines c.own_letters-letters.result (kind c.loop-k.k) c.own_letters-letters.ensures in
    first_below-next (is_given_twice (section_at c.args.sections.now c.args.section).lines) c.loop-k.k c.loop-k.invariant (at_most_one _ _ same c.if-letter_count-gt1.false)
