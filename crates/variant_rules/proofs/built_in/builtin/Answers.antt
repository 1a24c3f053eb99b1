use Rattle.std.proofs.Common.{◌++◌, sym, ap, subst, ◌∙◌}
use Rattle.std.specs.List.{All}
use Rattle.std.proofs.lemmas.List.Elements.{All-nil}
use Rattle.variant_ini.specs.FileLines.{AreFileLines, IsFileLine}
use Rattle.variant_ini.specs.Reading.{sections_in}
use Rattle.variant_ini.specs.Section.{Section}
use Rattle.variant_model.specs.Builtin.{builtin_sections}
use Rattle.variant_rules.proofs.built_in.builtin.Goals as goal

pub returns-in-Ok-clause-are : goal.returns-in-Ok-clause-are
unfolding builtin_sections
returns-in-Ok-clause-are c =
    c.in-Ok.ensures.added
    ∙ ap (λ old. old ++ sections_in c.builtin_bytes.result.now) c.new-sections.ensures
    ∙ ap sections_in c.builtin_bytes.ensures

pub returns-in-Ok-clause-lines : goal.returns-in-Ok-clause-lines
returns-in-Ok-clause-lines c =
    c.in-Ok.ensures.lines
    (subst AreFileLines (sym c.new-sections.ensures) (All-nil (λ (section : Section). All IsFileLine section.lines)))
