use Rattle.variant_ini.specs.Reading.{sections_in}
use Rattle.variant_ini.proofs.FileLaws.{lines_added}
use Rattle.variant_ini.proofs.OptionLaws.{values_kept}
use Rattle.variant_ini.proofs.sections.Sections.add.Goals as goal

pub returns-clause-kept : goal.returns-clause-kept
returns-clause-kept c =
    rw (← c.self.view_is)
    (values_kept c.append_file.result c.self.inside.sections.items c.append_file.new.sections.items (sections_in c.args.bytes.now) c.append_file.ensures.added c.append_file.ensures.err)

pub returns-clause-lines : goal.returns-clause-lines
returns-clause-lines c =
    rw (← c.self.view_is)
    (lines_added c.append_file.result c.self.inside.sections.items c.append_file.new.sections.items c.args.bytes.now c.append_file.ensures.added c.append_file.ensures.accepted)
