use Rattle.std.proofs.Common.{None, rules}
use Rattle.variant_ini.specs.Section.{section_at}
use Rattle.variant_rules.specs.Own.{own_value}
use Rattle.variant_rules.proofs.TableLemmas.{fill_pieces}
use Rattle.variant_rules.proofs.lines.own_letters.Goals as goal

pub returns : goal.returns
returns c = fill_pieces (λ piece. own_value (section_at c.args.sections.now c.args.section).lines piece.key) c.loop-i.letters None c.loop-i.invariant.0 (search rules)
