use Rattle.std.proofs.Common.{◌≡◌, None}
use Rattle.foundation.specs.Count.{first_below}
use Rattle.variant_ini.specs.Section.{section_at}
use Rattle.variant_model.specs.PieceLetters.{is_given_twice}
use Rattle.variant_rules.proofs.lines.letter_twice.Given as goal

abbrev pub invariant-loop-k : goal.invariant-loop-k
invariant-loop-k l = first_below (is_given_twice (section_at l.sections l.section).lines) l.k ≡ None
