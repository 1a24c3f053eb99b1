use Rattle.std.proofs.Common.{◌≡◌, ℕ, ◌<◌, None, length, get_or}
use Rattle.variant_ini.specs.Section.{section_at}
use Rattle.variant_model.specs.PieceRules.{piece_row}
use Rattle.variant_rules.specs.Own.{own_value}
use Rattle.variant_rules.proofs.lines.own_letters.Given as goal

abbrev pub invariant-loop-i : goal.invariant-loop-i
invariant-loop-i l = (length l.letters ≡ 56) × ((k : ℕ) → k < l.i → get_or l.letters k None ≡ own_value (section_at l.sections l.section).lines (piece_row k).key)
