-- The sections that are built in, as the text of a variants file says them.
use Rattle.std.proofs.Common.{◌≡◌, ℕ, List, [], ◌∷◌, None, refl, map}
use Rattle.std.specs.Prelude.{codes}
use Rattle.variant_ini.specs.Cuts.{trimmed, cut_lines}
use Rattle.foundation.specs.Cuts.{cut}
use Rattle.variant_ini.specs.LineKind.{header_of, pair_of, text_kind, line_kind}
use Rattle.variant_ini.specs.Reading.{sections_of, sections_in_lines, first_fault, fault_of, sections_in}
use Rattle.variant_ini.specs.Section.{Section}
use Rattle.variant_model.specs.Builtin.{builtin_text, builtin_sections}

abbrev name_of : Section → List ℕ
name_of section = section.name

names : map name_of builtin_sections ≡ codes "chess" ∷ codes "crazyhouse" ∷ codes "3check" ∷ codes "kingofthehill" ∷ codes "antichess" ∷ codes "extinction" ∷ codes "losalamos" ∷ codes "capablanca" ∷ codes "seirawan" ∷ codes "xiangqi" ∷ []
unfolding trimmed cut cut_lines header_of pair_of text_kind line_kind sections_of sections_in_lines sections_in builtin_text builtin_sections
names = refl

no_faulty_line : fault_of builtin_text ≡ None
unfolding trimmed cut cut_lines header_of pair_of text_kind line_kind sections_of sections_in_lines first_fault fault_of builtin_text
no_faulty_line = refl
