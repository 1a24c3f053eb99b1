-- The terms of a word.
use Rattle.std.specs.Prelude.{ℕ, Bool, ◌==◌, if◌then◌else◌, Option, Some, None, List, map, flat_map}
use Rattle.rules_model.specs.declared.rules.Term.{Term}
use Rattle.rules_model.specs.declared.rules.Way.{Way}
use Rattle.rules_model.specs.declared.rules.Way.TheVariants.{Leap, Lame, Slide, Hop, Grass}
use Rattle.betza_text.specs.declared.part.HopKind.{HopKind}
use Rattle.betza_text.specs.declared.part.HopKind.TheVariants.{No, Over, Behind}
use Rattle.betza_text.specs.declared.part.Part.{Part}
use Rattle.betza_text.specs.declared.steps.Step.{Step}
use Rattle.betza_text.specs.Steps.{steps_of, is_far}

-- the number, where 0 means 11; without one, 11 for what goes far, else 1
abbrev pub limit_with : Option ℕ → Bool → ℕ
limit_with None far = if far then 11 else 1
limit_with (Some n) far = if n == 0 then 11 else n

-- how many steps the part goes at most
unfoldable pub limit_of : Part → ℕ
limit_of part = limit_with part.number (is_far part)

-- a hopper hops whether it goes far or not; else what goes far slides
abbrev pub way_with : HopKind → Bool → Way
way_with No far = if far then Slide else Leap
way_with Over far = Hop
way_with Behind far = Grass

-- how the part gets to its target
unfoldable pub way_of : Part → Way
way_of part = if part.lame then Lame else way_with part.hop (is_far part)

-- what one step of a part lets the piece do
abbrev pub term_of : Part → Step → Term
term_of part step = record {
  dx = step.dx;
  dy = step.dy;
  way = way_of part;
  limit = limit_of part;
  quiet = part.quiet;
  takes = part.takes;
}

-- the terms of a part, in the order of its steps
abbrev pub terms_of_part : Part → List Term
terms_of_part part = map (term_of part) (steps_of part)

-- the terms of a word, part by part
abbrev pub terms : List Part → List Term
terms b = flat_map terms_of_part b
