-- The atoms by their legs: how far their steps go, whichever way they turn (Betza's notation; Wikipedia, "Betza's funny
-- notation").
use Rattle.std.specs.Prelude.{◌≡◌, ℕ, ◌==◌, nat_abs, min, max, Bool, true, ◌↔◌, List, [], ◌∷◌, if◌then◌else◌, codes}
use Rattle.std.specs.List.{list_any}
use Rattle.std.specs.List.Sorted.{IsStrictlySortedBy}
use Rattle.std.specs.declared.cmp.Ordering.{Ordering}
use Rattle.std.specs.Ordering.{nat_cmp, int_cmp, ordering_then}
use Rattle.foundation.specs.Member.{Member, IsEachOnce}
use Rattle.betza_text.specs.declared.part.Part.{Part}
use Rattle.betza_text.specs.declared.steps.Step.{Step}
use Rattle.betza_text.specs.Steps.{shape_of, picks, steps_of}

-- how far a step goes along ranks and along files, without regard to which is which
pub record Legs : Type 0 where
  pub short : ℕ
  pub long : ℕ

abbrev pub leg : ℕ → ℕ → Legs
leg short long = record { short = short; long = long }

abbrev pub legs : Step → Legs
legs s = record { short = min (nat_abs s.dx) (nat_abs s.dy); long = max (nat_abs s.dx) (nat_abs s.dy) }

abbrev pub is_one_of : List ℕ → ℕ → Bool
is_one_of letters atom = list_any (λ letter. atom == letter) letters

-- the legs of an atom: one pair, or for a king and a queen two
unfoldable pub legs_of : ℕ → List Legs
legs_of atom =
    if is_one_of (codes "WR") atom then leg 0 1 ∷ []
    else if is_one_of (codes "FB") atom then leg 1 1 ∷ []
    else if is_one_of (codes "D") atom then leg 0 2 ∷ []
    else if is_one_of (codes "N") atom then leg 1 2 ∷ []
    else if is_one_of (codes "A") atom then leg 2 2 ∷ []
    else if is_one_of (codes "H") atom then leg 0 3 ∷ []
    else if is_one_of (codes "LC") atom then leg 1 3 ∷ []
    else if is_one_of (codes "JZ") atom then leg 2 3 ∷ []
    else if is_one_of (codes "G") atom then leg 3 3 ∷ []
    else if is_one_of (codes "KQ") atom then leg 0 1 ∷ leg 1 1 ∷ []
    else []

-- the order of steps: the short leg, which tells apart a king's and a queen's alone; then the rank, then the file
abbrev pub step_cmp : Step → Step → Ordering
step_cmp s t =
    ordering_then (nat_cmp (legs s).short (legs t).short) (ordering_then (int_cmp s.dy t.dy) (int_cmp s.dx t.dx))

-- these are all the steps that have the legs, each once, in order
pub record AreAllSteps (lengths : List Legs) (steps : List Step) : Type 0 where
  pub exactly : (s : Step) → Member s steps ↔ Member (legs s) lengths
  pub once : IsEachOnce steps
  pub ordered : IsStrictlySortedBy step_cmp steps

-- the step has the legs of the part's atom, and the part's direction letters pick it
pub record IsStepOf (part : Part) (s : Step) : Type 0 where
  pub legs : Member (legs s) (legs_of part.atom)
  pub picked : picks (shape_of part.atom) part.dirs s ≡ true

-- the steps of a part are these, each once, in order
pub record AreItsSteps (part : Part) : Type 0 where
  pub exactly : (s : Step) → Member s (steps_of part) ↔ IsStepOf part s
  pub once : IsEachOnce (steps_of part)
  pub ordered : IsStrictlySortedBy step_cmp (steps_of part)
