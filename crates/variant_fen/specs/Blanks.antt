-- Fields one after another.
use Rattle.std.specs.Prelude.{ℕ, List, ◌∷◌}
use Rattle.std.specs.List.{flat_map}

-- the texts, each after a blank
abbrev pub blanked : List (List ℕ) → List ℕ
blanked texts = flat_map (λ text. 32 ∷ text) texts
