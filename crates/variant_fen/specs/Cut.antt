-- Marks at the front of a text.
use Rattle.std.specs.Prelude.{ℕ, ◌==◌, List, [], ◌∷◌, Option, Some, None, Bool, false, if◌then◌else◌, drop}

abbrev pub begins_with : ℕ → List ℕ → Bool
begins_with mark [] = false
begins_with mark (b ∷ text) = b == mark

-- the text without the mark at its front
abbrev pub unmarked : ℕ → List ℕ → List ℕ
unmarked mark text = if begins_with mark text then drop 1 text else text
