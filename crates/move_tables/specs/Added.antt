-- What the parts of a spot reach once something was added.
use Rattle.std.specs.Prelude.{◌≡◌, ℕ, ◌<◌, Bool, ◌&&◌, ◌||◌, Option, List}
use Rattle.rules_model.specs.declared.board.Cell.{Cell}
use Rattle.rules_model.specs.declared.reach.Ray.{Ray}
use Rattle.square_set.specs.declared.Set.{Set}
use Rattle.square_set.specs.Members.{has}
use Rattle.move_tables.specs.declared.line.Passage.{Passage}
use Rattle.move_tables.specs.declared.spot.Spot.{Spot}
use Rattle.move_tables.specs.Lines.{by_parts, lets_pass}
use Rattle.move_tables.specs.Occupied.{IsOccupied}
use Rattle.move_tables.specs.Rays.{on_ray, rises}

-- the new spot reaches what the old one does, and what passes
abbrev pub Adds : Spot → Spot → (Set → ℕ → Bool) → Type 0
Adds old new test =
    (occupied : Set) (t : ℕ) → t < 128 → by_parts new occupied t ≡ (by_parts old occupied t || test occupied t)

-- on the ray, as far as the occupied squares of it let pass
abbrev pub along_ray : Ray → ℕ → Passage → Set → ℕ → Bool
along_ray ray limit passage occupied t =
    on_ray ray limit t && lets_pass passage (rises ray.dx ray.dy) (on_ray ray limit)
    (λ u. on_ray ray limit u && has occupied u) t

-- it reaches on each board what passes there
abbrev pub AddsThere : Spot → Spot → (List (Option Cell) → ℕ → Bool) → Type 0
AddsThere old new test =
    (occupied : Set) (cells : List (Option Cell)) → IsOccupied occupied cells → (t : ℕ) → t < 128
    → by_parts new occupied t ≡ (by_parts old occupied t || test cells t)
