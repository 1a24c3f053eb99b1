-- What lines and jumps reach, by the squares that are occupied.
use Rattle.std.specs.Prelude.{◌≡◌, ℕ, Bool, false, ◌&&◌, ◌||◌, not, ◌==◌}
use Rattle.std.specs.List.{list_any}
use Rattle.foundation.specs.Count.{any_below}
use Rattle.square_set.specs.declared.Set.{Set}
use Rattle.square_set.specs.Members.{has, before}
use Rattle.move_tables.specs.declared.line.Line.{Line}
use Rattle.move_tables.specs.declared.line.Passage.{Passage}
use Rattle.move_tables.specs.declared.line.Passage.TheVariants.{Slide, Hop, Grass}
use Rattle.move_tables.specs.declared.jump.Jump.{Jump}
use Rattle.move_tables.specs.declared.spot.Spot.{Spot}

-- a square that passes comes before
abbrev pub is_after : Bool → (ℕ → Bool) → ℕ → Bool
is_after rising test t = not (before rising test t == 0)

-- of the squares that pass the first test, one after some that pass the second
abbrev pub is_past : Bool → (ℕ → Bool) → (ℕ → Bool) → ℕ → Bool
is_past rising squares blockers t = squares t && is_after rising blockers t

-- how many blockers come before: none, one, or one that is the square right before among these squares
abbrev pub lets_pass : Passage → Bool → (ℕ → Bool) → (ℕ → Bool) → ℕ → Bool
lets_pass Slide rising squares blockers t = before rising blockers t == 0
lets_pass Hop rising squares blockers t = before rising blockers t == 1
lets_pass Grass rising squares blockers t =
    is_after rising blockers t && (before rising (is_past rising squares blockers) t == 0)

-- in both sets
abbrev pub in_both : Set → Set → ℕ → Bool
in_both a b t = has a t && has b t

-- on the line, as far as the occupied squares of it let pass
abbrev pub on_line : Line → Set → ℕ → Bool
on_line line occupied t =
    has line.squares t && lets_pass line.passage line.rising (has line.squares) (in_both line.squares occupied) t

-- the target, where none of the squares to be passed is occupied
abbrev pub by_jump : Jump → Set → ℕ → Bool
by_jump jump occupied t = not (any_below (in_both jump.over occupied) 128) && has jump.target t

-- by a leap, along a line or by a jump
abbrev pub by_parts : Spot → Set → ℕ → Bool
by_parts spot occupied t =
    has spot.leaps t || list_any (λ line. on_line line occupied t) spot.lines.items
    || list_any (λ jump. by_jump jump occupied t) spot.jumps.items

-- by these, within the squares of the spot
abbrev pub by_spot : Spot → Set → ℕ → Bool
by_spot spot occupied t = by_parts spot occupied t && has spot.within t

-- the parts reach nothing outside the set
abbrev pub IsRange : Spot → Set → Type 0
IsRange spot range = (occupied : Set) (t : ℕ) → has range t ≡ false → by_parts spot occupied t ≡ false
