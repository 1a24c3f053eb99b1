-- Two boards that agree outside a set of squares, of which one square after another is taken out.
use Rattle.std.proofs.Common.{◌≡◌, ◌≢◌, ℕ, ◌≤◌, Bool, true, false, ◌&&◌, not, ◌==◌, if◌then◌else◌, Option, None, List, length, refl, ap, sym, ◌∙◌}
use Rattle.std.proofs.lemmas.Option.{slice_get_past}
use Rattle.square_set.proofs.Cases.{by_bool, by_equal}
use Rattle.square_set.specs.declared.Set.{Set}
use Rattle.square_set.specs.Members.{has, IsWithout}
use Rattle.rules_model.specs.declared.board.Cell.{Cell}
use Rattle.rules_model.specs.Squares.{cell_at, flat}
use Rattle.next_position.specs.Changed.{AgreeOutside}

-- what the first board has on the squares of the set, and elsewhere what the second has
abbrev pub between : Set → List (Option Cell) → List (Option Cell) → ℕ → Option Cell
between left before next s = if has left s then cell_at before s else cell_at next s

pub beyond : (cells : List (Option Cell)) (s : ℕ) → length cells ≤ s → cell_at cells s ≡ None
beyond cells s l = ap flat (slice_get_past cells s l)

not-same : (a b : Bool) → b ≡ false → (a && not b) ≡ a
not-same true b e = rw e
not-same false b e = refl

is-same : (a b : Bool) → b ≡ true → (a && not b) ≡ false
is-same true b e = rw e
is-same false b e = refl

apart : (s at : ℕ) → s ≢ at → (s == at) ≡ false
apart s at d = by_equal s at _ (λ q e. absurd (d e)) (λ q e. q)

here : (at : ℕ) → (at == at) ≡ true
here at = by_equal at at _ (λ q e. q) (λ q d. absurd (d refl))

module _ (left : Set) (before next : List (Option Cell)) where
  outside : (s : ℕ) → has left s ≡ false → between left before next s ≡ cell_at next s
  outside s e = rw e

  pub inside : (s : ℕ) → has left s ≡ true → between left before next s ≡ cell_at before s
  inside s e = rw e

  -- before any square is taken out
  pub between-all : AgreeOutside left before next → (s : ℕ) → between left before next s ≡ cell_at before s
  between-all agree s = by_bool (has left s) _ (inside s) (λ e. outside s e ∙ sym (agree s e))

  -- once none is left
  pub between-none : ((s : ℕ) → has left s ≡ false) → (s : ℕ) → between left before next s ≡ cell_at next s
  between-none none s = outside s (none s)

-- once this one is taken out
module _ (left now : Set) (before next : List (Option Cell)) (at : ℕ) (without : IsWithout left at now) where
  pub others : (s : ℕ) → s ≢ at → between left before next s ≡ between now before next s
  others s d =
      let same : has now s ≡ has left s = without s ∙ not-same (has left s) (s == at) (apart s at d) in
      ap (λ b. if b then cell_at before s else cell_at next s) (sym same)

  pub taken-out : between now before next at ≡ cell_at next at
  taken-out = outside now before next at (without at ∙ is-same (has left at) (at == at) (here at))
