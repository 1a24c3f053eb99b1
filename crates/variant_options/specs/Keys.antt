-- The keys that a variants file may have, but for those that are read over.
use Rattle.std.specs.Prelude.{ℕ, List, [], ◌∷◌, ◌++◌, Option, Some, None, map}
use Rattle.std.specs.declared.cmp.Ordering.TheVariants.{Less, Equal, Greater}
use Rattle.std.specs.Ordering.{nat_cmp}
use Rattle.std.specs.Cmp.Lexicographic.{slice_cmp}
use Rattle.std.specs.List.{flat_map}
use Rattle.variant_options.specs.Options.{options, region_keys}
use Rattle.variant_options.specs.PieceTable.{pieces}

-- the keys of the regions of a piece
abbrev pub both_keys : Option (List ℕ × List ℕ) → List (List ℕ)
both_keys None = []
both_keys (Some keys) = keys.0 ∷ keys.1 ∷ []

-- the keys of the options, of the regions of pieces, and of the pieces
unfoldable pub all_keys : List (List ℕ)
all_keys =
    map (λ option. option.key) options
    ++ flat_map (λ piece. both_keys (region_keys piece)) pieces
    ++ map (λ piece. piece.key) pieces

-- a key before the first of some keys that comes after it in byte order
unfoldable pub key_inserted : List ℕ → List (List ℕ) → List (List ℕ)
key_inserted key [] = key ∷ []
key_inserted key (other ∷ others) = elim (slice_cmp nat_cmp key other) [
  | Less ↦ key ∷ other ∷ others
  | Equal ↦ other ∷ key_inserted key others
  | Greater ↦ other ∷ key_inserted key others
]

-- keys in byte order
unfoldable pub in_order : List (List ℕ) → List (List ℕ)
in_order [] = []
in_order (key ∷ keys) = key_inserted key (in_order keys)

-- all of them, in byte order
unfoldable pub ordered_keys : List (List ℕ)
ordered_keys = in_order all_keys
