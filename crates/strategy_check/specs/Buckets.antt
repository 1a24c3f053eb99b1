-- Places of nodes by numbers of their positions.
use Rattle.std.specs.Prelude.{◌≡◌, ℕ, ◌+◌, ◌%◌, ◌^◌, ◌<◌, Bool, ◌&&◌, ◌==◌, List, [], ◌∷◌, ◌++◌, length, slice_get, slice_set, slice_index_or, if◌then◌else◌}
use Rattle.std.specs.List.{filter}
use Rattle.foundation.specs.Count.{below}
use Rattle.rules_model.specs.declared.board.Position.{Position}
use Rattle.rules_model.specs.declared.board.Repeat.{Repeat}
use Rattle.rules_model.specs.Games.{same_repeat}
use Rattle.rules_model.specs.Repeats.{repeat_of}
use Rattle.position_key.specs.Key as Keys
use Rattle.forced_wins.specs.Tables.{leads}
use Rattle.strategy.specs.declared.nodes.Node.{Node}
use Rattle.strategy_check.specs.declared.places.Key as places
use Rattle.strategy_check.specs.declared.places.Key.TheVariants as by

-- the test of the node at the place
abbrev pub at : List Node → (Node → Bool) → ℕ → Bool
at s test j = leads (slice_get s j) test

abbrev pub has_repeat : Repeat → Node → Bool
has_repeat r v = same_repeat (repeat_of v.position) r

abbrev pub is_twin : Position → Node → Bool
is_twin p v = has_repeat (repeat_of p) v && (v.position.counter == p.counter)

-- ---- keys

-- a number of the position: the key of its repeat, or this and as much more as its counter
abbrev pub number_of : places.Key → Position → ℕ
number_of by.Repeat p = Keys.key_of (repeat_of p)
number_of by.Counter p = (Keys.key_of (repeat_of p) + p.counter) % 2 ^ 64

-- the key where this many repetitions end the game, 0 for none
abbrev pub key_for : ℕ → places.Key
key_for fold = if fold == 0 then by.Counter else by.Repeat

-- ---- buckets

-- the node falls into the bucket b of so many
abbrev pub falls_into : places.Key → ℕ → ℕ → Node → Bool
falls_into key size b v = (number_of key v.position % size) == b

-- of the places below k those whose nodes fall into the bucket
unfoldable pub bucket : places.Key → List Node → ℕ → ℕ → ℕ → List ℕ
bucket key s size b k = filter (at s (falls_into key size b)) (below k)

-- the bucket of the number
abbrev pub found : List (List ℕ) → ℕ → List ℕ
found buckets n = slice_index_or buckets (n % length buckets) []

-- a place more in it
abbrev pub put : List (List ℕ) → ℕ → ℕ → List (List ℕ)
put buckets place n = slice_set buckets (n % length buckets) (found buckets n ++ place ∷ [])

-- each bucket holds those of the places below k that fall into it
pub record AreFilled (key : places.Key) (s : List Node) (k : ℕ) (buckets : List (List ℕ)) : Type 0 where
  pub some : 0 < length buckets
  pub each : (b : ℕ) → b < length buckets → slice_index_or buckets b [] ≡ bucket key s (length buckets) b k

-- the buckets hold the places of all nodes
abbrev pub IsIndex : places.Key → List Node → List (List ℕ) → Type 0
IsIndex key s buckets = AreFilled key s (length s) buckets
