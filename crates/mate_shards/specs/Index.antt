-- Chains through a list, one for each bucket: `heads` has one place for each bucket and `links` one for each entry of
-- the list. Both name a place by one more than it, and none by 0. (D. Knuth, The Art of Computer Programming, volume 3,
-- section 6.4: separate chaining.)
use Rattle.std.specs.Prelude.{◌≡◌, ◌≢◌, ℕ, ◌-◌, ◌%◌, ◌^◌, ◌<◌, ◌≤◌, List, map, length, slice_index}
use Rattle.forced_wins.specs.declared.fact.Fact.{Fact}
use Rattle.mate_core.specs.Hash.{hash_of, part_of}

-- of the first n buckets of a list, `at` names the last that is b
pub record IsLast (buckets : List ℕ) (b n at : ℕ) : Type 0 where
  pub low : at ≤ n
  pub here : 0 < at → slice_index buckets (at - 1) ≡ b
  pub none : (k : ℕ) → at ≤ k → k < n → slice_index buckets k ≢ b

-- each bucket has its last entry for a head, and each entry a link to the one of its bucket before it
pub record IsIndex (buckets heads links : List ℕ) : Type 0 where
  pub linked : length links ≡ length buckets
  pub heads_are : (b : ℕ) → b < length heads → IsLast buckets b (length buckets) (slice_index heads b)
  pub links_are : (i : ℕ) → i < length buckets → IsLast buckets (slice_index buckets i) i (slice_index links i)

-- the bucket of a hash among so many: by its low half
unfoldable pub bucket_of : ℕ → ℕ → ℕ
bucket_of count hash = part_of (hash % 2 ^ 32) count

-- the bucket of each fact, among as many as there are places
abbrev pub buckets : ℕ → List Fact → List ℕ
buckets capacity fs = map (λ f. bucket_of capacity (hash_of f.repeat)) fs

-- `at` names the last fact of the bucket of a hash
abbrev pub IsHead : ℕ → List Fact → ℕ → ℕ → Type 0
IsHead capacity fs hash at = IsLast (buckets capacity fs) (bucket_of capacity hash) (length fs) at
