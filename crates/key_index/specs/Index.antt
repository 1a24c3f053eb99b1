-- Chains through a list, one for each bucket: `heads` has one place for each bucket and `links` one for each entry of
-- the list. Both name a place by one more than it, and none by 0. (D. Knuth, The Art of Computer Programming, volume 3,
-- section 6.4: separate chaining.)
use Rattle.std.specs.Prelude.{◌≡◌, ◌≢◌, ℕ, ◌-◌, ◌%◌, ◌<◌, ◌≤◌, List, map, length, slice_index}

-- of the first n buckets of a list, `at` names the last that is b
pub record IsLast (buckets : List ℕ) (b n at : ℕ) : Type 0 where
  pub low : at ≤ n
  pub here : 0 < at → slice_index buckets (at - 1) ≡ b
  pub none : (k : ℕ) → at ≤ k → k < n → slice_index buckets k ≢ b

-- each bucket has its last entry for a head, and each entry a link to the one of its bucket before it
pub record IsIndex (buckets heads links : List ℕ) : Type 0 where
  pub linked : length links ≡ length buckets
  pub heads_are : (b : ℕ) → b < length heads → IsLast buckets b (length buckets) (slice_index heads b)
  pub links_are : (i : ℕ) → i < length buckets → IsLast buckets (slice_index buckets i) i (slice_index links i)

-- `at` is 0 or names an entry of the bucket
pub record InChain (buckets : List ℕ) (b at : ℕ) : Type 0 where
  pub low : at ≤ length buckets
  pub here : 0 < at → slice_index buckets (at - 1) ≡ b

-- the bucket of a key among so many
abbrev pub bucket_of : ℕ → ℕ → ℕ
bucket_of count key = key % count

-- the bucket of each key
abbrev pub buckets : ℕ → List ℕ → List ℕ
buckets count keys = map (bucket_of count) keys

-- the chains of the keys through some buckets
pub record AreChains (keys heads links : List ℕ) : Type 0 where
  pub some : 0 < length heads
  pub index : IsIndex (buckets (length heads) keys) heads links
