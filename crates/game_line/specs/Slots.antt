-- Keys counted by slots: a key is counted in the slot of its remainder by 4,096.
use Rattle.std.specs.Prelude.{◌≡◌, ℕ, ◌%◌, ◌==◌, ◌<◌, ◌≤◌, List, length, slice_index, count_by}

-- how many of the keys are in the slot
unfoldable pub in_slot : ℕ → List ℕ → ℕ
in_slot slot keys = count_by (λ key. key % 4096 == slot) keys

-- the counts are those of the keys
pub record AreCounts (keys counts : List ℕ) : Type 0 where
  pub long : length counts ≡ 4096
  pub each : (slot : ℕ) → slot < 4096 → slice_index counts slot ≡ in_slot slot keys

-- how many of the keys are this one
unfoldable pub key_times : ℕ → List ℕ → ℕ
key_times key keys = count_by (λ k. k == key) keys

-- no two of the keys are equal
abbrev pub AreApart : List ℕ → Type 0
AreApart keys = (key : ℕ) → key_times key keys ≤ 1
