-- How often the repeats of positions had stood by then, themselves counted, and the chains by which they are found:
-- `heads` has one place for each slot and `before` one for each position. Both name a place by one more than it, and
-- none by 0. (D. Knuth, The Art of Computer Programming, volume 3, section 6.4: separate chaining.)
use Rattle.std.specs.Prelude.{◌≡◌, ℕ, zero, suc, ◌+◌, ◌%◌, ◌==◌, ◌<◌, ◌≤◌, if◌then◌else◌, List, length, take, slice_index, slice_index_or}
use Rattle.rules_model.specs.declared.board.Position.{Position}
use Rattle.rules_model.specs.Games.{times}
use Rattle.rules_model.specs.Repeats.{repeat_of}
use Rattle.game_play.specs.Played.{keys_of}

-- a key is in the slot of its remainder
abbrev pub slot_of : ℕ → ℕ
slot_of key = key % 1024

-- of the first n keys, one more than the place of the last that is in the slot, or 0
unfoldable pub last_in : List ℕ → ℕ → ℕ → ℕ
last_in keys slot zero = 0
last_in keys slot (suc n) = if slot_of (slice_index keys n) == slot then suc n else last_in keys slot n

-- each slot has its last key for a head, and each key goes back to the one of its slot before it
pub record AreChained (keys heads before : List ℕ) : Type 0 where
  pub slots : length heads ≡ 1024
  pub long : length before ≡ length keys
  pub heads_are : (slot : ℕ) → slot < 1024 → slice_index heads slot ≡ last_in keys slot (length keys)
  pub before_are : (i : ℕ) → i < length keys → slice_index before i ≡ last_in keys (slot_of (slice_index keys i)) i

-- for each position, how many of it and those before it have its repeat
pub record AreCounts (ps : List Position) (counts : List ℕ) : Type 0 where
  pub long : length counts ≡ length ps
  pub each : (i : ℕ) (p : Position) → i < length ps →
      slice_index counts i ≡ times (repeat_of (slice_index_or ps i p)) (take (i + 1) ps)

-- the keys, counts and chains are those of the positions
pub record AreStandings (ps : List Position) (keys counts heads before : List ℕ) : Type 0 where
  pub few : length ps ≤ 8193
  pub keyed : keys ≡ keys_of ps
  pub counted : AreCounts ps counts
  pub chained : AreChained keys heads before
