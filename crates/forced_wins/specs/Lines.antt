-- Lines of play that stay won, and what keeps a won game from having a good strategy near the limit.
use Rattle.std.specs.Prelude.{◌≡◌, ◌⊎◌, ℕ, ◌+◌, ◌-◌, ◌*◌, ◌<◌, ◌≤◌, List, [], ◌∷◌, length, Bool, true, Some, if◌then◌else◌, slice_get}
use Rattle.foundation.specs.Member.{Member}
use Rattle.forced_wins.specs.Games.{Game, Story, history, times, near, near_root, blocked}

-- how many of n moves the attacker has left after a move from p
abbrev pub moves_left : {P R M : Type 0} → Game P R M → ℕ → P → ℕ
moves_left r n p = if r.attacking p then n - 1 else n

-- the moves are legal in turn, the attacker makes at most n of them, and each position after p is won by the moves left
-- there
abbrev pub IsWonAlong : {P R M : Type 0} → Game P R M → (R → Bool) → ℕ → P → List M → Type 0
IsWonAlong r barred n p [] = Unit {0}
IsWonAlong r barred n p (m ∷ ms) =
    Member m (r.legal p)
    × (r.attacking p ≡ true → 0 < n)
    × (near r barred (moves_left r n p) (r.next p m) ≡ true)
    × IsWonAlong r barred (moves_left r n p) (r.next p m) ms

-- the position after the moves
abbrev pub behind : {P R M : Type 0} → Game P R M → P → List M → P
behind r p [] = p
behind r p (m ∷ ms) = behind r (r.next p m) ms

-- at most 2n + 1 moves lead from the game to the repeat at the counter, by positions that are still won
pub record OnWin (P R M : Type 0) (r : Game P R M) (n : ℕ) (g : Story P) (x : R) (c : ℕ) : Type 0 where
  pub line : List M
  pub short : length line ≤ 2 * n + 1
  pub won : IsWonAlong r (blocked r g) n g.last line
  pub repeat : r.repeat (behind r g.last line) ≡ x
  pub counter : r.counter (behind r g.last line) ≡ c

-- the root's own repeat stands twice
abbrev pub StandsAgain : {P R M : Type 0} → Game P R M → Story P → R → List ℕ → Type 0
StandsAgain r g x counters = (x ≡ r.repeat g.last) × (2 ≤ length counters)

-- another stands so often that a table of them all has too many
abbrev pub StandsTooOften : {P R M : Type 0} → Game P R M → Story P → R → List ℕ → Type 0
StandsTooOften r g x counters =
    (x ≡ r.repeat g.last → ⊥) × (0 < r.fold) × (r.fold ≤ length counters + times r x (history g))

-- one repeat at different counters, each on a won line: too many for a table
pub record IsUnsettled (P R M : Type 0) (r : Game P R M) (n : ℕ) (g : Story P) : Type 0 where
  pub near_win : near_root r n g ≡ true
  pub counted : 0 < r.limit
  pub close : r.limit ≤ r.counter g.last + (n + n)
  pub repeat : R
  pub counters : List ℕ
  pub differ : (i j c : ℕ) → slice_get counters i ≡ Some c → slice_get counters j ≡ Some c → i ≡ j
  pub on_lines : (c : ℕ) → Member c counters → OnWin P R M r n g repeat c
  pub many : StandsAgain r g repeat counters ⊎ StandsTooOften r g repeat counters
