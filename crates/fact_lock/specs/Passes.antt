-- What contracts see of a lock and of its passes.
use Rattle.std.specs.Prelude.{◌≡◌, ℕ, ◌+◌, ◌<◌, ◌≤◌, ◌==◌, Bool, true, false, List, [], ◌∷◌, ◌++◌, length, nat_lt, if◌then◌else◌, Option, Some, None, All, Contains}
use mathlib.Core.List.{IsPrefix}
use Rattle.atomic_table.specs.Seated.{TableId}
use Rattle.foundation.specs.Tests.{one_if}

-- a lock: what no other lock shares with it, and the key of the value with which it was made
pub record LockView (K : Type 0) : Type 0 where
  pub id : TableId
  pub key : K

-- a pass: which lock it is for, that lock's key, the beginning of the list that it has seen, the places of its own
-- entries, and its parts
pub record PassView (K E : Type 0) : Type 0 where
  pub lock : TableId
  pub key : Option K
  pub seen : List E
  pub own : List ℕ
  pub parts : ℕ

-- the parts of all passes of a lock together
abbrev pub all_parts : ℕ
all_parts = 65536

-- an entry, where there is one, as a list
abbrev pub entries : {E : Type 0} → Option E → List E
entries None = []
entries (Some e) = e ∷ []

-- the place that it takes behind that many others
abbrev pub places : {E : Type 0} → ℕ → Option E → List ℕ
places n None = []
places n (Some e) = n ∷ []

abbrev pub longer : {E : Type 0} → List E → List E → List E
longer xs ys = if nat_lt (length xs) (length ys) then ys else xs

-- how often a place is named
abbrev pub times : ℕ → List ℕ → ℕ
times p [] = 0
times p (x ∷ xs) = one_if (x == p) + times p xs

-- no place is in both
abbrev pub AreApart : List ℕ → List ℕ → Type 0
AreApart ps qs = (p : ℕ) → Contains ps p → ¬ (Contains qs p)

module _ {K E : Type 0} where
  -- it is a pass of this lock
  abbrev pub IsPassOf : LockView K → PassView K E → Type 0
  IsPassOf l v = (v.lock ≡ l.id) × (v.key ≡ Some l.key)

  -- the own entries are among those seen, and each place is named once
  pub record OwnsSeen (v : PassView K E) : Type 0 where
    pub below : All (λ p. p < length v.seen) v.own
    pub once : (p : ℕ) → times p v.own ≤ 1

  -- One turn at the lock. `list` is the whole list when it comes, which begins with all that the pass had seen.
  pub record Turn {O R : Type 0} (reply : K → List E → O → R) (added : K → List E → O → Option E) (key : K)
      (before : PassView K E) (op : O) (answer : R) (after : PassView K E) : Type 0 where
    pub list : List E
    pub begins : IsPrefix before.seen list
    pub answered : answer ≡ reply key list op
    pub seen : after.seen ≡ list ++ entries (added key list op)
    pub own : after.own ≡ before.own ++ places (length list) (added key list op)
