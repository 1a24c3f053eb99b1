-- A set of squares by its members: bit s of its number stands for square s.
use Rattle.std.specs.Prelude.{◌≡◌, ℕ, zero, suc, ◌+◌, ◌-◌, ◌<◌, ◌≤◌, nat_le}
use Rattle.std.specs.Prelude.{Bool, true, false, ◌&&◌, ◌||◌, not, ◌==◌, if◌then◌else◌}
use Rattle.std.specs.Int.{bit_at}
use Rattle.square_set.specs.declared.Set.{Set}
use Rattle.square_set.specs.declared.Shift.{Shift}
use Rattle.square_set.specs.declared.Shift.TheVariants.{Up, Down}

-- bit s of the number is 1
abbrev pub bit : ℕ → ℕ → Bool
bit n s = bit_at n s == 1

-- the square is in the set
abbrev pub has : Set → ℕ → Bool
has set s = bit set.0 s

-- how many numbers below n pass the test
unfoldable pub count_below : (ℕ → Bool) → ℕ → ℕ
count_below test zero = 0
count_below test (suc n) = count_below test n + (if test n then 1 else 0)

-- how many squares the set has
abbrev pub size : Set → ℕ
size set = count_below (has set) 128

-- the squares of the set are squares of the largest board
abbrev pub OnSquares : Set → Type 0
OnSquares set = (s : ℕ) → has set s ≡ true → s < 120

-- the square is of the set, and the lowest of it
pub record IsFirst (set : Set) (square : ℕ) : Type 0 where
  pub small : square < 128
  pub member : has set square ≡ true
  pub lowest : (s : ℕ) → s < square → has set s ≡ false

-- the new set has the squares of the old one and this one
abbrev pub IsWith : Set → ℕ → Set → Type 0
IsWith old square new = (s : ℕ) → has new s ≡ (has old s || (s == square))

-- the new set has the squares of the old one but this one
abbrev pub IsWithout : Set → ℕ → Set → Type 0
IsWithout old square new = (s : ℕ) → has new s ≡ (has old s && not (s == square))

-- a square's place in the order of rising or of falling numbers
abbrev pub place : Bool → ℕ → ℕ
place true s = s
place false s = 127 - s

-- how many squares that pass the test come before the square in that order
abbrev pub before : Bool → (ℕ → Bool) → ℕ → ℕ
before rising test s = count_below (λ i. test (place rising i)) (place rising s)

-- by how many squares a shift leads
abbrev pub length_of : Shift → ℕ
length_of (Up n) = n
length_of (Down n) = n

-- the shift leads from the first square to the second
abbrev pub leads : Shift → ℕ → ℕ → Bool
leads (Up n) s t = s + n == t
leads (Down n) s t = t + n == s

-- the shift that leads back
abbrev pub back : Shift → Shift
back (Up n) = Down n
back (Down n) = Up n

-- the shift made twice
abbrev pub twice : Shift → Shift
twice (Up n) = Up (n + n)
twice (Down n) = Down (n + n)

-- the square from which the shift leads to this one, where there is one
abbrev pub origin : Shift → ℕ → ℕ
origin (Up n) t = t - n
origin (Down n) t = t + n

-- there is such a square, and it is below the end
abbrev pub HasOrigin : Shift → ℕ → ℕ → Type 0
HasOrigin (Up n) end t = (n ≤ t) × (t - n < end)
HasOrigin (Down n) end t = t + n < end

-- the shift leads from a square of the set to this one
abbrev pub is_led : Shift → Set → ℕ → Bool
is_led (Up n) set t = nat_le n t && has set (t - n)
is_led (Down n) set t = has set (t + n)
