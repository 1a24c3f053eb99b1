-- Where a shift leads.
use Rattle.std.proofs.Common.{◌≡◌, ◌≢◌, ℕ, ◌+◌, ◌-◌, ◌<◌, ◌&&◌, ◌==◌, nat_le, true, refl, ap, ◌∙◌, arith}
use Rattle.std.proofs.lemmas.Bool.{and_from, and_parts, eq-eqb}
use Rattle.square_set.specs.declared.Set.{Set}
use Rattle.square_set.specs.declared.Shift.{Shift}
use Rattle.square_set.specs.declared.Shift.TheVariants.{Up, Down}
use Rattle.square_set.specs.Members.{back, has, is_led, leads, length_of, origin, twice, HasOrigin}

pub origin_is : (shift : Shift) (s t : ℕ) → leads shift s t ≡ true → origin shift t ≡ s
origin_is (Up n) s t e = grind arith
origin_is (Down n) s t e = grind arith

-- the square to which it leads
pub same_end : (shift : Shift) (s a b : ℕ) → leads shift s a ≡ true → leads shift s b ≡ true → a ≡ b
same_end (Up n) s a b e f = grind arith
same_end (Down n) s a b e f = grind arith

back_up : (n t : ℕ) → nat_le n t ≡ true → (t - n + n == t) ≡ true
back_up n t e = grind arith

pub led_from : (shift : Shift) (set : Set) (t : ℕ) → is_led shift set t ≡ true → (leads shift (origin shift t) t ≡ true) × (has set (origin shift t) ≡ true)
led_from (Up n) set t e = let h = and_parts (nat_le n t) (has set (t - n)) e in (back_up n t h.0, h.1)
led_from (Down n) set t e = (eq-eqb (t + n) (t + n) refl, e)

pub led_to : (shift : Shift) (set : Set) (s t : ℕ) → leads shift s t ≡ true → has set s ≡ true → is_led shift set t ≡ true
led_to (Up n) set s t e f = and_from (nat_le n t) (has set (t - n)) (grind arith) (ap (has set) (origin_is (Up n) s t e) ∙ f)
led_to (Down n) set s t e f = ap (has set) (origin_is (Down n) s t e) ∙ f

below_or_left : (n s : ℕ) (set : Set) → nat_le n s ≡ true → (nat_le n s && has set (s - n)) ≡ has set (s - n)
below_or_left n s set e = rw e refl

-- the shift back leads to the squares from which the shift leads into the set
pub led_back : (shift : Shift) (set : Set) (s t : ℕ) → leads shift s t ≡ true → is_led (back shift) set s ≡ has set t
led_back (Up n) set s t e = ap (has set) (grind arith)
led_back (Down n) set s t e = below_or_left n s set (grind arith) ∙ ap (has set) (grind arith)

-- where the shift leads from one square to another, the one is in the new set exactly if the other is in the old one
abbrev pub AreOrigins : Shift → Set → Set → Type 0
AreOrigins shift set origins = (s t : ℕ) → s < 128 → leads shift s t ≡ true → has origins s ≡ has set t

pub origins_are : (shift led : Shift) (set origins : Set) → led ≡ back shift → ((s : ℕ) → s < 128 → has origins s ≡ is_led led set s) → AreOrigins shift set origins
origins_are shift led set origins is are s t l e = are s l ∙ ap (λ x. is_led x set s) is ∙ led_back shift set s t e

pub has_origin : (shift : Shift) (t : ℕ) → leads shift (origin shift t) t ≡ true → origin shift t < 120 → HasOrigin shift 120 t
has_origin (Up n) t e l = (grind arith, l)
has_origin (Down n) t e l = l

-- both halves of the shift that is made twice
pub halves : (shift : Shift) (s t : ℕ) → leads (twice shift) s t ≡ true → (leads shift s (origin shift t) ≡ true) × (leads shift (origin shift t) t ≡ true)
halves (Up n) s t e = (grind arith, grind arith)
halves (Down n) s t e = (grind arith, grind arith)

-- a shift leads elsewhere than one made twice, and than one of another length
pub once_or_twice : (shift : Shift) (s t : ℕ) → 0 < length_of shift → leads shift s t ≡ true → leads (twice shift) s t ≡ true → ⊥
once_or_twice (Up n) s t l e f = grind arith
once_or_twice (Down n) s t l e f = grind arith

pub lengths_differ : (a b : Shift) (s t : ℕ) → length_of a ≢ length_of b → leads a s t ≡ true → leads b s t ≡ true → ⊥
lengths_differ (Up n) (Up m) s t l e f = l (grind arith)
lengths_differ (Up n) (Down m) s t l e f = l (grind arith)
lengths_differ (Down n) (Up m) s t l e f = l (grind arith)
lengths_differ (Down n) (Down m) s t l e f = l (grind arith)
