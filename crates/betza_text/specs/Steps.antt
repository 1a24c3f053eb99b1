-- The steps of the atoms, and which of them the direction letters pick.
use Rattle.std.specs.Prelude.{ℕ, ◌+◌, ◌*◌, ◌/◌, ◌%◌, ℤ, pos, neg_ℤ, nat_abs, int_lt, ◌≤ℤ◌, Bool, false, not, ◌||◌, ◌&&◌, ◌==◌, if◌then◌else◌, is_some, List, [], ◌∷◌, length, filter, slice_index}
use Rattle.std.specs.List.{list_any, list_all}
use Rattle.foundation.specs.Count.{any_below}
use Rattle.betza_text.specs.declared.part.Part.{Part}
use Rattle.betza_text.specs.declared.steps.Step.{Step}
use Rattle.betza_text.specs.declared.steps.Shape.{Shape}
use Rattle.betza_text.specs.declared.steps.Shape.TheVariants.{Orthogonal, Diagonal, Oblique, Royal, Nothing}

abbrev pub step : ℤ → ℤ → Step
step x y = record { dx = x; dy = y }

-- a leg of one, two or three squares
abbrev pub IsLeg : ℤ → Type 0
IsLeg n = (pos 1 ≤ℤ n) × (n ≤ℤ pos 3)

-- all steps of a shape, each once, in the order of (dy, dx); a royal has the orthogonal ones first
abbrev pub all_steps : Shape → List Step
all_steps (Orthogonal n) =
    step (pos 0) (neg_ℤ n)
    ∷ step (neg_ℤ n) (pos 0) ∷ step n (pos 0)
    ∷ step (pos 0) n ∷ []
all_steps (Diagonal n) =
    step (neg_ℤ n) (neg_ℤ n) ∷ step n (neg_ℤ n)
    ∷ step (neg_ℤ n) n ∷ step n n ∷ []
all_steps (Oblique long short) =
    step (neg_ℤ short) (neg_ℤ long) ∷ step short (neg_ℤ long)
    ∷ step (neg_ℤ long) (neg_ℤ short) ∷ step long (neg_ℤ short)
    ∷ step (neg_ℤ long) short ∷ step long short
    ∷ step (neg_ℤ short) long ∷ step short long ∷ []
all_steps Royal =
    step (pos 0) (neg_ℤ (pos 1))
    ∷ step (neg_ℤ (pos 1)) (pos 0) ∷ step (pos 1) (pos 0)
    ∷ step (pos 0) (pos 1)
    ∷ step (neg_ℤ (pos 1)) (neg_ℤ (pos 1)) ∷ step (pos 1) (neg_ℤ (pos 1))
    ∷ step (neg_ℤ (pos 1)) (pos 1) ∷ step (pos 1) (pos 1) ∷ []
all_steps Nothing = []

-- no leg is longer than three squares
abbrev pub IsShort : Shape → Type 0
IsShort (Orthogonal n) = IsLeg n
IsShort (Diagonal n) = IsLeg n
IsShort (Oblique long short) = IsLeg long × IsLeg short
IsShort Royal = Unit {0}
IsShort Nothing = Unit {0}

-- the shape of an atom, by its letter
unfoldable pub shape_of : ℕ → Shape
shape_of atom =
    if atom == 87 || atom == 82 then Orthogonal (pos 1)
    else if atom == 68 then Orthogonal (pos 2)
    else if atom == 72 then Orthogonal (pos 3)
    else if atom == 70 || atom == 66 then Diagonal (pos 1)
    else if atom == 65 then Diagonal (pos 2)
    else if atom == 71 then Diagonal (pos 3)
    else if atom == 78 then Oblique (pos 2) (pos 1)
    else if atom == 76 || atom == 67 then Oblique (pos 3) (pos 1)
    else if atom == 74 || atom == 90 then Oblique (pos 3) (pos 2)
    else if atom == 75 || atom == 81 then Royal
    else Nothing

-- the step goes to the side of the letter: f forward, b backward, l left, r right, v either way along the file, s
-- either way along the rank
unfoldable pub points : ℕ → Step → Bool
points letter s =
    if letter == 102 then int_lt (pos 0) s.dy
    else if letter == 98 then int_lt s.dy (pos 0)
    else if letter == 108 then int_lt s.dx (pos 0)
    else if letter == 114 then int_lt (pos 0) s.dx
    else if letter == 118 then not (nat_abs s.dy == 0)
    else if letter == 115 then not (nat_abs s.dx == 0)
    else false

-- f b v, which speak of ranks
unfoldable pub is_rankwise : ℕ → Bool
is_rankwise letter = letter == 102 || letter == 98 || letter == 118

-- l r s, which speak of files
unfoldable pub is_filewise : ℕ → Bool
is_filewise letter = letter == 108 || letter == 114 || letter == 115

-- f b l r
unfoldable pub is_plain_side : ℕ → Bool
is_plain_side letter = letter == 102 || letter == 98 || letter == 108 || letter == 114

-- f b l r v s
abbrev pub is_side : ℕ → Bool
is_side letter = is_rankwise letter || is_filewise letter

-- how far the step goes along the file (f b v) or along the rank
unfoldable pub leg_along : ℕ → Step → ℕ
leg_along letter s = if is_rankwise letter then nat_abs s.dy else nat_abs s.dx

-- two letters that name one direction of the shape: fl fr bl br for a diagonal; ff bb ll rr vv ss, fs bs, fh bh lh rh
-- for an oblique one
unfoldable pub is_pair : Shape → ℕ → ℕ → Bool
is_pair (Orthogonal n) x y = false
is_pair (Diagonal n) x y = (x == 102 || x == 98) && (y == 108 || y == 114)
is_pair (Oblique long short) x y =
    (x == y && is_side x) || ((x == 102 || x == 98) && y == 115) || (is_plain_side x && y == 104)
is_pair Royal x y = false
is_pair Nothing x y = false

-- the step goes where a pair of letters says
-- diagonal: to both sides; oblique: xh to the side x, xx with its long leg to that side, fs and bs with its short leg
unfoldable pub pair_points : Shape → ℕ → ℕ → Step → Bool
pair_points (Orthogonal n) x y s = false
pair_points (Diagonal n) x y s = points x s && points y s
pair_points (Oblique long short) x y s =
    points x s && (y == 104 || leg_along x s == (if x == y then nat_abs long else nat_abs short))
pair_points Royal x y s = false
pair_points Nothing x y s = false

-- the letters at places 2k and 2k + 1
unfoldable pub is_bad_pair : Shape → List ℕ → ℕ → Bool
is_bad_pair shape letters k = not (is_pair shape (slice_index letters (2 * k)) (slice_index letters (2 * k + 1)))

unfoldable pub is_pair_to : Shape → List ℕ → Step → ℕ → Bool
is_pair_to shape letters s k = pair_points shape (slice_index letters (2 * k)) (slice_index letters (2 * k + 1)) s

-- the letters split into pairs of the shape
unfoldable pub are_pairs : Shape → List ℕ → Bool
are_pairs shape letters = (length letters % 2 == 0) && not (any_below (is_bad_pair shape letters) (length letters / 2))

-- the letters, one by one, name directions of the shape
unfoldable pub are_single : Shape → List ℕ → Bool
are_single (Orthogonal n) letters = list_all is_side letters
are_single (Diagonal n) letters = list_all is_rankwise letters || list_all is_filewise letters
are_single (Oblique long short) letters = false
are_single Royal letters = (length letters == 1) && list_all is_plain_side letters
are_single Nothing letters = false

-- the letters have one meaning
unfoldable pub is_clear : Shape → List ℕ → Bool
is_clear shape letters = (length letters == 0) || are_pairs shape letters || are_single shape letters

-- no letters pick every step; else a pair or a single letter must point to it
unfoldable pub picks : Shape → List ℕ → Step → Bool
picks shape letters s =
    (length letters == 0) || (if are_pairs shape letters
    then any_below (is_pair_to shape letters s) (length letters / 2)
    else list_any (λ letter. points letter s) letters)

-- the steps of a part
unfoldable pub steps_of : Part → List Step
steps_of part = filter (picks (shape_of part.atom) part.dirs) (all_steps (shape_of part.atom))

-- how many terms the parts have
unfoldable pub step_count : List Part → ℕ
step_count [] = 0
step_count (part ∷ parts) = length (steps_of part) + step_count parts

-- R, B, Q
abbrev pub is_rider : ℕ → Bool
is_rider atom = atom == 82 || atom == 66 || atom == 81

-- its step is repeated: a rider, a doubled atom, or one with a number
unfoldable pub is_far : Part → Bool
is_far part = is_rider part.atom || part.doubled || is_some part.number

-- N A D H G, neither doubled nor numbered
unfoldable pub can_be_lame : Part → Bool
can_be_lame part =
    (part.atom == 78 || part.atom == 65 || part.atom == 68 || part.atom == 72 || part.atom == 71) && not part.doubled
    && not (is_some part.number)
