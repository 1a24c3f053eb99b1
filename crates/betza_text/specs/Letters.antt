-- What a byte of a word can be.
use Rattle.std.specs.Prelude.{ℕ, Bool, ◌||◌, ◌&&◌, ◌==◌, nat_le}

-- a lower-case letter, a bracket or a hyphen: what stands before the atom
unfoldable pub is_prefix : ℕ → Bool
is_prefix c =
    (nat_le 97 c && nat_le c 122) || c == 91 || c == 93 || c == 40 || c == 41 || c == 123 || c == 125 || c == 45

-- the letters of the atoms, W D H R, F A G B, N L C J Z, K Q
unfoldable pub is_atom : ℕ → Bool
is_atom c =
    c == 87 || c == 68 || c == 72 || c == 82 || c == 70 || c == 65 || c == 71 || c == 66 || c == 78 || c == 76
    || c == 67 || c == 74 || c == 90 || c == 75 || c == 81

-- m c n p g: a part has each at most once
unfoldable pub is_once : ℕ → Bool
is_once c = c == 109 || c == 99 || c == 110 || c == 112 || c == 103

-- f b l r v s h
unfoldable pub is_direction : ℕ → Bool
is_direction c = c == 102 || c == 98 || c == 108 || c == 114 || c == 118 || c == 115 || c == 104
