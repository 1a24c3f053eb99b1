-- Where a section's index finds its lines.
use Rattle.std.specs.Prelude.{◌≡◌, ℕ, suc, List, [], ◌∷◌, Option, None, Some, if◌then◌else◌, Vec}
use Rattle.std.specs.Ordering.{nat_cmp}
use Rattle.std.specs.Cmp.Lexicographic.{slice_cmp}
use Rattle.std.specs.Str.{bytes_eq}
use Rattle.std.specs.BTreeMap.{BTreeMap, get_by}
use Rattle.std.specs.declared.alloc.Global.{Global}
use Rattle.variant_ini.specs.declared.key_line.KeyLine.{KeyLine}

abbrev pub or_first : Option ℕ → KeyLine → List ℕ → Option ℕ
or_first (Some place) line key = Some (suc place)
or_first None line key = if bytes_eq line.key key then Some 0 else None

-- the place of the last line with this key
abbrev pub last_place : List KeyLine → List ℕ → Option ℕ
last_place [] key = None
last_place (line ∷ lines) key = or_first (last_place lines key) line key

-- the index has the place of the last line of each key
abbrev pub FindsLast : BTreeMap (Vec ℕ Global) ℕ → List KeyLine → Type 0
FindsLast index lines = (key : List ℕ) → get_by (λ k. slice_cmp nat_cmp key k.items) index ≡ last_place lines key
