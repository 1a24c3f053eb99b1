-- Where an index of names finds sections.
use Rattle.std.specs.Prelude.{◌≡◌, ℕ, List, Vec}
use Rattle.std.specs.Ordering.{nat_cmp}
use Rattle.std.specs.Cmp.Lexicographic.{slice_cmp}
use Rattle.std.specs.BTreeMap.{BTreeMap, get_by}
use Rattle.std.specs.declared.alloc.Global.{Global}
use Rattle.variant_ini.specs.Section.{Section}
use Rattle.variant_ini.specs.OptionValue.{first_named}

-- the index has the place of the first section of each name
abbrev pub FindsFirst : BTreeMap (Vec ℕ Global) ℕ → List Section → Type 0
FindsFirst index sections =
    (name : List ℕ) → get_by (λ k. slice_cmp nat_cmp name k.items) index ≡ first_named sections name
