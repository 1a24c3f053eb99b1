-- What an index of names finds.
use Rattle.std.proofs.Common.{◌≡◌, ℕ, zero, suc, ◌+◌, ◌<◌, ◌≤◌, Bool, true, false, cond, List, [], ◌∷◌, ◌++◌, Option, None, Some, Vec, Global, length, take, refl, sym, ap, ◌∙◌, ⊎_elim, arith, nat_cmp, option_map}
use Rattle.std.specs.Cmp.Lexicographic.{slice_cmp, bytes_decides}
use Rattle.std.specs.Str.{bytes_eq}
use Rattle.std.specs.BTreeMap.{BTreeMap, Updates}
use Rattle.std.proofs.lemmas.Bool.{cases_Bool, cond-true, cond-false}
use Rattle.variant_ini.specs.Section.{Section}
use Rattle.variant_ini.specs.FirstPlaces.{FindsFirst}
use Rattle.variant_ini.specs.OptionValue.{first_named}
use Rattle.variant_ini.proofs.IndexLaws.{found_at, index_updates}
use Rattle.variant_ini.proofs.ParentLaws.{or_behind, first_named-append}

behind_nothing : (found : Option ℕ) (n : ℕ) → or_behind found n None ≡ found
behind_nothing None n = refl
behind_nothing (Some place) n = refl

-- one section more changes nothing for other names
other_name : (before : List Section) (s : Section) (name : List ℕ) → bytes_eq s.name name ≡ false → first_named (before ++ s ∷ []) name ≡ first_named before name
unfolding first_named
other_name before s name apart =
    first_named-append before (s ∷ []) name
    ∙ ap (λ b. or_behind (first_named before name) (length before) (cond b (Some 0) None)) apart
    ∙ behind_nothing (first_named before name) (length before)

-- of its own name it is the first, where there was none
own_name : (before : List Section) (s : Section) → first_named before s.name ≡ None → first_named (before ++ s ∷ []) s.name ≡ Some (length before)
unfolding first_named
own_name before s none =
    first_named-append before (s ∷ []) s.name
    ∙ ap (λ o. or_behind o (length before) (first_named (s ∷ []) s.name)) none
    ∙ ap (λ b. or_behind None (length before) (cond b (Some 0) None)) ((bytes_decides s.name s.name).1 refl)
    ∙ ap Some (omega arith)

-- and else the earlier one stays it
kept_name : (before : List Section) (s : Section) (name : List ℕ) (place : ℕ) → first_named before name ≡ Some place → first_named (before ++ s ∷ []) name ≡ Some place
kept_name before s name place first =
    first_named-append before (s ∷ []) name ∙ ap (λ o. or_behind o (length before) (first_named (s ∷ []) name)) first

-- an index into which a new name was put
pub FindsFirst-put : (before : List Section) (s : Section) (k : Vec ℕ Global) (place : ℕ) (old new : BTreeMap (Vec ℕ Global) ℕ) → k.items ≡ s.name → place ≡ length before → found_at old s.name ≡ None → FindsFirst old before → Updates (λ x y. slice_cmp nat_cmp x.items y.items) old new k (Some place) → FindsFirst new (before ++ s ∷ [])
FindsFirst-put before s k place old new key_is place_is none finds updates name =
    index_updates k.items old new (Some place) updates name
    ∙ ap (λ bs. cond (bytes_eq bs name) (Some place) (found_at old name)) key_is
    ∙ ⊎_elim
    (λ y.
    cond-true (bytes_eq s.name name) (Some place) (found_at old name) y
    ∙ ap Some place_is
    ∙ sym (own_name before s (sym (finds s.name) ∙ none))
    ∙ ap (λ n. first_named (before ++ s ∷ []) n) ((bytes_decides s.name name).0 y))
    (λ n. cond-false (bytes_eq s.name name) (Some place) (found_at old name) n ∙ finds name ∙ sym (other_name before s name n))
    (cases_Bool (bytes_eq s.name name))

-- an index that had the name
pub FindsFirst-kept : (before : List Section) (s : Section) (index : BTreeMap (Vec ℕ Global) ℕ) (place : ℕ) → found_at index s.name ≡ Some place → FindsFirst index before → FindsFirst index (before ++ s ∷ [])
FindsFirst-kept before s index place had finds name =
    ⊎_elim
    (λ y.
    let same = (bytes_decides s.name name).0 y in
    let here : first_named before name ≡ Some place = ap (first_named before) (sym same) ∙ sym (finds s.name) ∙ had in
    finds name ∙ here ∙ sym (kept_name before s name place here))
    (λ n. finds name ∙ sym (other_name before s name n))
    (cases_Bool (bytes_eq s.name name))

-- a place where it is below the other, and else none
abbrev within : ℕ → ℕ → Option ℕ
within zero place = None
within (suc n) zero = Some 0
within (suc n) (suc place) = option_map suc (within n place)

within-low : (n place : ℕ) → place < n → within n place ≡ Some place
within-low zero place low = absurd (omega (arith, low))
within-low (suc n) zero low = refl
within-low (suc n) (suc place) low = ap (option_map suc) (within-low n place (omega (arith, low)))

within-high : (n place : ℕ) → n ≤ place → within n place ≡ None
within-high zero place high = refl
within-high (suc n) zero high = absurd (omega (arith, high))
within-high (suc n) (suc place) high = ap (option_map suc) (within-high n place (omega (arith, high)))

abbrev below : ℕ → Option ℕ → Option ℕ
below n None = None
below n (Some place) = within n place

below_none : (found : Option ℕ) → None ≡ below 0 found
below_none None = refl
below_none (Some place) = refl

suc_below : (b : Bool) (n : ℕ) (found : Option ℕ) → cond b (Some 0) (option_map suc (below n found)) ≡ below (suc n) (cond b (Some 0) (option_map suc found))
suc_below true n found = refl
suc_below false n None = refl
suc_below false n (Some place) = refl

first_named_take : (n : ℕ) (sections : List Section) (name : List ℕ) → first_named (take n sections) name ≡ below n (first_named sections name)
unfolding first_named
first_named_take zero sections name = below_none (first_named sections name)
first_named_take (suc n) [] name = refl
first_named_take (suc n) (s ∷ sections) name =
    ap (λ o. cond (bytes_eq s.name name) (Some 0) (option_map suc o)) (first_named_take n sections name)
    ∙ suc_below (bytes_eq s.name name) n (first_named sections name)

module _ (n : ℕ) (sections : List Section) (name : List ℕ) where
  -- no section has the name
  pub none_above : first_named sections name ≡ None → None ≡ first_named (take n sections) name
  none_above none = sym (first_named_take n sections name ∙ ap (below n) none)

  -- the first section of the name is above the place
  pub first_is_above : (place : ℕ) → first_named sections name ≡ Some place → place < n → Some place ≡ first_named (take n sections) name
  first_is_above place first low =
      sym (first_named_take n sections name ∙ ap (below n) first ∙ within-low n place low)

  -- the first section of the name is not above the place
  pub first_is_not_above : (place : ℕ) → first_named sections name ≡ Some place → n ≤ place → None ≡ first_named (take n sections) name
  first_is_not_above place first high =
      sym (first_named_take n sections name ∙ ap (below n) first ∙ within-high n place high)
