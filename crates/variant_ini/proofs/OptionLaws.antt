-- The value of an option, along the chain of parents.
use Rattle.std.proofs.Common.{◌≡◌, ℕ, zero, suc, ◌+◌, ◌-◌, ◌<◌, List, ◌++◌, Option, None, Some, Result, Ok, Err, IfSome, OnOk, OnErr, length, take, get_or, refl, sym, ap, ◌∙◌, arith, option_and_then, add-one, ⊎_elim}
use Rattle.std.proofs.lemmas.List.{take-append-le, get_or_append_left, get_or-append_right, get_or_read, length-take, length-append}
use Rattle.std.proofs.lemmas.Bool.{cases_lt}
use Rattle.std.proofs.lemmas.Option.{option_and_then_some}
use Rattle.variant_ini.specs.declared.fault.IniFault.{IniFault}
use Rattle.variant_ini.specs.Section.{Section, section_at, no_section, last_value}
use Rattle.variant_ini.specs.OptionValue.{first_named, parent_place, own_or, value_within, option_value}
use Rattle.variant_ini.specs.Parents.{HasParents, HasParentsFrom}
use Rattle.variant_ini.proofs.ParentLaws.{first_named_within}

-- two functions that agree on a value agree behind it
and_then_same : {A B : Type 0} (f g : A → Option B) (o : Option A) → ((x : A) → o ≡ Some x → f x ≡ g x) → option_and_then f o ≡ option_and_then g o
and_then_same f g None h = refl
and_then_same f g (Some x) h = h x refl

-- a parent stands above its child
pub parent_place_above : (sections : List Section) (place parent : ℕ) → parent_place sections place ≡ Some parent → parent < place
unfolding parent_place
parent_place_above sections place parent h =
    option_and_then_some (first_named (take place sections)) (section_at sections place).parent parent h
    (λ name e found. omega (arith, first_named_within (take place sections) name parent found, length-take place sections))

-- later sections change no parent
pub parent_place-append : (sections later : List Section) (place : ℕ) → place < length sections → parent_place (sections ++ later) place ≡ parent_place sections place
unfolding parent_place
parent_place-append sections later place within =
    ap (λ above. option_and_then (first_named above) (section_at (sections ++ later) place).parent) (take-append-le place sections later (omega (arith, within)))
    ∙ ap (λ (s : Section). option_and_then (first_named (take place sections)) s.parent) (get_or_append_left sections later no_section place within)

module _ (sections : List Section) (key : List ℕ) where
  -- more steps than the chain has find nothing else
  enough_steps : (m n place : ℕ) → place < m → place < n → value_within m sections key place ≡ value_within n sections key place
  unfolding value_within
  enough_steps zero n place h k = absurd (omega arith)
  enough_steps (suc m) zero place h k = absurd (omega arith)
  enough_steps (suc m) (suc n) place h k =
      ap (own_or (last_value (section_at sections place).lines key))
      (and_then_same (value_within m sections key) (value_within n sections key) (parent_place sections place)
      (λ parent e. let above : parent < place = parent_place_above sections place parent e in enough_steps m n parent (omega arith) (omega arith)))

  -- the sentence by which an option is inherited
  pub option_value_is : (place : ℕ) → option_value sections place key ≡ own_or (last_value (section_at sections place).lines key) (option_and_then (λ parent. option_value sections parent key) (parent_place sections place))
  unfolding option_value value_within
  option_value_is place =
      ap (λ n. value_within n sections key place) (add-one place)
      ∙ ap (own_or (last_value (section_at sections place).lines key))
      (and_then_same (value_within place sections key) (λ parent. value_within (parent + 1) sections key parent) (parent_place sections place)
      (λ parent e. let above : parent < place = parent_place_above sections place parent e in enough_steps place (parent + 1) parent above (omega arith)))

-- the value that is found from a place on, if there is one
abbrev pub value_from : List Section → List ℕ → Option ℕ → Option (List ℕ)
value_from sections key next = option_and_then (λ place. option_value sections place key) next

-- how many sections may be asked from a place on
abbrev pub steps_left : Option ℕ → ℕ
steps_left None = 0
steps_left (Some place) = place + 1

abbrev pub IsPlace : List Section → Option ℕ → Type 0
IsPlace sections None = Unit {0}
IsPlace sections (Some place) = place < length sections

-- later sections change no value
value_within-append : (sections later : List Section) (key : List ℕ) (n place : ℕ) → place < length sections → value_within n (sections ++ later) key place ≡ value_within n sections key place
unfolding value_within
value_within-append sections later key zero place within = refl
value_within-append sections later key (suc n) place within =
    ap (λ (s : Section). own_or (last_value s.lines key) (option_and_then (value_within n (sections ++ later) key) (parent_place (sections ++ later) place))) (get_or_append_left sections later no_section place within)
    ∙ ap (λ o. own_or (last_value (section_at sections place).lines key) (option_and_then (value_within n (sections ++ later) key) o)) (parent_place-append sections later place within)
    ∙ ap (own_or (last_value (section_at sections place).lines key))
    (and_then_same (value_within n (sections ++ later) key) (value_within n sections key) (parent_place sections place)
    (λ parent e. let above : parent < place = parent_place_above sections place parent e in value_within-append sections later key n parent (omega arith)))

pub option_value-append : (sections later : List Section) (key : List ℕ) (place : ℕ) → place < length sections → option_value (sections ++ later) place key ≡ option_value sections place key
unfolding option_value
option_value-append sections later key place within = value_within-append sections later key (place + 1) place within

-- the parents of sections, and of new ones behind them
pub HasParents-append : (sections new : List Section) (places found : List (Option ℕ)) → HasParents sections places → HasParentsFrom (length sections) (sections ++ new) found → HasParents (sections ++ new) (places ++ found)
HasParents-append sections new places found old later = record {
  counted = omega (arith, length-append places found, old.counted, later.counted);
  placed = λ k within.
      ⊎_elim
      (λ low.
      get_or_append_left places found None k low
      ∙ old.placed k low
      ∙ sym (parent_place-append sections new k (omega (arith, low, old.counted))))
      (λ high.
      let at : length sections + (k - length places) ≡ k = omega (arith, high, old.counted) in
      get_or-append_right places found (length places) k None refl high
      ∙ later.placed (k - length places) (omega (arith, within, high, length-append places found))
      ∙ ap (parent_place (sections ++ new)) at)
      (cases_lt k (length places));
}

-- whatever the answer of a call that adds sections, the values of those that were there stay
pub values_kept : (answer : Result (Unit {0}) IniFault) (old new later : List Section) → OnOk answer (new ≡ old ++ later) → OnErr answer (new ≡ old) → (place : ℕ) (key : List ℕ) → place < length old → option_value new place key ≡ option_value old place key
values_kept (Ok x) old new later added err place key within =
    ap (λ ss. option_value ss place key) added ∙ option_value-append old later key place within
values_kept (Err e) old new later added err place key within = ap (λ ss. option_value ss place key) err

module _ (sections : List Section) (place : ℕ) (section : Section) (within : place < length sections) (here : section ≡ get_or sections place section) where
  section_is : section_at sections place ≡ section
  section_is = sym (get_or_read sections place section within here no_section)

  -- an own line has the value
  pub own_value : (key value : List ℕ) → Some value ≡ last_value section.lines key → Some value ≡ option_value sections place key
  own_value key value h =
      ap (λ o. own_or o (value_from sections key (parent_place sections place))) h
      ∙ ap (λ (s : Section). own_or (last_value s.lines key) (value_from sections key (parent_place sections place))) (sym section_is)
      ∙ sym (option_value_is sections key place)

  -- no own line has the key
  pub inherited_value : (key : List ℕ) → None ≡ last_value section.lines key → option_value sections place key ≡ value_from sections key (parent_place sections place)
  inherited_value key h =
      option_value_is sections key place
      ∙ ap (λ (s : Section). own_or (last_value s.lines key) (value_from sections key (parent_place sections place))) section_is
      ∙ ap (λ o. own_or o (value_from sections key (parent_place sections place))) (sym h)

place_from : (sections : List Section) (place : ℕ) (next : Option ℕ) → place < length sections → ((parent : ℕ) → next ≡ Some parent → parent < place) → IsPlace sections next × (steps_left next < place + 1)
place_from sections place None within above = (tt, omega arith)
place_from sections place (Some parent) within above = let a = above parent refl in (omega arith, omega arith)

-- the parent's place is a place, above its child's
pub parent_is_place : (sections : List Section) (place : ℕ) → place < length sections → IsPlace sections (parent_place sections place) × (steps_left (parent_place sections place) < place + 1)
parent_is_place sections place within =
    place_from sections place (parent_place sections place) within (parent_place_above sections place)

-- what the list of places has at a place
pub place_read : (sections : List Section) (places : List (Option ℕ)) (place : ℕ) (next : Option ℕ) → HasParents sections places → place < length sections → next ≡ get_or places place next → next ≡ parent_place sections place
place_read sections places place next h within here =
    get_or_read places place next (omega (arith, within, h.counted)) here None ∙ h.placed place (omega (arith, within, h.counted))

-- a parent that is found stands above its child
pub is_above : (sections : List Section) (place : ℕ) (next : Option ℕ) → next ≡ parent_place sections place → IfSome next (λ parent. parent < place)
is_above sections place None is = tt
is_above sections place (Some parent) is = parent_place_above sections place parent (sym is)
