-- The entry of a section, along the chain of parents.
use Rattle.std.proofs.Common.{◌≡◌, ℕ, zero, suc, ◌+◌, ◌<◌, Bool, true, false, List, Option, None, Some, Result, is_err, option_and_then, take, refl, ap, ◌∙◌, arith, add-one}
use Rattle.std.proofs.lemmas.Option.{option_and_then_some}
use Rattle.std.specs.Option.{option_or}
use Rattle.rules_model.specs.declared.rules.Rules.{Rules}
use Rattle.variant_ini.specs.Section.{Section, section_at}
use Rattle.variant_ini.specs.OptionValue.{first_named, parent_place}
use Rattle.variant_ini.proofs.OptionLaws.{parent_place_above}
use Rattle.variant_model.specs.Made.{resolved}
use Rattle.variant_model.specs.declared.fault.SectionFault.{SectionFault}
use Rattle.variant_model.specs.declared.fault.SectionFault.TheVariants.{DuplicateName, RefusedParent}
use Rattle.variant_model.specs.Entry.{fault_where, is_duplicate, parent_fault_by, parent_fault, own_fault, rules_fault, accepted, first_fault, unless_fault, entry_by, entry_within, entry, is_refused}

fault_same : (name : Option (List ℕ)) (parent : Option ℕ) (f g : ℕ → Bool) → ((p : ℕ) → parent ≡ Some p → f p ≡ g p) → parent_fault_by name parent f ≡ parent_fault_by name parent g
fault_same None parent f g same = refl
fault_same (Some name) None f g same = refl
fault_same (Some name) (Some p) f g same = ap (λ b. fault_where b RefusedParent) (same p refl)

named_refused : (name : Option (List ℕ)) (f : List ℕ → Option ℕ) (parent : ℕ) (refuses : ℕ → Bool) → option_and_then f name ≡ Some parent → refuses parent ≡ true → parent_fault_by name (Some parent) refuses ≡ Some RefusedParent
named_refused name f parent refuses e refused =
    option_and_then_some f name parent e
    (λ n named found. ap (λ o. parent_fault_by o (Some parent) refuses) named ∙ ap (λ b. fault_where b RefusedParent) refused)

any_fault_refuses : (is_duplicate : Bool) (fault rest : Option SectionFault) (rules : Result Rules SectionFault) → fault ≡ Some RefusedParent → is_err (unless_fault (option_or (option_or (fault_where is_duplicate DuplicateName) fault) rest) rules) ≡ true
any_fault_refuses true fault rest rules e = refl
any_fault_refuses false fault rest rules e = rw e refl

module _ (sections : List Section) where
  entry_same : (place : ℕ) (f g : ℕ → Bool) → ((p : ℕ) → parent_place sections place ≡ Some p → f p ≡ g p) → entry_by sections place f ≡ entry_by sections place g
  entry_same place f g same =
      ap (λ fault. unless_fault
      (option_or (option_or (fault_where (is_duplicate sections place) DuplicateName) fault)
      (option_or (own_fault (section_at sections place).lines) (rules_fault (resolved sections place)))) (accepted (resolved sections place)))
      (fault_same (section_at sections place).parent (parent_place sections place) f g same)

  -- more steps than the chain has give nothing else
  enough_steps : (m n place : ℕ) → place < m → place < n → entry_within m sections place ≡ entry_within n sections place
  unfolding entry_within
  enough_steps zero n place h k = absurd (omega arith)
  enough_steps (suc m) zero place h k = absurd (omega arith)
  enough_steps (suc m) (suc n) place h k =
      entry_same place (λ parent. is_err (entry_within m sections parent)) (λ parent. is_err (entry_within n sections parent))
      (λ parent e. let above : parent < place = parent_place_above sections place parent e in ap is_err (enough_steps m n parent (omega arith) (omega arith)))

  -- the entry of a section, by those of the sections above it
  pub entry_is : (place : ℕ) → entry sections place ≡ entry_by sections place (λ parent. is_err (entry sections parent))
  unfolding entry entry_within
  entry_is place =
      ap (λ n. entry_within n sections place) (add-one place)
      ∙ entry_same place (λ parent. is_err (entry_within place sections parent)) (λ parent. is_err (entry_within (parent + 1) sections parent))
      (λ parent e. let above : parent < place = parent_place_above sections place parent e in ap is_err (enough_steps place (parent + 1) parent above (omega arith)))

  -- the entry of a section, by its first fault
  pub entry_by_fault : (place : ℕ) (fault : Option SectionFault) → first_fault sections place (is_refused sections) ≡ fault → entry sections place ≡ unless_fault fault (accepted (resolved sections place))
  entry_by_fault place fault e = entry_is place ∙ ap (λ first. unless_fault first (accepted (resolved sections place))) e

  pub parent_refused : (place parent : ℕ) → parent_place sections place ≡ Some parent
      → is_refused sections parent ≡ true → parent_fault sections place (is_refused sections) ≡ Some RefusedParent
  unfolding parent_place
  parent_refused place parent e refused =
      ap (λ found. parent_fault_by (section_at sections place).parent found (is_refused sections)) e
      ∙ named_refused (section_at sections place).parent (first_named (take place sections)) parent (is_refused sections) e refused

  pub refused_below : (place parent : ℕ) → parent_place sections place ≡ Some parent → is_refused sections parent ≡ true → is_refused sections place ≡ true
  refused_below place parent e refused =
      ap is_err (entry_is place)
      ∙ any_fault_refuses (is_duplicate sections place) (parent_fault sections place (is_refused sections))
      (option_or (own_fault (section_at sections place).lines) (rules_fault (resolved sections place)))
      (accepted (resolved sections place)) (parent_refused place parent e refused)
