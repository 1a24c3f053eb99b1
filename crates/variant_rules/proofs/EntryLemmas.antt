-- A section's entry, by what is found of it one after another.
use Rattle.std.proofs.Common.{◌≡◌, ℕ, ◌+◌, ◌<◌, ◌++◌, Bool, List, [], ◌∷◌, Option, Some, None, Result, Ok, Err, is_err, length, get_or, refl, sym, ap, ◌∙◌, arith}
use Rattle.std.specs.Option.{option_or}
use Rattle.std.specs.Borrow.{Bor}
use Rattle.std.proofs.lemmas.List.{get_or_read}
use Rattle.std.proofs.lemmas.List.FromFn.{get_or-map-range_with_len, length-map-range_with_len, map-range_with_len_more}
use Rattle.rules_model.specs.declared.rules.Rules.{Rules}
use Rattle.variant_ini.specs.Section.{Section, section_at}
use Rattle.variant_ini.specs.OptionValue.{parent_place}
use Rattle.variant_model.specs.declared.fault.SectionFault.{SectionFault}
use Rattle.variant_model.specs.Entry as section
use Rattle.variant_model.specs.Made.{resolved}
use Rattle.variant_model.proofs.EntryLaws.{entry_by_fault}
use Rattle.variant_rules.specs.Entries.{Named, named_at, no_named, entry_at, entries_before}
use Rattle.variant_rules.specs.View.{lent}

-- ---- the sections above

pub none_before : (sections : List Section) → entries_before sections 0 ≡ []
unfolding entries_before
none_before sections = refl

pub one_more : (sections : List Section) (place : ℕ) → entries_before sections (place + 1) ≡ entries_before sections place ++ named_at sections place ∷ []
unfolding entries_before
one_more sections place = map-range_with_len_more (named_at sections) 0 place place (omega arith)

pub length_before : (sections : List Section) (place : ℕ) → length (entries_before sections place) ≡ place
unfolding entries_before
length_before sections place = length-map-range_with_len (named_at sections) 0 place

-- a section above, as it was made
pub made_above : (sections : List Section) (place parent : ℕ) → parent < place → entry_at (entries_before sections place) parent ≡ section.entry sections parent
unfolding entries_before
made_above sections place parent above =
    ap (λ (n : Named). n.entry) (get_or-map-range_with_len (named_at sections) 0 place parent parent no_named above (omega arith))

-- an entry that is read
pub entry_read : (named : List Named) (place : ℕ) (n : Named) → place < length named → n ≡ get_or named place n → n.entry ≡ entry_at named place
entry_read named place n within is = ap (λ (n : Named). n.entry) (get_or_read named place n within is no_named)

pub is_err-lent : (entry : Result (Bor Rules) (Bor SectionFault)) → is_err (lent entry) ≡ is_err entry
is_err-lent (Ok rules) = refl
is_err-lent (Err fault) = refl

-- ---- the parent

module _ (sections : List Section) (place : ℕ) (refuses : ℕ → Bool) where
  -- no parent is named
  pub no_parent : None ≡ (section_at sections place).parent → None ≡ section.parent_fault sections place refuses
  no_parent e = ap (λ name. section.parent_fault_by name (parent_place sections place) refuses) e

  -- a parent is named, and its place is known
  pub parent_named : (name : List ℕ) (found : Option ℕ) → Some name ≡ (section_at sections place).parent → found ≡ parent_place sections place → section.parent_fault_by (Some name) found refuses ≡ section.parent_fault sections place refuses
  parent_named name found named is = λ i. section.parent_fault_by (named i) (is i) refuses

-- ---- the first fault

module _ (sections : List Section) (place : ℕ) where
  first_is : (header own rules : Option SectionFault) → header ≡ section.header_fault sections place (section.is_refused sections) → own ≡ section.own_fault (section_at sections place).lines → rules ≡ section.rules_fault (resolved sections place) → section.first_fault sections place (section.is_refused sections) ≡ option_or header (option_or own rules)
  first_is header own rules h o r =
      sym
      (ap (λ first. option_or first (option_or own rules)) h
      ∙ ap (λ first. option_or (section.header_fault sections place (section.is_refused sections)) (option_or first rules)) o
      ∙ ap (λ last. option_or (section.header_fault sections place (section.is_refused sections)) (option_or (section.own_fault (section_at sections place).lines) last)) r)

  pub by_header : (fault : SectionFault) → Some fault ≡ section.header_fault sections place (section.is_refused sections) → Err fault ≡ section.entry sections place
  by_header fault h = sym (entry_by_fault sections place (Some fault) (first_is (Some fault) _ _ h refl refl))

  pub by_own : (fault : SectionFault) → None ≡ section.header_fault sections place (section.is_refused sections) → Some fault ≡ section.own_fault (section_at sections place).lines → Err fault ≡ section.entry sections place
  by_own fault h o = sym (entry_by_fault sections place (Some fault) (first_is None (Some fault) _ h o refl))

  pub by_rules : (fault : SectionFault) → None ≡ section.header_fault sections place (section.is_refused sections) → None ≡ section.own_fault (section_at sections place).lines → Some fault ≡ section.rules_fault (resolved sections place) → Err fault ≡ section.entry sections place
  by_rules fault h o r = sym (entry_by_fault sections place (Some fault) (first_is None None (Some fault) h o r))

  module _ (h : None ≡ section.header_fault sections place (section.is_refused sections)) (o : None ≡ section.own_fault (section_at sections place).lines) (r : None ≡ section.rules_fault (resolved sections place)) where
    pub faultless : section.first_fault sections place (section.is_refused sections) ≡ None
    faultless = first_is None None None h o r

    pub by_start : section.accepted (resolved sections place) ≡ section.entry sections place
    by_start = sym (entry_by_fault sections place None faultless)
