-- The entry of the section of the rules.
use Rattle.std.proofs.Common.{◌≡◌, ℕ, ◌<◌, List, [], ◌∷◌, Some, Result, length, refl, sym, ap, ◌∙◌, subst, arith}
use Rattle.std.specs.Prelude.{codes, slice_get}
use Rattle.std.proofs.lemmas.Option.{get_or_from_slice_get, slice_get_within}
use Rattle.std.specs.Borrow.{Bor}
use Rattle.rules_model.specs.declared.rules.Rules.{Rules}
use Rattle.variant_ini.specs.declared.key_line.KeyLine.{KeyLine}
use Rattle.variant_ini.specs.Lone.{lone_section}
use Rattle.variant_ini.specs.Section.{Section}
use Rattle.variant_model.specs.Entry.{entry}
use Rattle.variant_model.specs.declared.fault.SectionFault.{SectionFault}
use Rattle.variant_rules.specs.Entries.{Named, entries, entries_before, entry_at, named_at, no_named}
use Rattle.variant_rules.specs.View.{lent, lent_named}
use Rattle.variant_rules.proofs.EntryLemmas.{length_before, made_above}
use Rattle.proof_text.specs.Reading.{rules_of}

abbrev sections : List KeyLine → List Section
sections pairs = lone_section (codes "proof") pairs ∷ []

one_entry : (pairs : List KeyLine) → entries (sections pairs) ≡ named_at (sections pairs) 0 ∷ []
unfolding entries_before
one_entry pairs = refl

-- there is one
pub entry-there : (pairs : List KeyLine) (variants : List Named) → variants ≡ entries (sections pairs) → 0 < length variants
entry-there pairs variants are = subst (λ vs. 0 < length vs) (sym (are ∙ one_entry pairs)) (omega arith)

same_named : (a b : Named) → Some a ≡ Some b → a ≡ b
same_named a b is = cc

-- which is that of the rules
pub entry-first : (pairs : List KeyLine) (variants : List Named) (found : Bor (List ℕ) × Result (Bor Rules) (Bor SectionFault)) → variants ≡ entries (sections pairs) → slice_get variants 0 ≡ Some (lent_named found)
    → lent found.1 ≡ rules_of pairs
unfolding rules_of
entry-first pairs variants found are is =
    let first : Some (named_at (sections pairs) 0) ≡ Some (lent_named found) = ap (λ vs. slice_get vs 0) (sym (are ∙ one_entry pairs)) ∙ is in
    ap (λ (n : Named). n.entry) (sym (same_named (named_at (sections pairs) 0) (lent_named found) first))

-- ---- the entry of a section

abbrev Found : Type 0
Found = Bor (List ℕ) × Result (Bor Rules) (Bor SectionFault)

pub found-within : (sections : List Section) (place : ℕ) (variants : List Named) (found : Found)
    → variants ≡ entries sections → slice_get variants place ≡ Some (lent_named found) → place < length sections
found-within sections place variants found are is =
    let below = slice_get_within variants place (lent_named found) is in
    omega (arith, below, ap length are, length_before sections (length sections))

-- what is found at a place is the entry of the section there
pub entry-found : (sections : List Section) (place : ℕ) (variants : List Named) (found : Found)
    → variants ≡ entries sections → slice_get variants place ≡ Some (lent_named found)
    → lent found.1 ≡ entry sections place
entry-found sections place variants found are is =
    ap (λ (n : Named). n.entry) (sym (get_or_from_slice_get variants place (lent_named found) no_named is))
    ∙ ap (λ vs. entry_at vs place) are
    ∙ made_above sections (length sections) place (found-within sections place variants found are is)
