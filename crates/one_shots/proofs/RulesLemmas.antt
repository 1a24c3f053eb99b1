-- What `rules` says.
use Rattle.std.proofs.Common.{◌≡◌, ◌⊎◌, ◌<◌, ◌∙◌, ℕ, List, length, Option, Some, None, Ok, Err, arith, inl, inr, refl, sym, subst}
use Rattle.std.specs.declared.result.Result.{Result}
use Rattle.rules_model.specs.declared.rules.Rules.{Rules}
use Rattle.variant_ini.specs.OptionValue.{first_named}
use Rattle.variant_ini.specs.Section.{Section}
use Rattle.variant_model.specs.Entry.{entry}
use Rattle.variant_model.specs.declared.fault.SectionFault.{SectionFault}
use Rattle.variant_rules.specs.Entries.{entries, found}
use Rattle.proof_text.specs.Writing.{section_text}
use Rattle.game_text.specs.Fault.{fault_text}
use Rattle.game_text.specs.declared.fault.GameFault.TheVariants.{UnknownVariant, RefusedVariant}
use Rattle.session_model.proofs.Variants.{variant_places}
use Rattle.session_model.specs.Laws.{VariantPlaces}
use Rattle.one_shot_checks.specs.declared.no_answer.NoAnswer.{NoAnswer}
use Rattle.one_shot_checks.specs.Fault.{error_line}
use Rattle.one_shot_checks.specs.NoAnswerView.{Answers}
use Rattle.one_shots.specs.RulesTold.{SaysRules, SaysTold}

-- ---- exactly one answer

module _ (sections : List Section) (name : List ℕ) where
  -- a variant that is found has a place
  placed : (rules : Rules) → found (entries sections) name ≡ Some (Ok rules)
      → (place : ℕ) × (first_named sections name ≡ Some place)
  placed rules is = let (place, place_is, there, accepted) = variant_places sections name rules is in (place, place_is)

  some_of : (o : Option (Result Rules SectionFault)) (first : Option ℕ)
      → ((rules : Rules) → o ≡ Some (Ok rules) → (place : ℕ) × (first ≡ Some place))
      → (status : ℕ) × (text : List ℕ) × SaysTold sections name o first status text
  some_of None first there = (3, error_line (fault_text (UnknownVariant name)), (refl, refl))
  some_of (Some (Err why)) first there = (3, error_line (fault_text (RefusedVariant why)), (refl, refl))
  some_of (Some (Ok rules)) None there =
      let (place, none) = there rules refl in absurd (cc)
  some_of (Some (Ok rules)) (Some place) there = (0, section_text sections place, (refl, refl))

  done_of : (o : Option (Result Rules SectionFault)) (first : Option ℕ) (status : ℕ) (text : List ℕ)
      → SaysTold sections name o first status text → (status ≡ 0) ⊎ (status ≡ 3)
  done_of None first status text says = inr says.0
  done_of (Some (Err why)) first status text says = inr says.0
  done_of (Some (Ok rules)) None status text says = absurd says
  done_of (Some (Ok rules)) (Some place) status text says = inl says.0

  once_of : (o : Option (Result Rules SectionFault)) (first : Option ℕ) (s s' : ℕ) (t t' : List ℕ)
      → SaysTold sections name o first s t → SaysTold sections name o first s' t' → (s ≡ s') × (t ≡ t')
  once_of None first s s' t t' says says' = (says.0 ∙ sym says'.0, says.1 ∙ sym says'.1)
  once_of (Some (Err why)) first s s' t t' says says' = (says.0 ∙ sym says'.0, says.1 ∙ sym says'.1)
  once_of (Some (Ok rules)) None s s' t t' says says' = absurd says
  once_of (Some (Ok rules)) (Some place) s s' t t' says says' = (says.0 ∙ sym says'.0, says.1 ∙ sym says'.1)

  pub rules_some : (status : ℕ) × (text : List ℕ) × SaysRules sections name status text
  unfolding SaysRules
  rules_some = some_of (found (entries sections) name) (first_named sections name) placed

  pub rules_done : (status : ℕ) (text : List ℕ) → SaysRules sections name status text → (status ≡ 0) ⊎ (status ≡ 3)
  unfolding SaysRules
  rules_done status text says = done_of (found (entries sections) name) (first_named sections name) status text says

  pub rules_once : (s s' : ℕ) (t t' : List ℕ) → SaysRules sections name s t → SaysRules sections name s' t'
      → (s ≡ s') × (t ≡ t')
  unfolding SaysRules
  rules_once s s' t t' says says' =
      once_of (found (entries sections) name) (first_named sections name) s s' t t' says says'

  -- ---- by what is found of the name

  pub rules_says : (r : Result (List ℕ) NoAnswer) (o : Option (Result Rules SectionFault)) → o ≡ found (entries sections) name
      → Answers r (SaysTold sections name o (first_named sections name)) → Answers r (SaysRules sections name)
  unfolding SaysRules
  rules_says r o is says =
      subst (λ (x : Option (Result Rules SectionFault)). Answers r (SaysTold sections name x (first_named sections name))) is says

  -- the lines of the section at the place
  pub told_at : (o : Option (Result Rules SectionFault)) (rules : Rules) (first : Option ℕ) (place : ℕ) (text : List ℕ)
      → o ≡ Some (Ok rules) → first ≡ Some place → text ≡ section_text sections place
      → SaysTold sections name o first 0 text
  told_at o rules first place text o_is first_is is = rw (o_is, first_is) (refl, is)

  -- the place of a variant that is found is that of a section
  pub place_within : (rules : Rules) (place : ℕ) → VariantPlaces → Some (Ok rules) ≡ found (entries sections) name
      → first_named sections name ≡ Some place → place < length sections
  place_within rules place places is place_is =
      let (at, at_is, there, accepted) = places sections name rules (sym is) in
      let same : at ≡ place = cc in
      subst (λ (k : ℕ). k < length sections) same there

  -- and there is one
  pub some_place : (rules : Rules) → VariantPlaces → Some (Ok rules) ≡ found (entries sections) name
      → first_named sections name ≡ None → ⊥
  some_place rules places is none = let (at, at_is, there, accepted) = places sections name rules (sym is) in cc

  -- ---- what is told without a fault

  parts_of : (o : Option (Result Rules SectionFault)) (first : Option ℕ) (text : List ℕ)
      → SaysTold sections name o first 0 text
      → (rules : Rules) × (place : ℕ) × (o ≡ Some (Ok rules)) × (first ≡ Some place) × (text ≡ section_text sections place)
  parts_of None first text says = let no = says.0 in absurd (omega (arith, no))
  parts_of (Some (Err why)) first text says = let no = says.0 in absurd (omega (arith, no))
  parts_of (Some (Ok rules)) None text says = absurd says
  parts_of (Some (Ok rules)) (Some place) text says = (rules, place, refl, refl, says.1)

  pub told_parts : (text : List ℕ) → SaysRules sections name 0 text
      → (rules : Rules) × (place : ℕ) × (found (entries sections) name ≡ Some (Ok rules))
      × (first_named sections name ≡ Some place) × (entry sections place ≡ Ok rules) × (text ≡ section_text sections place)
  unfolding SaysRules
  told_parts text says =
      let (rules, place, found_is, place_is, text_is) = parts_of (found (entries sections) name) (first_named sections name) text says in
      let (at, at_is, there, accepted) = variant_places sections name rules found_is in
      let same : at ≡ place = cc in
      (rules, place, found_is, place_is, subst (λ (k : ℕ). entry sections k ≡ Ok rules) same accepted, text_is)
