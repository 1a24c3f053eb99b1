-- What `generate` says.
use Rattle.std.proofs.Common.{◌≡◌, ◌⊎◌, ℕ, List, Option, Some, None, Ok, Err, inl, inr, refl, sym, ◌∙◌, subst}
use Rattle.std.specs.declared.result.Result.{Result}
use Rattle.game_text.specs.Fault.{fault_text}
use Rattle.game_text.specs.declared.fault.GameFault.TheVariants.{UnknownVariant, RefusedVariant}
use Rattle.rules_model.specs.declared.rules.Rules.{Rules}
use Rattle.one_shots.specs.Generate.{SaysGenerate, SaysGenerated, generated, generated_text}
use Rattle.variant_ini.specs.Section.{Section}
use Rattle.variant_model.specs.declared.fault.SectionFault.{SectionFault}
use Rattle.variant_rules.specs.Entries.{entries, found}
use Rattle.one_shot_checks.specs.declared.no_answer.NoAnswer.{NoAnswer}
use Rattle.one_shot_checks.specs.Fault.{error_line}
use Rattle.one_shot_checks.specs.NoAnswerView.{Answers}

module _ (name : List ℕ) (number plies : ℕ) where
  some_of : (o : Option (Result Rules SectionFault)) → (status : ℕ) × (text : List ℕ) × SaysGenerated name number plies o status text
  some_of None = (3, error_line (fault_text (UnknownVariant name)), (refl, refl))
  some_of (Some (Err why)) = (3, error_line (fault_text (RefusedVariant why)), (refl, refl))
  some_of (Some (Ok rules)) = (0, generated_text name number (generated rules number plies), (refl, refl))

  done_of : (o : Option (Result Rules SectionFault)) (status : ℕ) (text : List ℕ) → SaysGenerated name number plies o status text → (status ≡ 0) ⊎ (status ≡ 3)
  done_of None status text says = inr says.0
  done_of (Some (Err why)) status text says = inr says.0
  done_of (Some (Ok rules)) status text says = inl says.0

  once_of : (o : Option (Result Rules SectionFault)) (s s' : ℕ) (t t' : List ℕ) → SaysGenerated name number plies o s t → SaysGenerated name number plies o s' t' → (s ≡ s') × (t ≡ t')
  once_of None s s' t t' says says' = (says.0 ∙ sym says'.0, says.1 ∙ sym says'.1)
  once_of (Some (Err why)) s s' t t' says says' = (says.0 ∙ sym says'.0, says.1 ∙ sym says'.1)
  once_of (Some (Ok rules)) s s' t t' says says' = (says.0 ∙ sym says'.0, says.1 ∙ sym says'.1)

module _ (sections : List Section) (name : List ℕ) (number plies : ℕ) where
  -- it has some answer
  pub generate_some : (status : ℕ) × (text : List ℕ) × SaysGenerate sections name number plies status text
  unfolding SaysGenerate
  generate_some = some_of name number plies (found (entries sections) name)

  -- with one of two statuses
  pub generate_done : (status : ℕ) (text : List ℕ) → SaysGenerate sections name number plies status text → (status ≡ 0) ⊎ (status ≡ 3)
  unfolding SaysGenerate
  generate_done status text says = done_of name number plies (found (entries sections) name) status text says

  -- and no other
  pub generate_once : (s s' : ℕ) (t t' : List ℕ) → SaysGenerate sections name number plies s t → SaysGenerate sections name number plies s' t' → (s ≡ s') × (t ≡ t')
  unfolding SaysGenerate
  generate_once s s' t t' says says' = once_of name number plies (found (entries sections) name) s s' t t' says says'

  -- by what is found of the name
  pub generate_says : (r : Result (List ℕ) NoAnswer) (o : Option (Result Rules SectionFault)) → o ≡ found (entries sections) name → Answers r (SaysGenerated name number plies o) → Answers r (SaysGenerate sections name number plies)
  unfolding SaysGenerate
  generate_says r o is says = subst (λ (x : Option (Result Rules SectionFault)). Answers r (SaysGenerated name number plies x)) is says
