-- What is answered to a line that asks no search.
use Rattle.std.proofs.Common.{◌≡◌, ◌∙◌, ◌⊎◌, inl, inr, ℕ, List, [], ◌∷◌, ◌++◌, Option, Some, None, Result, Ok, Err, refl, sym, ap, subst}
use Rattle.std.specs.Prelude.{IfOk, OnErr}
use Rattle.std.proofs.lemmas.List.{append-nil}
use Rattle.io_ports.specs.declared.dialect.Dialect.{Dialect}
use Rattle.io_ports.specs.Files.{Found, Read}
use Rattle.session_model.specs.Turns.{Turn}
use Rattle.session_model.specs.UciLines as line
use Rattle.session_model.specs.UciLines.{Setting}
use Rattle.session_model.specs.UciSession.{IsPlain, JustSays, Loads, LoadsFrom, Sets, SetsOption}
use Rattle.session_model.specs.UciState.{State, Outcome, file_named, load, set}
use Rattle.uci_front.specs.declared.refusal.Refusal.{Refusal}
use Rattle.uci_front.specs.declared.refusal.Refusal.TheVariants.{Fault, Memory}
use Rattle.uci_front.specs.Outcomes.{IsOutcome, LoadsFile, SetsBy}
use Rattle.uci_front.specs.Plain.{IsNamedRead, IsTold, Plainly, file_of, outcome_said, plain_events, saying, text_said}
use Rattle.variant_rules.specs.Looked.{OneRead}
use Rattle.watching.specs.Events.{Event, Says, Opens, heard_lines, opened, readings, written}

-- ---- what such events take and leave

pub plain_lines : (reads : List Read) (text : Option (List ℕ)) → heard_lines (plain_events reads text) ≡ []
plain_lines [] None = refl
plain_lines [] (Some text) = refl
plain_lines (read ∷ reads) text = plain_lines reads text

pub plain_readings : (reads : List Read) (text : Option (List ℕ)) → readings (plain_events reads text) ≡ []
plain_readings [] None = refl
plain_readings [] (Some text) = refl
plain_readings (read ∷ reads) text = plain_readings reads text

pub plain_opened : (reads : List Read) (text : Option (List ℕ)) → opened (plain_events reads text) ≡ reads
plain_opened [] None = refl
plain_opened [] (Some text) = refl
plain_opened (read ∷ reads) text = ap (λ more. read ∷ more) (plain_opened reads text)

pub plain_written : (dialect : Dialect) (reads : List Read) (text : Option (List ℕ))
    → written dialect (plain_events reads text) ≡ text_said text
plain_written dialect [] None = refl
plain_written dialect [] (Some text) = append-nil text
plain_written dialect (read ∷ reads) text = plain_written dialect reads text

-- ---- what a line sets

-- a text is said, and the state stays
pub just_says : (turn : Turn State) (state : State) (text said : List ℕ) → text ≡ said → turn.after ≡ state
    → turn.events ≡ Says text ∷ [] → JustSays turn state said
just_says turn state text said is after events =
    record { after_is = after; events_are = events ∙ ap (λ t. Says t ∷ []) is }

-- nothing is said
pub just_is : (turn : Turn State) (state after : State) → after ≡ state → turn.after ≡ after → turn.events ≡ []
    → IsPlain turn state []
just_is turn state after is stays events = record { after_is = stays ∙ is; events_are = events }

-- what is set, or its fault
pub sets_said : {A : Type 0} (said : Outcome) (old new : State) (outcome : Result A Refusal) (text : Option (List ℕ))
    (before : List Event) → IsOutcome said new outcome → OnErr outcome (new ≡ old) → text ≡ outcome_said outcome
    → IsTold outcome → (turn : Turn State) → turn.after ≡ new → turn.events ≡ before ++ saying text
    → Sets turn old before said
sets_said said old new (Ok x) text before is same text_is told turn after events =
    subst (λ s. Sets turn old before s) (sym is) (record {
      after_is = after;
      events_are = events ∙ ap (λ t. before ++ saying t) text_is ∙ append-nil before;
    })
sets_said said old new (Err (Fault fault)) text before is same text_is told turn after events =
    subst (λ s. Sets turn old before s) (sym is) (record {
      after_is = after ∙ same;
      events_are = events ∙ ap (λ t. before ++ saying t) text_is;
    })
sets_said said old new (Err Memory) text before is same text_is told turn after events = absurd told

-- of a file that was read
pub loads_said : {A : Type 0} (name : List ℕ) (old new : State) (reads : List Read) (outcome : Result A Refusal)
    (text : Option (List ℕ)) → LoadsFile name old new reads outcome → OnErr outcome (new ≡ old)
    → text ≡ outcome_said outcome → IsTold outcome → (turn : Turn State) → turn.after ≡ new
    → turn.events ≡ plain_events reads text → Loads turn old name
loads_said {A = A} name old new reads (Ok x) text loads same text_is told turn after events = record {
  found = loads.found;
  sets =
      let before = Opens (record { name = name; found = loads.found }) ∷ [] in
      sets_said {A = A} (load old loads.found) old new (Ok x) text before loads.holds same text_is told turn after
      (events ∙ ap (λ reads. plain_events reads text) loads.reads_are);
}
loads_said {A = A} name old new reads (Err (Fault fault)) text loads same text_is told turn after events = record {
  found = loads.found;
  sets =
      let before = Opens (record { name = name; found = loads.found }) ∷ [] in
      sets_said {A = A} (load old loads.found) old new (Err (Fault fault)) text before loads.holds same text_is told turn after
      (events ∙ ap (λ reads. plain_events reads text) loads.reads_are);
}
loads_said name old new reads (Err Memory) text loads same text_is told turn after events = absurd told

-- by the file that the setting names, where it names one
by_file : {A : Type 0} (value file : Option (List ℕ)) (old new : State) (reads : List Read) (outcome : Result A Refusal)
    (text : Option (List ℕ)) → SetsBy file old new (line.VariantPath value) reads outcome → OnErr outcome (new ≡ old)
    → text ≡ outcome_said outcome → IsTold outcome → (turn : Turn State) → turn.after ≡ new
    → turn.events ≡ plain_events reads text → LoadsFrom turn old (line.VariantPath value) file
by_file value None old new reads outcome text sets same text_is told turn after events =
    sets_said (set old (line.VariantPath value)) old new outcome text [] sets.1 same text_is told turn after
    (events ∙ ap (λ reads. plain_events reads text) sets.0)
by_file value (Some name) old new reads outcome text sets same text_is told turn after events =
    loads_said name old new reads outcome text sets same text_is told turn after events

without_file : {A : Type 0} (setting : Setting) (old new : State) (reads : List Read) (outcome : Result A Refusal)
    (text : Option (List ℕ)) → SetsBy None old new setting reads outcome → OnErr outcome (new ≡ old)
    → text ≡ outcome_said outcome → IsTold outcome → (turn : Turn State) → turn.after ≡ new
    → turn.events ≡ plain_events reads text → Sets turn old [] (set old setting)
without_file setting old new reads outcome text sets same text_is told turn after events =
    sets_said (set old setting) old new outcome text [] sets.1 same text_is told turn after
    (events ∙ ap (λ reads. plain_events reads text) sets.0)

pub option_said : {A : Type 0} (setting : Setting) (old new : State) (reads : List Read) (outcome : Result A Refusal)
    (text : Option (List ℕ)) → SetsBy (file_of setting) old new setting reads outcome → OnErr outcome (new ≡ old)
    → text ≡ outcome_said outcome → IsTold outcome → (turn : Turn State) → turn.after ≡ new
    → turn.events ≡ plain_events reads text → SetsOption turn old setting
option_said (line.VariantPath value) = by_file value (file_named value)
option_said (line.Threads value) = without_file (line.Threads value)
option_said (line.Hash value) = without_file (line.Hash value)
option_said (line.MateFacts value) = without_file (line.MateFacts value)
option_said (line.Variant value) = without_file (line.Variant value)
option_said line.Unknown = without_file line.Unknown

-- ---- what was read

one_named : (value : Option (List ℕ)) (name : List ℕ) (reads : List Read) (Holds : Found → Type 0)
    → file_named value ≡ Some name → OneRead name reads Holds → IsNamedRead (line.SetOption (line.VariantPath value)) reads
one_named value name reads Holds named one = (value, name, one.found, refl, named, one.reads_are)

named_by : {A : Type 0} (value file : Option (List ℕ)) (old new : State) (reads : List Read) (outcome : Result A Refusal)
    → file_named value ≡ file → SetsBy file old new (line.VariantPath value) reads outcome
    → (reads ≡ []) ⊎ IsNamedRead (line.SetOption (line.VariantPath value)) reads
named_by value None old new reads outcome named sets = inl sets.0
named_by value (Some name) old new reads (Ok x) named sets = inr (one_named value name reads _ named sets)
named_by value (Some name) old new reads (Err (Fault fault)) named sets = inr (one_named value name reads _ named sets)
named_by value (Some name) old new reads (Err Memory) named (inl none) = inl none
named_by value (Some name) old new reads (Err Memory) named (inr one) = inr (one_named value name reads _ named one)

-- a file was read that the setting names, or none was
pub option_read : {A : Type 0} (setting : Setting) (old new : State) (reads : List Read) (outcome : Result A Refusal)
    → SetsBy (file_of setting) old new setting reads outcome
    → (reads ≡ []) ⊎ IsNamedRead (line.SetOption setting) reads
option_read (line.VariantPath value) old new reads outcome sets =
    named_by value (file_named value) old new reads outcome refl sets
option_read (line.Threads value) old new reads outcome sets = inl sets.0
option_read (line.Hash value) old new reads outcome sets = inl sets.0
option_read (line.MateFacts value) old new reads outcome sets = inl sets.0
option_read (line.Variant value) old new reads outcome sets = inl sets.0
option_read line.Unknown old new reads outcome sets = inl sets.0

-- what is answered to the setting of some words
pub option_answered : {A E : Type 0} (setting said : Setting) (old new : State) (reads : List Read) (outcome : Result A Refusal)
    (result : Result (Option (List ℕ)) E) → setting ≡ said → SetsBy (file_of setting) old new setting reads outcome
    → OnErr outcome (new ≡ old) → IfOk result (λ text. (text ≡ outcome_said outcome) × IsTold outcome)
    → Plainly old new (line.SetOption said) reads result
option_answered setting said old new reads outcome (Ok text) same sets refused told = λ turn following after events.
    subst (λ s. SetsOption turn old s) same
    (option_said setting old new reads outcome text sets refused told.0 told.1 turn after events)
option_answered setting said old new reads outcome (Err why) same sets refused told =
    subst (λ s. (reads ≡ []) ⊎ IsNamedRead (line.SetOption s) reads) same (option_read setting old new reads outcome sets)
