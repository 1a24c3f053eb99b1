-- What is true of a session, and of what lines set.
use Rattle.std.proofs.Common.{◌≡◌, ◌∙◌, ◌==◌, ℕ, ◌<◌, List, length, Option, Some, None, Result, Ok, Err, true, inr, sym, ap, subst}
use Rattle.std.proofs.lemmas.Bool.{eqb-true}
use Rattle.std.specs.Option.{option_eq}
use Rattle.std.specs.Prelude.{codes, option_map, unwrap_or}
use Rattle.io_ports.specs.Files.{Found, Read}
use Rattle.rules_model.specs.declared.rules.Rules.{Rules}
use Rattle.game_play.specs.Played.{Played}
use Rattle.game_text.specs.GameText.{started}
use Rattle.session_model.proofs.Variants.{found_at, variant_places}
use Rattle.session_model.specs.UciState.{State, in_variant, load, loaded, set_variant, with_rules}
use Rattle.uci_front.specs.declared.refusal.Refusal.{Refusal}
use Rattle.uci_front.specs.declared.refusal.Refusal.TheVariants.{Fault, Memory}
use Rattle.uci_front.specs.Outcomes.{IsOutcome, LoadsFile, Refuses, Starts, StartsIn, variant_fault}
use Rattle.uci_front.specs.SessionView.{IsSession}
use Rattle.variant_rules.specs.declared.fault.LoadFault.{LoadFault}
use Rattle.variant_rules.specs.declared.fault.NoSections.TheVariants as no_sections
use Rattle.variant_rules.specs.Loading.{found_fault, load_fault_text, refusal, sections_with}
use Rattle.variant_rules.specs.Looked.{HasSections}
use Rattle.variant_ini.specs.OptionValue.{first_named}
use Rattle.variant_ini.specs.Section.{Section}
use Rattle.variant_model.specs.Entry.{entry}
use Rattle.variant_model.specs.declared.fault.SectionFault.{SectionFault}
use Rattle.variant_rules.specs.Entries.{Named, entries, found}

-- ---- a variant that is set

-- the place and the game of a variant that is found
pub starts_at : (sections : List Section) (name : List ℕ) (place : ℕ) (game : Played) (rules : Rules) (first : Option ℕ)
    → found (entries sections) name ≡ Some (Ok rules) → first ≡ first_named sections name → place ≡ unwrap_or first 0
    → game ≡ started rules rules.start → StartsIn sections name place game
starts_at sections name place game rules first is first_is place_is game_is =
    let (at, at_is, there, accepted) = variant_places sections name rules is in
    let same : place ≡ at = place_is ∙ ap (λ f. unwrap_or f 0) (first_is ∙ at_is) in
    record { rules = rules; found_is = is; place_is = at_is ∙ ap (λ n. Some n) (sym same); game_is = game_is }

-- a place that is said to be this one is
pub same_place : (first : Option ℕ) (place : ℕ) → option_eq ◌==◌ first (Some place) ≡ true → first ≡ Some place
same_place None place h = cc
same_place (Some at) place h = ap (λ n. Some n) (eqb-true at place h)

-- the variant that is set already, whose rules are those of the game
pub starts_again : (sections : List Section) (name : List ℕ) (place : ℕ) (rules : Rules) (game : Played)
    → first_named sections name ≡ Some place → entry sections place ≡ Ok rules → game ≡ started rules rules.start
    → StartsIn sections name place game
starts_again sections name place rules game place_is accepted game_is = record {
  rules = rules;
  found_is =
      found_at sections name ∙ ap (option_map (λ k. entry sections k)) place_is ∙ ap (λ e. Some e) accepted;
  place_is = place_is;
  game_is = game_is;
}

-- the session of a variant that is found, at the start of its game
pub session_starts : (sections : List Section) (variants : List Named) (name : List ℕ) (place : ℕ) (game : Played)
    → variants ≡ entries sections → StartsIn sections name place game → IsSession sections variants place game None
session_starts sections variants name place game judged starts =
    let (at, at_is, there, accepted) = variant_places sections name starts.rules starts.found_is in
    let same : at ≡ place = some_place at place (sym at_is ∙ starts.place_is) in
    record {
      judged = judged;
      there = subst (λ at. at < length sections) same there;
      accepted =
          subst (λ at. entry sections at ≡ Ok game.rules) same
          (accepted ∙ ap (λ g. Ok g) (sym (ap (λ (g : Played). g.rules) starts.game_is)));
      printable = tt;
    }
  where
    some_place : (a b : ℕ) → ◌≡◌ {A = Option ℕ} (Some a) (Some b) → a ≡ b
    some_place a b h = cc

-- what is set is the state of that variant
pub variant_set : {A : Type 0} (sections : List Section) (name : List ℕ) (place : ℕ) (game : Played) (old new : State) (x : A)
    → StartsIn sections name place game → new ≡ record old { sections = sections; place = place; game = game; kept = None }
    → IsOutcome (set_variant old sections name) new (Ok x)
unfolding set_variant
variant_set sections name place game old new x starts is =
    ap (in_variant old sections name) starts.found_is
    ∙ ap (λ state. Ok state)
    (ap (λ place. with_rules old sections (unwrap_or place 0) starts.rules) starts.place_is
    ∙ sym (is ∙ ap (λ game. record old { sections = sections; place = place; game = game; kept = None }) starts.game_is))

-- or its fault
pub variant_refused : (A : Type 0) (sections : List Section) (name : List ℕ) (old new : State) (why : Refusal)
    → Starts sections name (Err why) → IsOutcome {A = A} (set_variant old sections name) new (Err why)
unfolding set_variant
variant_refused A sections name old new (Fault text) h = by_found (found (entries sections) name) h
  where
    by_found : (f : Option (Result Rules SectionFault)) → variant_fault name f ≡ Some text → in_variant old sections name f ≡ Err text
    by_found None h = cc
    by_found (Some (Err fault)) h = cc
    by_found (Some (Ok rules)) h = cc
variant_refused A sections name old new Memory h = tt

-- ---- a file of variants

fault_of_file : (f : Found) (fault : LoadFault) → refusal f ≡ Some fault → found_fault f ≡ Some (load_fault_text fault)
fault_of_file f fault h = ap (option_map load_fault_text) h

-- chess of what was found is set
pub file_taken : {A : Type 0} (name : List ℕ) (old new : State) (sections : List Section) (reads : List Read) (result : Result A Refusal)
    → HasSections name reads (Ok sections) → IsOutcome (set_variant old sections (codes "chess")) new result
    → LoadsFile name old new reads result
unfolding load
file_taken {A = A} name old new sections reads result has set = by_result result set
  where
    load_is : load old has.found ≡ set_variant old sections (codes "chess")
    load_is =
        ap (loaded old (sections_with has.found)) (ap (option_map load_fault_text) has.holds.0)
        ∙ ap (λ sections. set_variant old sections (codes "chess")) (sym has.holds.1)

    by_result : (result : Result A Refusal) → IsOutcome (set_variant old sections (codes "chess")) new result
        → LoadsFile name old new reads result
    by_result (Ok x) set = record { found = has.found; reads_are = has.reads_are; holds = load_is ∙ set }
    by_result (Err (Fault text)) set = record { found = has.found; reads_are = has.reads_are; holds = load_is ∙ set }
    by_result (Err Memory) set = inr (record { found = has.found; reads_are = has.reads_are; holds = tt })

-- it is refused
pub file_refused : (A : Type 0) (name : List ℕ) (old new : State) (fault : LoadFault) (reads : List Read) (why : Refusal)
    → HasSections name reads (Err (no_sections.Fault fault)) → Refuses (load_fault_text fault) why
    → LoadsFile {A = A} name old new reads (Err why)
unfolding load
file_refused A name old new fault reads (Fault text) has is = record {
  found = has.found;
  reads_are = has.reads_are;
  holds =
      ap (loaded old (sections_with has.found)) (fault_of_file has.found fault has.holds) ∙ ap (λ text. Err text) (sym is);
}
file_refused A name old new fault reads Memory has is =
    inr (record { found = has.found; reads_are = has.reads_are; holds = tt })
