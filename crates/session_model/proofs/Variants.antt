-- The place of a variant among its sections, and chess as the first.
use Rattle.std.proofs.Common.{◌≡◌, ◌∙◌, ℕ, suc, ◌+◌, ◌<◌, List, [], ◌∷◌, ◌++◌, length, map, Bool, true, false, Option, Some, None, Result, Ok, Err, is_ok, refl, sym, ap, subst, arith, append_assoc, length-append}
use Rattle.std.specs.Prelude.{bytes_eq, codes, if◌then◌else◌}
use Rattle.std.specs.List.{find, range_with_len}
use Rattle.std.specs.Option.{option_map}
use Rattle.rules_model.specs.declared.rules.Rules.{Rules}
use Rattle.variant_ini.specs.OptionValue.{first_named}
use Rattle.variant_ini.specs.Section.{Section, section_at}
use Rattle.variant_model.specs.Builtin.{builtin_sections}
use Rattle.variant_model.specs.Entry.{entry}
use Rattle.variant_model.specs.declared.fault.SectionFault.{SectionFault}
use Rattle.variant_rules.specs.Entries.{Named, entries, entries_before, entry_of, found, has_name, named_at}
use Rattle.session_model.proofs.Chess.{chess_accepted}
use Rattle.session_model.specs.Begins.{rules_said}
use Rattle.session_model.specs.CecpState as Cecp
use Rattle.session_model.specs.Laws.{ChessIsFirst, SessionsBegin, VariantPlaces}
use Rattle.session_model.specs.UciState as Uci

-- ---- places

section_here : (done rest : List Section) (section : Section) → section_at (done ++ section ∷ rest) (length done) ≡ section
section_here [] rest section = refl
section_here (other ∷ done) rest section = section_here done rest section

named_by : (sections : List Section) (place : ℕ) (later : Option Named) (b : Bool) (first : Option ℕ)
    → later ≡ option_map (λ k. named_at sections (place + 1 + k)) first
    → (if b then Some (named_at sections place) else later) ≡ option_map (λ k. named_at sections (place + k)) (if b then Some 0 else option_map suc first)
named_by sections place later true first h = ap (λ k. Some (named_at sections k)) (omega arith)
named_by sections place later false None h = h
named_by sections place later false (Some k) h = h ∙ ap (λ k. Some (named_at sections k)) (omega arith)

-- the first entry of a name is that at the place of the first section of the name
first_entry : (done rest : List Section) (name : List ℕ)
    → find (has_name name) (map (named_at (done ++ rest)) (range_with_len (length done) (length rest)))
    ≡ option_map (λ k. named_at (done ++ rest) (length done + k)) (first_named rest name)
unfolding first_named
first_entry done [] name = refl
first_entry done (section ∷ rest) name =
    let sections = done ++ section ∷ rest in
    let here : section_at sections (length done) ≡ section = section_here done rest section in
    let joined : (done ++ section ∷ []) ++ rest ≡ sections = append_assoc done (section ∷ []) rest in
    let count : length (done ++ section ∷ []) ≡ length done + 1 = length-append done (section ∷ []) in
    let later : find (has_name name) (map (named_at sections) (range_with_len (length done + 1) (length rest)))
    ≡ option_map (λ k. named_at sections (length done + 1 + k)) (first_named rest name) =
    subst (λ l. find (has_name name) (map (named_at l) (range_with_len (length done + 1) (length rest))) ≡ option_map (λ k. named_at l (length done + 1 + k)) (first_named rest name)) joined
    (subst (λ n. find (has_name name) (map (named_at ((done ++ section ∷ []) ++ rest)) (range_with_len n (length rest))) ≡ option_map (λ k. named_at ((done ++ section ∷ []) ++ rest) (n + k)) (first_named rest name)) count
    (first_entry (done ++ section ∷ []) rest name)) in
    subst (λ (s : Section). find (has_name name) (map (named_at sections) (range_with_len (length done) (suc (length rest))))
    ≡ option_map (λ k. named_at sections (length done + k)) (if bytes_eq s.name name then Some 0 else option_map suc (first_named rest name))) here
    (named_by sections (length done) _ (bytes_eq (section_at sections (length done)).name name) (first_named rest name) later)

-- what is found of a name is the entry at the place of the first section of the name
pub found_at : (sections : List Section) (name : List ℕ)
    → found (entries sections) name ≡ option_map (λ k. entry sections k) (first_named sections name)
unfolding found entries_before
found_at sections name = ap (option_map entry_of) (first_entry [] sections name) ∙ twice (first_named sections name)
  where
    twice : (place : Option ℕ) → option_map entry_of (option_map (λ k. named_at sections (0 + k)) place) ≡ option_map (λ k. entry sections k) place
    twice None = refl
    twice (Some k) = let none : 0 + k ≡ k = omega arith in ap (λ n. Some (entry sections n)) none

place_below : (sections : List Section) (name : List ℕ) (place : ℕ) → first_named sections name ≡ Some place → place < length sections
unfolding first_named
place_below [] name place h = cc
place_below (section ∷ sections) name place h = by_name (bytes_eq section.name name) (first_named sections name) (place_below sections name) h
  where
    by_name : (b : Bool) (first : Option ℕ) → ((k : ℕ) → first ≡ Some k → k < length sections)
        → (if b then Some 0 else option_map suc first) ≡ Some place → place < suc (length sections)
    by_name true first below h = let is : 0 ≡ place = cc in omega (arith, is)
    by_name false None below h = cc
    by_name false (Some k) below h = let less = below k refl in let is : suc k ≡ place = cc in omega (arith, is, less)

pub variant_places : VariantPlaces
variant_places sections name rules h = by_place (first_named sections name) refl (sym (found_at sections name) ∙ h)
  where
    by_place : (first : Option ℕ) → first_named sections name ≡ first → option_map (λ k. entry sections k) first ≡ Some (Ok rules)
        → (place : ℕ) × (first_named sections name ≡ Some place) × (place < length sections) × (entry sections place ≡ Ok rules)
    by_place None is h = cc
    by_place (Some place) is h = let same : entry sections place ≡ Ok rules = cc in (place, is, place_below sections name place is, same)

-- ---- chess

rules_in : (entry : Result Rules SectionFault) → is_ok entry ≡ true → (rules : Rules) × (entry ≡ Ok rules)
rules_in (Ok rules) h = (rules, refl)
rules_in (Err fault) h = cc

pub chess_is_first : ChessIsFirst
chess_is_first more =
    let (accepted, first) = chess_accepted more in
    let (rules, is) = rules_in (entry (builtin_sections ++ more) 0) accepted in
    (rules, found_at (builtin_sections ++ more) (codes "chess") ∙ ap (option_map (λ k. entry (builtin_sections ++ more) k)) first ∙ ap Some is, first, is)

pub sessions_begin : SessionsBegin
unfolding Uci.first_state Cecp.first_state
sessions_begin more threads =
    let (rules, found_is, first, is) = chess_is_first more in (
      Uci.state_by (builtin_sections ++ more) threads rules,
      Cecp.state_by (builtin_sections ++ more) rules,
      ap (λ f. option_map (Uci.state_by (builtin_sections ++ more) threads) (rules_said f)) found_is,
      ap (λ f. option_map (Cecp.state_by (builtin_sections ++ more)) (rules_said f)) found_is,
    )
