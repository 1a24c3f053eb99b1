-- The terms of every Betza word fit.
use Rattle.std.proofs.Common.{◌≡◌, ℕ, zero, suc, ◌+◌, ◌<◌, ◌≤◌, min, max, Bool, true, false, not, ◌&&◌, ◌||◌, ◌==◌, nat_lt, nat_le, nat_abs, pos, List, [], ◌∷◌, Option, Some, None, Result, Ok, Err, is_some, map, filter, length, refl, sym, subst, ◌∙◌, arith, inl, inr}
use Rattle.std.specs.Prelude.{if◌then◌else◌, slice_index}
use Rattle.std.specs.List.{list_all}
use Rattle.std.proofs.lemmas.Bool.{and_parts, and_from, or_cases}
use Rattle.std.proofs.lemmas.Bool.Decides.{nat_tests, Decides-eqb}
use Rattle.std.proofs.lemmas.List.Folds.{list_all-append}
use Rattle.rules_model.specs.declared.rules.Way.TheVariants.{Lame}
use Rattle.rules_model.specs.Fit.{is_within, is_lame_step, fits_way, fits_term}
use Rattle.betza_text.specs.declared.split_part.SplitPart.{SplitPart}
use Rattle.betza_text.specs.declared.fault.BetzaFault.{BetzaFault}
use Rattle.betza_text.specs.declared.part.HopKind.{HopKind}
use Rattle.betza_text.specs.declared.part.HopKind.TheVariants.{No, Over, Behind}
use Rattle.betza_text.specs.declared.part.Part.{Part}
use Rattle.betza_text.specs.declared.steps.Step.{Step}
use Rattle.betza_text.specs.declared.steps.Shape.{Shape}
use Rattle.betza_text.specs.declared.steps.Shape.TheVariants.{Orthogonal, Diagonal, Oblique, Royal, Nothing}
use Rattle.betza_text.specs.declared.fault.BetzaFault.TheVariants.{AmbiguousDirection, BadHopper, BadLame, BadNumber, TooManyTerms, UnknownAtom}
use Rattle.betza_text.specs.Letters.{is_atom}
use Rattle.betza_text.specs.SplitPart.{cut_of, direction_place, has, place_of, is_bad_number, modifiers_of, number_place, number_said, number_value, part_of}
use Rattle.betza_text.specs.PartFault.{atom_fault, cut_fault, hopper_place, is_bad_count, is_bad_hopper, is_bad_lame, modifiers_fault, part_fault}
use Rattle.betza_text.specs.Steps.{all_steps, can_be_lame, is_clear, is_far, is_rider, picks, shape_of, steps_of}
use Rattle.betza_text.specs.Word.{first_length, first_part, first_terms, rest_of}
use Rattle.betza_compile.specs.Terms.{limit_of, limit_with, term_of, terms, terms_of_part, way_of, way_with}
use Rattle.variant_options.specs.BetzaWords.{parts_from, parts_of, terms_of_parts, unless_bad, with_part}
use Rattle.variant_model.specs.PieceRules.{or_no_terms, word_terms}
use Rattle.variant_model.proofs.ListLemmas.{no_either, not_some}

-- ---- choices

pub either_way : {X : Type 0} (P : X → Type 0) (b : Bool) (x y : X) → P x → P y → P (if b then x else y)
either_way P true x y p q = p
either_way P false x y p q = q

pub no_first : {X : Type 0} (b : Bool) (x : X) (rest : Option X) → (if b then Some x else rest) ≡ None → (b ≡ false) × (rest ≡ None)
no_first true x rest e = cc
no_first false x rest e = (refl, e)

pub all_filtered : {X : Type 0} (p q : X → Bool) (xs : List X) → list_all p xs ≡ true → list_all p (filter q xs) ≡ true
all_filtered p q [] h = refl
all_filtered p q (x ∷ xs) h =
    let parts = and_parts (p x) (list_all p xs) h in
    either_way (λ ys. list_all p ys ≡ true) (q x) (x ∷ filter q xs) (filter q xs)
    (and_from (p x) (list_all p (filter q xs)) parts.0 (all_filtered p q xs parts.1)) (all_filtered p q xs parts.1)

-- ---- steps

-- a step of at most three squares each way, and not none
abbrev step_fits : Step → Bool
step_fits s = is_within s.dx && is_within s.dy && nat_lt 0 (nat_abs s.dx + nat_abs s.dy)

abbrev lame_fits : Step → Bool
lame_fits s = is_lame_step (max (nat_abs s.dx) (nat_abs s.dy)) (min (nat_abs s.dx) (nat_abs s.dy))

abbrev AllStepsFit : Shape → Type 0
AllStepsFit shape = list_all step_fits (all_steps shape) ≡ true

shapes_fit : (atom : ℕ) → AllStepsFit (shape_of atom)
unfolding shape_of
shapes_fit atom =
    either_way AllStepsFit (atom == 87 || atom == 82) (Orthogonal (pos 1)) _ refl
    (either_way AllStepsFit (atom == 68) (Orthogonal (pos 2)) _ refl
    (either_way AllStepsFit (atom == 72) (Orthogonal (pos 3)) _ refl
    (either_way AllStepsFit (atom == 70 || atom == 66) (Diagonal (pos 1)) _ refl
    (either_way AllStepsFit (atom == 65) (Diagonal (pos 2)) _ refl
    (either_way AllStepsFit (atom == 71) (Diagonal (pos 3)) _ refl
    (either_way AllStepsFit (atom == 78) (Oblique (pos 2) (pos 1)) _ refl
    (either_way AllStepsFit (atom == 76 || atom == 67) (Oblique (pos 3) (pos 1)) _ refl
    (either_way AllStepsFit (atom == 74 || atom == 90) (Oblique (pos 3) (pos 2)) _ refl
    (either_way AllStepsFit (atom == 75 || atom == 81) Royal Nothing refl refl)))))))))

-- the atoms that may be lame
abbrev is_lame_atom : ℕ → Bool
is_lame_atom atom = atom == 78 || atom == 65 || atom == 68 || atom == 72 || atom == 71

lame_atoms : (P : ℕ → Type 0) → P 78 → P 65 → P 68 → P 72 → P 71 → (atom : ℕ) → is_lame_atom atom ≡ true → P atom
lame_atoms P n a d h g atom e =
    elim (or_cases (atom == 78 || atom == 65 || atom == 68 || atom == 72) (atom == 71) e) as (λ _. P atom) [
      | inr i ↦ subst P (sym ((Decides-eqb atom 71).0 i)) g
      | inl r ↦ elim (or_cases (atom == 78 || atom == 65 || atom == 68) (atom == 72) r) as (λ _. P atom) [
        | inr i ↦ subst P (sym ((Decides-eqb atom 72).0 i)) h
        | inl q ↦ elim (or_cases (atom == 78 || atom == 65) (atom == 68) q) as (λ _. P atom) [
          | inr i ↦ subst P (sym ((Decides-eqb atom 68).0 i)) d
          | inl p ↦ elim (or_cases (atom == 78) (atom == 65) p) as (λ _. P atom) [
            | inr i ↦ subst P (sym ((Decides-eqb atom 65).0 i)) a
            | inl i ↦ subst P (sym ((Decides-eqb atom 78).0 i)) n
          ]
        ]
      ]
    ]

-- what may be lame goes one of the steps that may be, once
abbrev LameAtomFits : ℕ → Type 0
LameAtomFits atom = (list_all lame_fits (all_steps (shape_of atom)) ≡ true) × (is_rider atom ≡ false)

lame_atom_fits : (atom : ℕ) → is_lame_atom atom ≡ true → LameAtomFits atom
unfolding shape_of
lame_atom_fits atom e = lame_atoms LameAtomFits (refl, refl) (refl, refl) (refl, refl) (refl, refl) (refl, refl) atom e

-- ---- parts

-- a part without a fault: its number is at most 11, it moves or takes, and what is lame may be
record IsGoodPart (part : Part) : Type 0 where
  number : (n : ℕ) → part.number ≡ Some n → n ≤ 11
  purpose : (part.quiet || part.takes) ≡ true
  lame : part.lame ≡ true → can_be_lame part ≡ true

-- what a lame part is
record IsLame (part : Part) : Type 0 where
  steps : list_all lame_fits (all_steps (shape_of part.atom)) ≡ true
  number : is_some part.number ≡ false
  far : is_far part ≡ false

not_far : (rider doubled numbered : Bool) → rider ≡ false → (not doubled) ≡ true → (not numbered) ≡ true → (rider || doubled || numbered) ≡ false
not_far false false false a b c = refl
not_far false true numbered a b c = cc
not_far false false true a b c = cc
not_far true doubled numbered a b c = cc

not_so : (b : Bool) → not b ≡ true → b ≡ false
not_so true e = cc
not_so false e = refl

lame_is : (part : Part) → can_be_lame part ≡ true → IsLame part
unfolding can_be_lame is_far
lame_is part e =
    let first = and_parts (is_lame_atom part.atom && not part.doubled) (not (is_some part.number)) e in
    let rest = and_parts (is_lame_atom part.atom) (not part.doubled) first.0 in
    let atom = lame_atom_fits part.atom rest.0 in
    record {
      steps = atom.0;
      number = not_so (is_some part.number) first.1;
      far = not_far (is_rider part.atom) part.doubled (is_some part.number) atom.1 rest.1 first.1;
    }

limit_said : (n : ℕ) (none : Bool) → (n == 0) ≡ none → n ≤ 11 → (1 ≤ (if none then 11 else n)) × ((if none then 11 else n) ≤ 11)
limit_said n true e most = (omega arith, omega arith)
limit_said n false e most = let least : 0 < n = grind (arith, nat_tests, e) in (omega arith, most)

limit_fits : (number : Option ℕ) (far : Bool) → ((n : ℕ) → number ≡ Some n → n ≤ 11) → (1 ≤ limit_with number far) × (limit_with number far ≤ 11)
limit_fits None true h = (omega arith, omega arith)
limit_fits None false h = (omega arith, omega arith)
limit_fits (Some n) far h = limit_said n (n == 0) refl (h n refl)

far_by_number : (rider doubled : Bool) (number : Option ℕ) → (rider || doubled || is_some number) ≡ false → number ≡ None
far_by_number true doubled number e = cc
far_by_number false true number e = cc
far_by_number false false None e = refl
far_by_number false false (Some n) e = cc

way_fits : (lame : Bool) (hop : HopKind) (number : Option ℕ) (far : Bool) (long short : ℕ) → (lame ≡ true → (number ≡ None) × (far ≡ false) × (is_lame_step long short ≡ true)) → (far ≡ false → number ≡ None) → fits_way (if lame then Lame else way_with hop far) (limit_with number far) long short ≡ true
way_fits true hop number far long short h n = let l = h refl in rw (l.0, l.1) l.2
way_fits false No number true long short h n = refl
way_fits false No number false long short h n = rw (n refl) refl
way_fits false Over number far long short h n = refl
way_fits false Behind number far long short h n = refl

le_true : (a b : ℕ) → a ≤ b → nat_le a b ≡ true
le_true a b h = grind (arith, nat_tests, h)

far_none : (part : Part) → is_far part ≡ false → part.number ≡ None
unfolding is_far
far_none part e = far_by_number (is_rider part.atom) part.doubled part.number e

term_fits : (part : Part) (s : Step) → IsGoodPart part → step_fits s ≡ true → (part.lame ≡ true → lame_fits s ≡ true) → fits_term (term_of part s) ≡ true
unfolding fits_term way_of limit_of
term_fits part s good fits lame =
    let limit = limit_fits part.number (is_far part) good.number in
    let way =
    way_fits part.lame part.hop part.number (is_far part) (max (nat_abs s.dx) (nat_abs s.dy)) (min (nat_abs s.dx) (nat_abs s.dy))
    (λ e. let l = lame_is part (good.lame e) in (not_some part.number l.number, l.far, lame e)) (far_none part) in
    and_from _ _ (and_from _ _ (and_from _ _ (and_from _ _ fits (le_true _ _ limit.0)) (le_true _ _ limit.1)) way) good.purpose

terms_fit : (part : Part) (steps : List Step) → IsGoodPart part → list_all step_fits steps ≡ true → (part.lame ≡ true → list_all lame_fits steps ≡ true) → list_all fits_term (map (term_of part) steps) ≡ true
terms_fit part [] good fits lame = refl
terms_fit part (s ∷ steps) good fits lame =
    let f = and_parts (step_fits s) (list_all step_fits steps) fits in
    let here : part.lame ≡ true → lame_fits s ≡ true = λ e. (and_parts (lame_fits s) (list_all lame_fits steps) (lame e)).0 in
    let rest : part.lame ≡ true → list_all lame_fits steps ≡ true = λ e. (and_parts (lame_fits s) (list_all lame_fits steps) (lame e)).1 in
    and_from _ _ (term_fits part s good f.0 here) (terms_fit part steps good f.1 rest)

part_fits : (part : Part) → IsGoodPart part → list_all fits_term (terms_of_part part) ≡ true
unfolding steps_of
part_fits part good =
    terms_fit part (filter (picks (shape_of part.atom) part.dirs) (all_steps (shape_of part.atom))) good
    (all_filtered step_fits (picks (shape_of part.atom) part.dirs) (all_steps (shape_of part.atom)) (shapes_fit part.atom))
    (λ e. let l = lame_is part (good.lame e) in all_filtered lame_fits (picks (shape_of part.atom) part.dirs) (all_steps (shape_of part.atom)) l.steps)

-- ---- a part without a fault

moves_or_takes : (m c : Bool) → ((m || not c) || (c || not m)) ≡ true
moves_or_takes true c = refl
moves_or_takes false true = refl
moves_or_takes false false = refl

good_number : (zero a b c : Bool) (value n : ℕ) → c ≡ nat_lt 11 value → (if zero || (not zero && (a || b || c)) then None else Some value) ≡ Some n → n ≤ 11
good_number true a b c value n e h = cc
good_number false true b c value n e h = cc
good_number false false true c value n e h = cc
good_number false false false true value n e h = cc
good_number false false false false value n e h =
    let same : value ≡ n = cc in
    let below : nat_lt 11 value ≡ false = sym e in
    grind (arith, nat_tests, same, below)

number_fits : (count first second n : ℕ) → number_said count first second ≡ Some n → n ≤ 11
unfolding number_said is_bad_number
number_fits count first second n e =
    good_number (count == 0) (nat_lt 2 count) (count == 2 && first == 48) (nat_lt 11 (number_value count first second)) (number_value count first second) n refl e

lame_may : (lame may : Bool) → (lame && not may) ≡ false → lame ≡ true → may ≡ true
lame_may true true e h = refl
lame_may true false e h = cc
lame_may false may e h = cc

not_bad_lame : (part : Part) → is_bad_lame part ≡ false → part.lame ≡ true → can_be_lame part ≡ true
unfolding is_bad_lame
not_bad_lame part e = lame_may part.lame (can_be_lame part) e

fourth_none : {X : Type 0} (a b c d : Bool) (w x y z : X) (rest : Option X) → (if a then Some w else if b then Some x else if c then Some y else if d then Some z else rest) ≡ None → d ≡ false
fourth_none true b c d w x y z rest e = cc
fourth_none false true c d w x y z rest e = cc
fourth_none false false true d w x y z rest e = cc
fourth_none false false false true w x y z rest e = cc
fourth_none false false false false w x y z rest e = refl

no_bad_lame : (at before : ℕ) (text modifiers : List ℕ) (cut : SplitPart) (part : Part) → atom_fault at before text modifiers cut part ≡ None → is_bad_lame part ≡ false
unfolding atom_fault
no_bad_lame at before text modifiers cut part e =
    fourth_none (not (is_atom part.atom)) (is_bad_count text cut) (not (is_clear (shape_of part.atom) part.dirs)) (is_bad_lame part)
    (UnknownAtom (at + cut.modifiers)) (BadNumber (at + number_place cut)) (AmbiguousDirection (at + direction_place modifiers)) (BadLame (at + place_of 110 modifiers))
    (if is_bad_hopper modifiers part then Some (BadHopper (at + hopper_place modifiers)) else if nat_lt 64 (before + length (steps_of part)) then Some (TooManyTerms (at + cut.modifiers)) else None) e

part_good : (text : List ℕ) (cut : SplitPart) → is_bad_lame (part_of text cut) ≡ false → IsGoodPart (part_of text cut)
unfolding part_of
part_good text cut bad = record {
  number = λ n e. number_fits cut.digits (slice_index text (number_place cut)) (slice_index text (number_place cut + 1)) n e;
  purpose = moves_or_takes (has 109 (modifiers_of text cut)) (has 99 (modifiers_of text cut));
  lame = not_bad_lame (part_of text cut) bad;
}

first_good : (at before : ℕ) (text : List ℕ) → part_fault at before text ≡ None → IsGoodPart (first_part text)
unfolding part_fault cut_fault first_part
first_good at before text e =
    part_good text (cut_of text)
    (no_bad_lame at before text (modifiers_of text (cut_of text)) (cut_of text) (part_of text (cut_of text))
    (no_either (modifiers_fault at (modifiers_of text (cut_of text)) (length (modifiers_of text (cut_of text)))) _ e).1)

-- ---- words

abbrev PartsFit : Result (List Part) BetzaFault → Type 0
PartsFit (Ok parts) = list_all fits_term (terms parts) ≡ true
PartsFit (Err fault) = Unit {0}

one_more : (fault : Option BetzaFault) (part : Part) (rest : Result (List Part) BetzaFault) → (fault ≡ None → list_all fits_term (terms_of_part part) ≡ true) → PartsFit rest → PartsFit (unless_bad fault (with_part part rest))
one_more (Some fault) part rest h r = tt
one_more None part (Err fault) h r = tt
one_more None part (Ok parts) h r =
    list_all-append fits_term (terms_of_part part) (terms parts) ∙ and_from _ _ (h refl) r

parts_from_fit : (n at before : ℕ) (text : List ℕ) → PartsFit (parts_from n at before text)
unfolding parts_from
parts_from_fit zero at before [] = refl
parts_from_fit (suc n) at before [] = refl
parts_from_fit zero at before (b ∷ bs) = tt
parts_from_fit (suc n) at before (b ∷ bs) =
    one_more (part_fault at before (b ∷ bs)) (first_part (b ∷ bs)) _
    (λ e. part_fits (first_part (b ∷ bs)) (first_good at before (b ∷ bs) e))
    (parts_from_fit n (at + first_length (b ∷ bs)) (before + first_terms (b ∷ bs)) (rest_of (b ∷ bs)))

parts_of_fit : (text : List ℕ) → PartsFit (parts_of text)
unfolding parts_of
parts_of_fit [] = tt
parts_of_fit (b ∷ bs) =
    either_way PartsFit (nat_lt 64 (length (b ∷ bs))) _ _ tt (parts_from_fit (length (b ∷ bs)) 0 0 (b ∷ bs))

read_fit : (parts : Result (List Part) BetzaFault) → PartsFit parts → list_all fits_term (or_no_terms (terms_of_parts parts)) ≡ true
read_fit (Ok parts) h = h
read_fit (Err fault) h = refl

-- the terms of a word, or of none
pub word_terms_fit : (word : Option (List ℕ)) → list_all fits_term (word_terms word) ≡ true
word_terms_fit None = refl
word_terms_fit (Some word) = read_fit (parts_of word) (parts_of_fit word)
