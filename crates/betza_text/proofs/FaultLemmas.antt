-- The first fault of the modifiers, one by one.
use Rattle.std.proofs.Common.{◌≡◌, ℕ, zero, suc, ◌+◌, ◌<◌, ◌≤◌, Option, Some, None, List, refl, arith, add-one, inl, inr, Bool, true, false, not, if◌then◌else◌, length}
use Rattle.std.specs.Option.{option_or}
use Rattle.std.proofs.lemmas.Bool.{cases_lt, ltb-false}
use Rattle.betza_text.specs.declared.fault.BetzaFault.{BetzaFault}
use Rattle.betza_text.specs.declared.fault.BetzaFault.TheVariants.{UnknownAtom, AmbiguousDirection, BadLame, BadHopper, BadNumber, TooManyTerms}
use Rattle.betza_text.specs.declared.split_part.SplitPart.{SplitPart}
use Rattle.betza_text.specs.declared.part.Part.{Part}
use Rattle.betza_text.specs.SplitPart.{part_of, number_place, direction_place, place_of}
use Rattle.std.specs.Prelude.{nat_lt}
use Rattle.betza_text.specs.Letters.{is_atom}
use Rattle.betza_text.specs.Steps.{steps_of, shape_of, is_clear}
use Rattle.betza_text.specs.PartFault.{modifier_fault, modifiers_fault, is_bad_count, is_bad_lame, is_bad_hopper, hopper_place, atom_fault, cut_fault}

pub modifiers_fault-zero : (at : ℕ) (modifiers : List ℕ) → modifiers_fault at modifiers 0 ≡ None
unfolding modifiers_fault
modifiers_fault-zero at modifiers = refl

pub modifiers_fault-next : (at : ℕ) (modifiers : List ℕ) (k : ℕ) → modifiers_fault at modifiers k ≡ None → modifier_fault at modifiers k ≡ None → modifiers_fault at modifiers (k + 1) ≡ None
unfolding modifiers_fault
modifiers_fault-next at modifiers k h e = rw (add-one, h) e

found_suc : (at : ℕ) (modifiers : List ℕ) (k : ℕ) (f : BetzaFault) → modifiers_fault at modifiers k ≡ None → modifier_fault at modifiers k ≡ Some f → modifiers_fault at modifiers (suc k) ≡ Some f
unfolding modifiers_fault
found_suc at modifiers k f h e = rw h e

kept : (at : ℕ) (modifiers : List ℕ) (k : ℕ) (f : BetzaFault) → modifiers_fault at modifiers k ≡ Some f → modifiers_fault at modifiers (suc k) ≡ Some f
unfolding modifiers_fault
kept at modifiers k f h = rw h

kept_on : (at : ℕ) (modifiers : List ℕ) (n k : ℕ) (f : BetzaFault) → modifiers_fault at modifiers k ≡ Some f → k ≤ n → modifiers_fault at modifiers n ≡ Some f
kept_on at modifiers zero k f h l = let e : k ≡ 0 = omega (arith, l) in rw e at h
kept_on at modifiers (suc n) k f h l = elim (cases_lt n k) [
  | inl less ↦ let e : k ≡ suc n = omega (arith, l, less) in rw e at h
  | inr more ↦ kept at modifiers n f (kept_on at modifiers n k f h more)
]

-- the first that has one
pub modifiers_fault-found : (at : ℕ) (modifiers : List ℕ) (k n : ℕ) (f : BetzaFault) → k < n → modifiers_fault at modifiers k ≡ None → modifier_fault at modifiers k ≡ Some f → modifiers_fault at modifiers n ≡ Some f
modifiers_fault-found at modifiers k n f l h e =
    kept_on at modifiers n (suc k) f (found_suc at modifiers k f h e) (omega (arith, l))

-- where all have none, what follows is the first
pub ruleset faults = (modifiers_fault-zero, modifiers_fault-next, modifiers_fault-found)

tail_none : (x y : Option BetzaFault) → option_or x y ≡ None → y ≡ None
tail_none None y h = h
tail_none (Some f) y h = cc

last : (b : Bool) (f : BetzaFault) → (if b then Some f else None) ≡ None → b ≡ false
last true f h = cc
last false f h = refl

-- none of the causes holds, and the last not either
last_none : (a b d e g : Bool) (n : ℕ) (f1 f2 f3 f4 f5 f6 : BetzaFault) → (if a then Some f1 else if b then Some f2 else if d then Some f3 else if e then Some f4 else if g then Some f5 else if nat_lt 64 n then Some f6 else None) ≡ None → n ≤ 64
last_none true b d e g n f1 f2 f3 f4 f5 f6 h = cc
last_none false true d e g n f1 f2 f3 f4 f5 f6 h = cc
last_none false false true e g n f1 f2 f3 f4 f5 f6 h = cc
last_none false false false true g n f1 f2 f3 f4 f5 f6 h = cc
last_none false false false false true n f1 f2 f3 f4 f5 f6 h = cc
last_none false false false false false n f1 f2 f3 f4 f5 f6 h = ltb-false 64 n (last (nat_lt 64 n) f6 h)

atoms_few : (at before : ℕ) (text modifiers : List ℕ) (cut : SplitPart) (part : Part) → atom_fault at before text modifiers cut part ≡ None → before + length (steps_of part) ≤ 64
unfolding atom_fault
atoms_few at before text modifiers cut part h =
    last_none (not (is_atom part.atom)) (is_bad_count text cut) (not (is_clear (shape_of part.atom) part.dirs)) (is_bad_lame part) (is_bad_hopper modifiers part) (before + length (steps_of part))
    (UnknownAtom (at + cut.modifiers)) (BadNumber (at + number_place cut)) (AmbiguousDirection (at + direction_place modifiers)) (BadLame (at + place_of 110 modifiers)) (BadHopper (at + hopper_place modifiers)) (TooManyTerms (at + cut.modifiers)) h

-- a part without a fault brings the terms to 64 at most
pub terms_few : (at before : ℕ) (text : List ℕ) (cut : SplitPart) → cut_fault at before text cut ≡ None → before + length (steps_of (part_of text cut)) ≤ 64
unfolding cut_fault
terms_few at before text cut h = atoms_few at before text _ cut (part_of text cut) (tail_none _ _ h)
