-- What a word spells and its faults are what the function on texts says.
use Rattle.std.proofs.Common.{◌≡◌, ℕ, zero, suc, ◌+◌, ◌<◌, ◌≤◌, Bool, true, false, List, [], ◌∷◌, Ok, Err, length, nat_lt, refl, ap, sym, inl, inr, arith, length-drop}
use Rattle.std.specs.Prelude.{if◌then◌else◌}
use Rattle.std.proofs.lemmas.Bool.Decides.{nat_tests}
use Rattle.betza_text.specs.declared.fault.BetzaFault.{BetzaFault}
use Rattle.betza_text.specs.declared.part.Part.{Part}
use Rattle.betza_text.specs.SplitPart.{cut_of, cut_length, number_place, digit_place}
use Rattle.betza_text.specs.Word.{first_length, first_terms, rest_of, SpelledFrom, FaultBehind, Spells, BetzaBad}
use Rattle.variant_options.specs.BetzaWords.{parts_from, parts_of}

place-positive : (m : ℕ) (d : Bool) → 1 ≤ m + (if d then 2 else 1)
place-positive m true = omega arith
place-positive m false = omega arith

first_length-positive : (text : List ℕ) → 1 ≤ first_length text
unfolding first_length cut_length number_place digit_place
first_length-positive text = omega (arith, place-positive (cut_of text).modifiers (cut_of text).doubled)

rest-shorter : (text : List ℕ) (n : ℕ) → 0 < length text → length text ≤ suc n → length (rest_of text) ≤ n
rest-shorter text n some short = omega (arith, length-drop (first_length text) text, first_length-positive text)

spelled_from : (b : List Part) (n at before : ℕ) (text : List ℕ) → length text ≤ n → SpelledFrom at before text b → parts_from n at before text ≡ Ok b
unfolding parts_from SpelledFrom
spelled_from [] n at before [] short h = refl
spelled_from [] n at before (x ∷ xs) short h = cc
spelled_from (part ∷ parts) n at before [] short h = absurd (omega (arith, h.0))
spelled_from (part ∷ parts) zero at before (x ∷ xs) short h = absurd (omega arith)
spelled_from (part ∷ parts) (suc n) at before (x ∷ xs) short h =
    let text = x ∷ xs in
    let rest = spelled_from parts n (at + first_length text) (before + first_terms text) (rest_of text) (rest-shorter text n h.0 short) h.3 in
    rw (h.1, rest) (ap (λ p. Ok (p ∷ parts)) (sym h.2))

fault_from : (k n at before : ℕ) (text : List ℕ) (fault : BetzaFault) → length text ≤ n → FaultBehind k at before text fault → parts_from n at before text ≡ Err fault
unfolding parts_from FaultBehind
fault_from zero n at before [] fault short h = absurd (omega (arith, h.0))
fault_from (suc k) n at before [] fault short h = absurd (omega (arith, h.0))
fault_from zero zero at before (x ∷ xs) fault short h = absurd (omega arith)
fault_from (suc k) zero at before (x ∷ xs) fault short h = absurd (omega arith)
fault_from zero (suc n) at before (x ∷ xs) fault short h = rw h.1 refl
fault_from (suc k) (suc n) at before (x ∷ xs) fault short h =
    let text = x ∷ xs in
    let rest = fault_from k n (at + first_length text) (before + first_terms text) (rest_of text) fault (rest-shorter text n h.0 short) h.2 in
    rw (h.1, rest) refl

no-fault : (k at before : ℕ) (fault : BetzaFault) → FaultBehind k at before [] fault → ⊥
unfolding FaultBehind
no-fault zero at before fault h = omega (arith, h.0)
no-fault (suc k) at before fault h = omega (arith, h.0)

pub parts_of-spelled : (text : List ℕ) (b : List Part) → Spells text b → parts_of text ≡ Ok b
unfolding parts_of
parts_of-spelled [] b s = absurd (omega (arith, s.begins))
parts_of-spelled (x ∷ xs) b s =
    let short : nat_lt 64 (length (x ∷ xs)) ≡ false = grind (arith, nat_tests, s.short) in
    rw short (spelled_from b (length (x ∷ xs)) 0 0 (x ∷ xs) (omega arith) s.parts)

pub parts_of-bad : (text : List ℕ) (fault : BetzaFault) → BetzaBad text fault → parts_of text ≡ Err fault
unfolding parts_of
parts_of-bad [] fault (inl h) = rw h.1 refl
parts_of-bad (x ∷ xs) fault (inl h) = absurd (cc)
parts_of-bad [] fault (inr (inl h)) = absurd (omega (arith, h.0))
parts_of-bad (x ∷ xs) fault (inr (inl h)) =
    let long : nat_lt 64 (length (x ∷ xs)) ≡ true = grind (arith, nat_tests, h.0) in
    rw (long, h.1) refl
parts_of-bad [] fault (inr (inr h)) = absurd (no-fault h.good 0 0 fault h.first)
parts_of-bad (x ∷ xs) fault (inr (inr h)) =
    let short : nat_lt 64 (length (x ∷ xs)) ≡ false = grind (arith, nat_tests, h.short) in
    rw short (fault_from h.good (length (x ∷ xs)) 0 0 (x ∷ xs) fault (omega arith) h.first)
