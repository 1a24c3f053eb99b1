-- Every text spells a word or has a fault, and there is one such answer: by going from part to part.
use Rattle.std.proofs.Common.{◌≡◌, ℕ, zero, suc, ◌+◌, ◌<◌, ◌≤◌, Option, Some, None, List, [], ◌∷◌, length, length-drop, refl, sym, ◌∙◌, ap, ◌⊎◌, inl, inr, arith, Bool, true, false}
use Rattle.std.proofs.lemmas.Bool.{cases_lt}
use Rattle.betza_text.specs.declared.part.Part.{Part}
use Rattle.betza_text.specs.declared.fault.BetzaFault.{BetzaFault}
use Rattle.betza_text.specs.declared.fault.BetzaFault.TheVariants.{Empty, TooLong}
use Rattle.betza_text.specs.SplitPart.{cut_length, cut_of, number_place, digit_place}
use Rattle.betza_text.specs.PartFault.{part_fault}
use Rattle.betza_text.specs.Word.{Spells, BetzaBad, SpelledFrom, FaultBehind, first_part, first_length, first_terms, rest_of}

none_some : {o : Option BetzaFault} {f : BetzaFault} → o ≡ None → o ≡ Some f → ⊥
none_some e h = cc

some_same : {f g : BetzaFault} → Some f ≡ Some g → f ≡ g
some_same e = cc

place_some : (m : ℕ) (d : Bool) → 1 ≤ digit_place m d
unfolding digit_place
place_some m true = omega arith
place_some m false = omega arith

-- a part has a byte or more
pub first_length-some : (text : List ℕ) → 1 ≤ first_length text
unfolding first_length cut_length number_place
first_length-some text = omega (arith, place_some (cut_of text).modifiers (cut_of text).doubled)

-- what the text at this place has for an answer
abbrev Answer : ℕ → ℕ → List ℕ → Type 0
Answer at before text =
    ((b : List Part) × SpelledFrom at before text b) ⊎ ((f : BetzaFault) × (k : ℕ) × FaultBehind k at before text f)

answer_more : (at before : ℕ) (text : List ℕ) (r : Option BetzaFault) → part_fault at before text ≡ r → 0 < length text → Answer (at + first_length text) (before + first_terms text) (rest_of text) → Answer at before text
unfolding SpelledFrom FaultBehind
answer_more at before text (Some f) e l a = inr (f, zero, (l, e))
answer_more at before text None e l (inl a) = inl (first_part text ∷ a.0, (l, e, refl, a.1))
answer_more at before text None e l (inr a) = inr (a.0, suc a.1, (l, e, a.2))

answers : (fuel at before : ℕ) (text : List ℕ) → length text ≤ fuel → Answer at before text
unfolding SpelledFrom
answers zero at before [] h = inl ([], refl)
answers zero at before (x ∷ xs) h = absurd (omega (arith, h))
answers (suc fuel) at before [] h = inl ([], refl)
answers (suc fuel) at before (x ∷ xs) h =
    let text : List ℕ = x ∷ xs in
    let shorter : length (rest_of text) ≤ fuel = omega (arith, length-drop (first_length text) text, first_length-some text, h) in
    answer_more at before text (part_fault at before text) refl (omega arith) (answers fuel (at + first_length text) (before + first_terms text) (rest_of text) shorter)

pub word_or_fault : (text : List ℕ) → ((b : List Part) × Spells text b) ⊎ ((f : BetzaFault) × BetzaBad text f)
word_or_fault [] = inr (Empty 0, inl (refl, refl))
word_or_fault (x ∷ xs) =
    let text : List ℕ = x ∷ xs in
    elim (cases_lt 64 (length text)) [
      | inl more ↦ inr (TooLong 64, inr (inl (more, refl)))
      | inr few ↦ elim (answers (length text) 0 0 text (omega arith)) [
        | inl a ↦ inl (a.0, record { begins = omega arith; short = few; parts = a.1 })
        | inr a ↦ inr (a.0, inr (inr (record { short = few; good = a.1; first = a.2 })))
      ]
    ]

begun : (k at before : ℕ) (text : List ℕ) (f : BetzaFault) → FaultBehind k at before text f → 0 < length text
unfolding FaultBehind
begun zero at before text f s = s.0
begun (suc k) at before text f s = s.0

apart : (b : List Part) (k at before : ℕ) (text : List ℕ) (f : BetzaFault) → SpelledFrom at before text b → FaultBehind k at before text f → ⊥
unfolding SpelledFrom FaultBehind
apart [] k at before text f s t = omega (arith, ap length s, begun k at before text f t)
apart (p ∷ ps) zero at before text f s t = none_some (s.1) (t.1)
apart (p ∷ ps) (suc k) at before text f s t = apart ps k _ _ _ f s.3 t.2

-- no text is both
pub not_both : (text : List ℕ) (b : List Part) (f : BetzaFault) → Spells text b → BetzaBad text f → ⊥
not_both text b f s (inl e) = omega (arith, ap length e.0, s.begins)
not_both text b f s (inr (inl e)) = omega (arith, e.0, s.short)
not_both text b f s (inr (inr e)) = apart b e.good 0 0 text f s.parts e.first

same_parts : (b c : List Part) (at before : ℕ) (text : List ℕ) → SpelledFrom at before text b → SpelledFrom at before text c → b ≡ c
unfolding SpelledFrom
same_parts [] [] at before text s t = refl
same_parts [] (q ∷ qs) at before text s t = absurd (omega (arith, ap length s, t.0))
same_parts (p ∷ ps) [] at before text s t = absurd (omega (arith, ap length t, s.0))
same_parts (p ∷ ps) (q ∷ qs) at before text s t =
    let heads : p ≡ q = s.2 ∙ sym t.2 in
    let tails : ps ≡ qs = same_parts ps qs _ _ _ s.3 t.3 in
    cc

-- a text spells one word at most
pub one_word : (text : List ℕ) (b c : List Part) → Spells text b → Spells text c → b ≡ c
one_word text b c s t = same_parts b c 0 0 text s.parts t.parts

same_fault : (j k at before : ℕ) (text : List ℕ) (f g : BetzaFault) → FaultBehind j at before text f → FaultBehind k at before text g → f ≡ g
unfolding FaultBehind
same_fault zero zero at before text f g s t = some_same (sym s.1 ∙ t.1)
same_fault zero (suc k) at before text f g s t = absurd (none_some t.1 s.1)
same_fault (suc j) zero at before text f g s t = absurd (none_some s.1 t.1)
same_fault (suc j) (suc k) at before text f g s t = same_fault j k _ _ _ f g s.2 t.2

-- and has one fault at most
pub one_fault : (text : List ℕ) (f g : BetzaFault) → BetzaBad text f → BetzaBad text g → f ≡ g
one_fault text f g (inl a) (inl b) = a.1 ∙ sym b.1
one_fault text f g (inl a) (inr (inl b)) = absurd (omega (arith, ap length a.0, b.0))
one_fault text f g (inl a) (inr (inr b)) = absurd (omega (arith, ap length a.0, begun b.good 0 0 text g b.first))
one_fault text f g (inr (inl a)) (inl b) = absurd (omega (arith, ap length b.0, a.0))
one_fault text f g (inr (inl a)) (inr (inl b)) = a.1 ∙ sym b.1
one_fault text f g (inr (inl a)) (inr (inr b)) = absurd (omega (arith, a.0, b.short))
one_fault text f g (inr (inr a)) (inl b) = absurd (omega (arith, ap length b.0, begun a.good 0 0 text f a.first))
one_fault text f g (inr (inr a)) (inr (inl b)) = absurd (omega (arith, b.0, a.short))
one_fault text f g (inr (inr a)) (inr (inr b)) = same_fault a.good b.good 0 0 text f g a.first b.first
