-- One part more.
use Rattle.std.proofs.Common.{◌≡◌, ℕ, suc, ◌+◌, ◌-◌, take, ◌<◌, ◌≤◌, Option, Some, None, List, [], ◌∷◌, ◌++◌, length, drop, length-drop, sym, ◌∙◌, ap, subst, arith}
use Rattle.std.proofs.lemmas.List.{drop-drop, drop_all, take_all}
use Rattle.betza_text.specs.declared.split_part.SplitPart.{SplitPart}
use Rattle.betza_text.specs.declared.part.Part.{Part}
use Rattle.betza_text.specs.declared.fault.BetzaFault.{BetzaFault}
use Rattle.betza_text.specs.SplitPart.{cut_of, cut_length, part_of}
use Rattle.betza_text.specs.Steps.{steps_of, step_count}
use Rattle.betza_text.specs.PartFault.{part_fault, cut_fault}
use Rattle.betza_text.specs.Word.{SpelledFrom, FaultBehind, first_part, first_length, first_terms, rest_of}

-- what the reader knows of the part at this place: where it is cut, what it says, how long it is and how many terms it has
pub record IsFirst (text : List ℕ) (cut : SplitPart) (part : Part) (n m : ℕ) : Type 0 where
  pub cut_is : cut ≡ cut_of text
  pub says : part ≡ part_of text cut
  pub long : n ≡ cut_length cut
  pub terms : m ≡ length (steps_of part)

pub first_fault-is : (at before : ℕ) (text : List ℕ) (cut : SplitPart) (r : Option BetzaFault) → cut ≡ cut_of text → r ≡ cut_fault at before text cut → part_fault at before text ≡ r
unfolding part_fault
first_fault-is at before text cut r e h = sym (h ∙ ap (λ c. cut_fault at before text c) e)

part_is : (text : List ℕ) (cut : SplitPart) (part : Part) (n m : ℕ) → IsFirst text cut part n m → part ≡ first_part text
unfolding first_part
part_is text cut part n m i = i.says ∙ ap (λ c. part_of text c) i.cut_is

length_is : (text : List ℕ) (cut : SplitPart) (part : Part) (n m : ℕ) → IsFirst text cut part n m → n ≡ first_length text
unfolding first_length
length_is text cut part n m i = i.long ∙ ap cut_length i.cut_is

terms_is : (text : List ℕ) (cut : SplitPart) (part : Part) (n m : ℕ) → IsFirst text cut part n m → m ≡ first_terms text
unfolding first_terms
terms_is text cut part n m i = i.terms ∙ ap (λ p. length (steps_of p)) (part_is text cut part n m i)

rest_is : (text : List ℕ) (at n : ℕ) → n ≡ first_length (drop at text) → drop (at + n) text ≡ rest_of (drop at text)
rest_is text at n e = sym (drop-drop n at text) ∙ ap (λ k. drop k (drop at text)) e

-- the part and those behind it
pub spelled_next : (text : List ℕ) (at before : ℕ) (cut : SplitPart) (part : Part) (n m : ℕ) (b : List Part) → at < length text → IsFirst (drop at text) cut part n m → part_fault at before (drop at text) ≡ None → SpelledFrom (at + n) (before + m) (drop (at + n) text) b → SpelledFrom at before (drop at text) (part ∷ b)
unfolding SpelledFrom
spelled_next text at before cut part n m b l i e s =
    let some : 0 < length (drop at text) = omega (arith, length-drop at text) in
    let long : n ≡ first_length (drop at text) = length_is _ cut part n m i in
    let terms : m ≡ first_terms (drop at text) = terms_is _ cut part n m i in
    let moved : SpelledFrom (at + n) (before + m) (rest_of (drop at text)) b = subst (λ t. SpelledFrom (at + n) (before + m) t b) (rest_is text at n long) s in
    let counted : SpelledFrom (at + n) (before + first_terms (drop at text)) (rest_of (drop at text)) b = subst (λ k. SpelledFrom (at + n) (before + k) (rest_of (drop at text)) b) terms moved in
    (some, e, part_is _ cut part n m i, subst (λ k. SpelledFrom (at + k) (before + first_terms (drop at text)) (rest_of (drop at text)) b) long counted)

-- the fault of a part behind it
pub fault_next : (text : List ℕ) (at before : ℕ) (cut : SplitPart) (part : Part) (n m k : ℕ) (f : BetzaFault) → at < length text → IsFirst (drop at text) cut part n m → part_fault at before (drop at text) ≡ None → FaultBehind k (at + n) (before + m) (drop (at + n) text) f → FaultBehind (suc k) at before (drop at text) f
unfolding FaultBehind
fault_next text at before cut part n m k f l i e s =
    let some : 0 < length (drop at text) = omega (arith, length-drop at text) in
    let long : n ≡ first_length (drop at text) = length_is _ cut part n m i in
    let terms : m ≡ first_terms (drop at text) = terms_is _ cut part n m i in
    let moved : FaultBehind k (at + n) (before + m) (rest_of (drop at text)) f = subst (λ t. FaultBehind k (at + n) (before + m) t f) (rest_is text at n long) s in
    let counted : FaultBehind k (at + n) (before + first_terms (drop at text)) (rest_of (drop at text)) f = subst (λ j. FaultBehind k (at + n) (before + j) (rest_of (drop at text)) f) terms moved in
    (some, e, subst (λ j. FaultBehind k (at + j) (before + first_terms (drop at text)) (rest_of (drop at text)) f) long counted)

-- its own fault
pub fault_here : (text : List ℕ) (at before : ℕ) (f : BetzaFault) → at < length text → part_fault at before (drop at text) ≡ Some f → FaultBehind 0 at before (drop at text) f
unfolding FaultBehind
fault_here text at before f l e = (omega (arith, length-drop at text), e)

-- nothing is left
pub spelled_end : (text : List ℕ) (at before : ℕ) → length text ≤ at → SpelledFrom at before (drop at text) []
unfolding SpelledFrom
spelled_end text at before l = drop_all at text l

pub step_count-more : (b : List Part) (p : Part) → step_count (b ++ p ∷ []) ≡ step_count b + length (steps_of p)
unfolding step_count
step_count-more [] p = omega arith
step_count-more (q ∷ b) p = omega (arith, step_count-more b p)

-- what is left of the text, as the code takes it
pub tail-is : (text : List ℕ) (at : ℕ) → take (length text - at) (drop at text) ≡ drop at text
tail-is text at = take_all (length text - at) (drop at text) (omega (arith, length-drop at text))
