-- One more part.
use Rattle.std.proofs.Common.{◌≡◌, ℕ, ◌+◌, ◌<◌, List, [], ◌∷◌, ◌++◌, length, get_or, take, drop, ap, sym, ◌∙◌, append-nil, refl}
use Rattle.std.proofs.lemmas.List.{at_drop_more, take_more, length-map}
use Rattle.std.proofs.lemmas.Grind.{flat_map-append}
use Rattle.betza_text.specs.declared.part.Part.{Part}
use Rattle.betza_text.specs.Steps.{steps_of, step_count}
use Rattle.betza_compile.specs.Terms.{terms, terms_of_part}

count_cons : (p : Part) (b : List Part) → step_count (p ∷ b) ≡ length (steps_of p) + step_count b
unfolding step_count
count_cons p b = refl

-- what is left has the steps of the next part and those after it
pub count_next : (b : List Part) (i : ℕ) (p : Part) → i < length b → p ≡ get_or b i p → length (steps_of p) + step_count (drop (i + 1) b) ≡ step_count (drop i b)
count_next b i p h is = ap (λ q. length (steps_of q) + step_count (drop (i + 1) b)) is ∙ sym (at_drop_more step_count b i p h ∙ count_cons _ _)

-- the terms so far and those of the next part
pub terms_next : (b : List Part) (i : ℕ) (p : Part) → i < length b → p ≡ get_or b i p → terms (take i b) ++ terms_of_part p ≡ terms (take (i + 1) b)
terms_next b i p h is =
    ap (λ q. terms (take i b) ++ terms_of_part q) is ∙ sym (ap terms (take_more b i p h) ∙ flat_map-append terms_of_part (take i b) (get_or b i p ∷ []) ∙ ap (λ l. terms (take i b) ++ l) (append-nil _))

pub length-terms_of_part : (p : Part) → length (terms_of_part p) ≡ length (steps_of p)
length-terms_of_part p = simp length-map
