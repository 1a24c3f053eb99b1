-- The parents of a section that stands alone.
use Rattle.std.proofs.Common.{◌≡◌, ℕ, zero, suc, ◌<◌, List, [], ◌∷◌, ◌++◌, Option, None, length, refl, sym, ap, ◌∙◌, subst, arith}
use Rattle.std.specs.Prelude.{slice_index_or}
use Rattle.variant_ini.specs.declared.key_line.KeyLine.{KeyLine}
use Rattle.variant_ini.specs.Section.{Section}
use Rattle.variant_ini.specs.Lone.{lone_section}
use Rattle.variant_ini.specs.OptionValue.{parent_place}
use Rattle.variant_ini.specs.Parents.{HasParents}

none_placed : (name : List ℕ) (lines : List KeyLine) (k : ℕ) → k < 1 → slice_index_or (None ∷ []) k None ≡ parent_place (lone_section name lines ∷ []) k
unfolding parent_place
none_placed name lines zero below = refl
none_placed name lines (suc k) below = absurd (omega arith)

lone_parents : (name : List ℕ) (lines : List KeyLine) → HasParents (lone_section name lines ∷ []) (None ∷ [])
lone_parents name lines = record { counted = refl; placed = λ k below. none_placed name lines k below }

-- of lists to which they were added
pub parents_alone : (name : List ℕ) (lines : List KeyLine) (section : Section) (none sections : List Section) (no_place places : List (Option ℕ))
    → section ≡ lone_section name lines → none ≡ [] → sections ≡ none ++ section ∷ [] → no_place ≡ [] → places ≡ no_place ++ None ∷ [] → HasParents sections places
parents_alone name lines section none sections no_place places is empty made no_places placed =
    let alone : sections ≡ lone_section name lines ∷ [] = made ∙ ap (λ xs. xs ++ section ∷ []) empty ∙ ap (λ s. s ∷ []) is in
    let at : places ≡ None ∷ [] = placed ∙ ap (λ xs. xs ++ None ∷ []) no_places in
    subst (λ xs. HasParents xs places) (sym alone) (subst (λ ps. HasParents (lone_section name lines ∷ []) ps) (sym at) (lone_parents name lines))
