-- The lines of `variants`.
use Rattle.std.proofs.Common.{◌≡◌, ◌<◌, ◌+◌, ℕ, zero, suc, List, [], ◌∷◌, ◌++◌, length, take, sym, ap, ◌∙◌, append_assoc, add-one, arith}
use Rattle.std.specs.List.{flat_map}
use Rattle.std.proofs.lemmas.List.{append-nil, take_all}
use Rattle.variant_rules.specs.Entries.{Named}
use Rattle.one_shots.specs.VariantsText.{line_at, variant_line, variants_text}

lines-more : (variants : List Named) (place : ℕ) → place < length variants → flat_map variant_line (take (suc place) variants) ≡ flat_map variant_line (take place variants) ++ line_at variants place
lines-more [] place below = absurd (omega arith)
lines-more (v ∷ vs) zero below = append-nil (variant_line v)
lines-more (v ∷ vs) (suc place) below =
    let less : place < length vs = omega arith in
    ap (λ (l : List ℕ). variant_line v ++ l) (lines-more vs place less) ∙ sym (append_assoc (variant_line v) (flat_map variant_line (take place vs)) (line_at vs place))

-- the lines of the sections up to a place, and that of the one there
pub lines_more : (old text : List ℕ) (variants : List Named) (place : ℕ) → place < length variants → text ≡ old ++ flat_map variant_line (take place variants)
    → text ++ line_at variants place ≡ old ++ flat_map variant_line (take (place + 1) variants)
lines_more old text variants place below is =
    ap (λ (l : List ℕ). l ++ line_at variants place) is
    ∙ append_assoc old (flat_map variant_line (take place variants)) (line_at variants place)
    ∙ ap (λ (l : List ℕ). old ++ l) (sym (rw add-one (lines-more variants place below)))

-- all of them
pub lines_all : (variants : List Named) (n : ℕ) → n ≡ length variants → flat_map variant_line (take n variants) ≡ variants_text variants
unfolding variants_text
lines_all variants n is = ap (flat_map variant_line) (take_all n variants (omega (arith, is)))
