-- Lines as the parts that cuts at the line feed give, one after another.
use Rattle.std.proofs.Common.{◌≡◌, ℕ, ◌+◌, ◌<◌, ◌≤◌, Bool, true, false, not, List, [], ◌∷◌, Option, None, Some, length, refl, sym, ap, ◌∙◌, arith, nat_lt, ◌==◌, ⊎_elim, length-drop}
use Rattle.std.specs.List.{All, slice_split, position_or_len}
use Rattle.std.proofs.lemmas.List.Splits.{slice_split_first, slice_split_none}
use Rattle.std.proofs.lemmas.List.Sums.{prefix_len_passes}
use Rattle.std.proofs.lemmas.Bool.{cases_Bool, ltb-true, ltb-false}
use Rattle.foundation.specs.Cuts.{cut}
use Rattle.variant_ini.specs.Cuts.{with_byte, cut_lines}

-- the lines behind a cut, of which there are none where nothing was cut off
abbrev pub rest_lines : Option (List ℕ) → List (List ℕ)
rest_lines None = []
rest_lines (Some text) = cut_lines text

-- how many bytes are left to cut, and one more where a line is left
abbrev pub bytes_left : Option (List ℕ) → ℕ
bytes_left None = 0
bytes_left (Some text) = length text + 1

abbrev at_feed : ℕ → Bool
at_feed b = b == 10

not_true : (b : Bool) → not b ≡ true → b ≡ false
not_true true h = sym h
not_true false h = refl

none_at_feed : (text : List ℕ) → length text ≤ position_or_len at_feed text → All (λ b. at_feed b ≡ false) text
none_at_feed text h = λ k d below.
    not_true _ (prefix_len_passes (λ b. not (at_feed b)) text k d (omega (arith, h)))

cut_lines-slice_split : (text : List ℕ) → cut_lines text ≡ slice_split at_feed text
unfolding cut_lines
cut_lines-slice_split [] = refl
cut_lines-slice_split (b ∷ bs) = ap (with_byte b) (cut_lines-slice_split bs)

split_rest : Option (List ℕ) → List (List ℕ)
split_rest None = []
split_rest (Some text) = slice_split at_feed text

rest_lines-split_rest : (rest : Option (List ℕ)) → rest_lines rest ≡ split_rest rest
unfolding split_rest
rest_lines-split_rest None = refl
rest_lines-split_rest (Some text) = cut_lines-slice_split text

slice_split-cut : (text : List ℕ) → slice_split at_feed text ≡ (cut 10 text).0 ∷ split_rest (cut 10 text).1
unfolding cut split_rest
slice_split-cut text =
    ⊎_elim
    (λ y. rw y (slice_split_first at_feed text 0 (ltb-true _ _ y)))
    (λ n. rw n (slice_split_none at_feed text (none_at_feed text (ltb-false _ _ n))))
    (cases_Bool (nat_lt (position_or_len at_feed text) (length text)))

-- the first line of a text is what a cut gives, and the others are those behind it
pub cut_lines-cut : (text : List ℕ) → cut_lines text ≡ (cut 10 text).0 ∷ rest_lines (cut 10 text).1
cut_lines-cut text =
    cut_lines-slice_split text
    ∙ slice_split-cut text
    ∙ ap (λ lines. (cut 10 text).0 ∷ lines) (sym (rest_lines-split_rest (cut 10 text).1))

-- a cut leaves less
pub bytes_left-cut : (text : List ℕ) → bytes_left (cut 10 text).1 ≤ length text
unfolding cut
bytes_left-cut text =
    ⊎_elim
    (λ y. let within : position_or_len at_feed text < length text = ltb-true _ _ y in rw y (omega (arith, within, length-drop (position_or_len at_feed text + 1) text)))
    (λ n. rw n (omega arith))
    (cases_Bool (nat_lt (position_or_len at_feed text) (length text)))
