-- Lists of squares, cut at their commas.
use Rattle.std.proofs.Common.{◌≡◌, ◌≢◌, ℕ, ◌<◌, ◌==◌, Bool, false, List, [], ◌∷◌, length, get_or, Option, Some, None, Ok, Err, Bor, inl, inr, refl, ap, sym, ◌∙◌, lit<}
use Rattle.std.specs.declared.result.Result.{Result}
use Rattle.std.specs.List.{All, slice_split}
use Rattle.std.proofs.lemmas.Bool.Decides.{eqb_tells}
use Rattle.std.proofs.lemmas.Grind.{get_or_default_zero}
use Rattle.std.proofs.lemmas.List.Splits.{slice_split_none, slice_split_at}
use Rattle.std.proofs.lemmas.Str.Pattern.{IsSplitOnceResult, split_parts}
use Rattle.rules_model.specs.declared.board.Cell.{Cell}
use Rattle.rules_model.specs.declared.board.Side.{Side}
use Rattle.one_shot_checks.specs.Setup.{Unplaced, placed, placed_all, and_then}

abbrev pub is_comma : ℕ → Bool
is_comma b = b == 44

not_comma : (n : ℕ) → n ≢ 44 → (n == 44) ≡ false
not_comma n differs = elim (eqb_tells n 44) [ inl same ↦ absurd (differs same.1) | inr other ↦ other.0 ]

lacks_all : (xs : List ℕ) → ((i : ℕ) → i < length xs → get_or xs i 0 ≢ 44) → All (λ b. is_comma b ≡ false) xs
lacks_all xs h k d lt = not_comma (get_or xs k d) (λ e. h k lt (sym (get_or_default_zero xs k d lt) ∙ e))

-- a text without a comma is one part
pub split_none : (text : List ℕ) (r : Option (Bor (List ℕ) × Bor (List ℕ))) → IsSplitOnceResult 44 text r → r ≡ None → slice_split is_comma text ≡ text ∷ []
split_none text r split is =
    let parts = rw is at (split_parts 44 text r split (lit< tt)) in slice_split_none is_comma text (lacks_all text parts)

-- else the first part is what stands before the first comma
pub split_some : (text : List ℕ) (r : Option (Bor (List ℕ) × Bor (List ℕ))) (x : Bor (List ℕ) × Bor (List ℕ)) → IsSplitOnceResult 44 text r → r ≡ Some x
    → slice_split is_comma text ≡ x.0.now ∷ slice_split is_comma x.1.now
split_some text r x split is =
    let parts = rw is at (split_parts 44 text r split (lit< tt)) in
    ap (slice_split is_comma) parts.0 ∙ slice_split_at is_comma x.0.now 44 x.1.now (lacks_all x.0.now parts.1) refl

one_is : (side : Side) (o : Result (List (Option Cell)) Unplaced) → and_then o (placed_all side []) ≡ o
unfolding placed_all
one_is side (Ok cells) = refl
one_is side (Err why) = refl

-- one text places one piece
pub placed_all-one : (side : Side) (cells : List (Option Cell)) (text : List ℕ) → placed_all side (text ∷ []) cells ≡ placed side cells text
unfolding placed_all
placed_all-one side cells text = one_is side (placed side cells text)

-- the first piece, and then the others
pub placed_all-more : (side : Side) (cells cells' : List (Option Cell)) (text : List ℕ) (texts : List (List ℕ)) → placed side cells text ≡ Ok cells' → placed_all side (text ∷ texts) cells ≡ placed_all side texts cells'
unfolding placed_all
placed_all-more side cells cells' text texts is = ap (λ o. and_then o (placed_all side texts)) is

-- the first piece finds no place
pub placed_all-fault : (side : Side) (cells : List (Option Cell)) (text : List ℕ) (texts : List (List ℕ)) (why : Unplaced) → placed side cells text ≡ Err why → placed_all side (text ∷ texts) cells ≡ Err why
unfolding placed_all
placed_all-fault side cells text texts why is = ap (λ o. and_then o (placed_all side texts)) is
