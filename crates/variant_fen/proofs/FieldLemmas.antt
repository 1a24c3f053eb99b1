-- Fields that are too many.
use Rattle.std.proofs.Common.{◌==◌, ◌≡◌, ℕ, ◌≤◌, Bool, true, false, not, cond, List, [], ◌∷◌, Option, Some, None, length, Bor, refl, ⊎_elim, arith}
use Rattle.std.specs.List.{slice_split, onto_first, position, position_or_len}
use Rattle.std.proofs.lemmas.Bool.{cases_Bool, ltb-false}
use Rattle.std.proofs.lemmas.List.Sums.{prefix_len-le-length}
use Rattle.std.proofs.lemmas.List.Splits.{slice_split-cons_yes, slice_split-cons_no}
use Rattle.std.specs.Option.{is_some, option_copied}
use Rattle.fen_model.specs.Fields.{counted_fields, is_space, plain_fields}
use Rattle.foundation.specs.Cuts.{parts_after}

abbrev pub HasFirst : List (List ℕ) → Type 0
HasFirst parts = (x : List ℕ) × (xs : List (List ℕ)) × (parts ≡ x ∷ xs)

onto : (b : ℕ) (parts : List (List ℕ)) → HasFirst (onto_first b parts)
onto b [] = (_, _, refl)
onto b (part ∷ parts) = (_, _, refl)

-- there is always a part
pub split_first : (p : ℕ → Bool) (text : List ℕ) → HasFirst (slice_split p text)
split_first p [] = (_, _, refl)
split_first p (b ∷ bs) =
    ⊎_elim
    (λ y. ([], slice_split p bs, slice_split-cons_yes p b bs y))
    (λ n. rw (slice_split-cons_no p b bs n) (onto b (slice_split p bs)))
    (cases_Bool (p b))

pub seven_fields : (a b c d e f rest : List ℕ) → plain_fields (a ∷ b ∷ c ∷ d ∷ e ∷ f ∷ slice_split is_space rest) ≡ None
seven_fields a b c d e f rest = let first = split_first is_space rest in rw first.2 refl

none_before : (b : Bool) (n : ℕ) → cond b (Some n) None ≡ None → b ≡ false
none_before true n h = cc
none_before false n h = refl

-- where no byte is the one that is looked for, its place is the end
pub position_none : (p : ℕ → Bool) (text : List ℕ) → position p text ≡ None → length text ≡ position_or_len p text
position_none p text h =
    let at_least : length text ≤ position_or_len p text = ltb-false _ _ (none_before _ _ h) in
    omega (arith, prefix_len-le-length (λ b. not (p b)) text)

pub seven_after : (a b c d e f : List ℕ) (rest : Option (Bor (List ℕ))) → is_some rest ≡ true → plain_fields (a ∷ b ∷ c ∷ d ∷ e ∷ f ∷ parts_after (λ b. b == 32) (option_copied rest)) ≡ None
seven_after a b c d e f None h = cc
seven_after a b c d e f (Some rest) h = seven_fields a b c d e f rest.now

pub eight_fields : (a b c d e f g rest : List ℕ) → counted_fields (a ∷ b ∷ c ∷ d ∷ e ∷ f ∷ g ∷ slice_split is_space rest) ≡ None
eight_fields a b c d e f g rest = let first = split_first is_space rest in rw first.2 refl

pub eight_after : (a b c d e f g : List ℕ) (rest : Option (Bor (List ℕ))) → is_some rest ≡ true → counted_fields (a ∷ b ∷ c ∷ d ∷ e ∷ f ∷ g ∷ parts_after (λ b. b == 32) (option_copied rest)) ≡ None
eight_after a b c d e f g None h = cc
eight_after a b c d e f g (Some rest) h = eight_fields a b c d e f g rest.now
