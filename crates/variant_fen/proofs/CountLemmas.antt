-- The checks left, part by part.
use Rattle.std.proofs.Common.{◌≡◌, ℕ, ◌≤◌, min, nat_le, ◌==◌, Bool, true, false, ◌&&◌, List, [], ◌∷◌, Option, Some, None, Ok, Err, Bor, if◌then◌else◌, ◌<◌, refl, sym, ap, ◌∙◌, arith, ⊎_elim}
use Rattle.std.specs.List.{slice_split}
use Rattle.std.specs.Option.{is_some, option_copied, option_map}
use Rattle.std.proofs.lemmas.Bool.{cases_Bool, le-leb, lt-leb, leb-true, leb-false, and_parts}
use Rattle.fen_model.specs.declared.fault.FenFault.{FenFault}
use Rattle.fen_model.specs.declared.fault.FenFault.TheVariants.{Checks}
use Rattle.fen_model.specs.Counts.{checks_in, checks_of, is_plus, two_checks}
use Rattle.foundation.specs.Numbers.{number_of}
use Rattle.foundation.specs.Cuts.{parts_after}
use Rattle.variant_fen.proofs.FieldLemmas.{split_first}

pub checks_one : (text white : List ℕ) (rest : Option (Bor (List ℕ))) → slice_split is_plus text ≡ white ∷ parts_after (λ b. b == 43) (option_copied rest) → rest ≡ None → checks_of text ≡ Err Checks
unfolding checks_of
checks_one text white rest cut none = ap checks_in (cut ∙ ap (λ o. white ∷ parts_after (λ b. b == 43) (option_copied o)) none)

checks_more : (text white black : List ℕ) (rest : Option (Bor (List ℕ))) → is_some rest ≡ true → checks_in (white ∷ black ∷ parts_after (λ b. b == 43) (option_copied rest)) ≡ Err Checks
checks_more text white black None h = cc
checks_more text white black (Some rest) h = let first = split_first is_plus rest.now in rw first.2 refl

pub checks_three : (text white black second : List ℕ) (rest : Option (Bor (List ℕ))) → slice_split is_plus text ≡ white ∷ slice_split is_plus second → slice_split is_plus second ≡ black ∷ parts_after (λ b. b == 43) (option_copied rest) → is_some rest ≡ true → checks_of text ≡ Err Checks
unfolding checks_of
checks_three text white black second rest cut more some = ap checks_in (cut ∙ ap (λ ps. white ∷ ps) more) ∙ checks_more text white black rest some

no_more : (white black : List ℕ) (rest : Option (Bor (List ℕ))) → is_some rest ≡ false → checks_in (white ∷ black ∷ parts_after (λ b. b == 43) (option_copied rest)) ≡ two_checks (number_of white) (number_of black)
no_more white black None h = refl
no_more white black (Some rest) h = cc

same_test : (n : ℕ) → nat_le (min 10000 n) 99 ≡ nat_le n 99
same_test n =
    ⊎_elim
    (λ (y : nat_le n 99 ≡ true). let few : n ≤ 99 = leb-true _ _ y in le-leb _ _ (omega (arith, few)) ∙ sym y)
    (λ (m : nat_le n 99 ≡ false). let many : 99 < n = leb-false _ _ m in lt-leb _ _ (omega (arith, many)) ∙ sym m)
    (cases_Bool (nat_le n 99))

same_number : (n : ℕ) → nat_le n 99 ≡ true → min 10000 n ≡ n
same_number n y = let few : n ≤ 99 = leb-true _ _ y in omega (arith, few)

two_capped : (white black : Option ℕ) → two_checks (option_map (min 10000) white) (option_map (min 10000) black) ≡ two_checks white black
two_capped None black = refl
two_capped (Some white) None = refl
two_capped (Some white) (Some black) =
    let first = same_test white in
    let second = same_test black in
    ⊎_elim
    (λ (y : (nat_le white 99 && nat_le black 99) ≡ true).
    let both = and_parts (nat_le white 99) (nat_le black 99) y in
    ap (λ w. two_checks (Some w) (Some (min 10000 black))) (same_number white both.0) ∙ ap (λ b. two_checks (Some white) (Some b)) (same_number black both.1))
    (λ (n : (nat_le white 99 && nat_le black 99) ≡ false). rw (first, second, n) refl)
    (cases_Bool (nat_le white 99 && nat_le black 99))

pub checks_two : (text white black second : List ℕ) (rest : Option (Bor (List ℕ))) → slice_split is_plus text ≡ white ∷ slice_split is_plus second → slice_split is_plus second ≡ black ∷ parts_after (λ b. b == 43) (option_copied rest) → is_some rest ≡ false
    → checks_of text ≡ two_checks (option_map (min 10000) (number_of white)) (option_map (min 10000) (number_of black))
unfolding checks_of
checks_two text white black second rest cut more none = ap checks_in (cut ∙ ap (λ ps. white ∷ ps) more) ∙ no_more white black rest none ∙ sym (two_capped (number_of white) (number_of black))
