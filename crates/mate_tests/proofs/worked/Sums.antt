-- Sums of numbers near the infinite one.
use Rattle.std.proofs.Common.{◌≡◌, ◌-◌, [], ◌∷◌, refl}
use Rattle.pn_search.specs.Numbers.{infinite, plus, sum_of, least_of}

sum_with_an_infinite_number : sum_of (3 ∷ infinite ∷ 4 ∷ []) ≡ infinite
unfolding sum_of plus
sum_with_an_infinite_number = refl

-- finite numbers stay one below, however many
sum_of_great_numbers : sum_of ((infinite - 1) ∷ (infinite - 1) ∷ 7 ∷ []) ≡ infinite - 1
unfolding sum_of plus
sum_of_great_numbers = refl

sum_that_would_be_infinite : plus (infinite - 1) 1 ≡ infinite - 1
unfolding plus
sum_that_would_be_infinite = refl

sum_just_below : plus (infinite - 2) 1 ≡ infinite - 1
unfolding plus
sum_just_below = refl

sum_of_none : sum_of [] ≡ 0
unfolding sum_of
sum_of_none = refl

least_of_none : least_of [] ≡ infinite
unfolding least_of
least_of_none = refl

least_number : least_of (3 ∷ 2 ∷ infinite ∷ []) ≡ 2
unfolding least_of
least_number = refl
