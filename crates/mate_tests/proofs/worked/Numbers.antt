-- The first number from 1 on that passes a test, and near misses.
use Rattle.std.proofs.Common.{◌≡◌, Some, None, refl, nat_le, ◌==◌, ◌||◌}
use Rattle.mate_search.specs.Least.{first_within}

-- the first that passes, and not a later one
found : first_within (λ k. nat_le 2 k) 3 ≡ Some 2
found = refl

-- none within fewer
not_yet : first_within (λ k. nat_le 2 k) 1 ≡ None
not_yet = refl

-- 0 is never asked, even where it passes
not_zero : first_within (λ k. k == 0) 4 ≡ None
not_zero = refl

-- a gap after the first does not matter
with_gap : first_within (λ k. k == 1 || (k == 3)) 3 ≡ Some 1
with_gap = refl
