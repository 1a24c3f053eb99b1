-- What is found in a list of views.
use Rattle.std.proofs.Common.{◌≡◌, Bool, true, false, List, [], ◌∷◌, ◌||◌, Option, Some, map, refl, ap, cond}
use Rattle.std.specs.List.{find, list_any}
use Rattle.std.specs.Option.{option_map}

find-step : {X Y : Type 0} (f : X → Y) (b : Bool) (x : X) (found : Option X) (other : Option Y) → other ≡ option_map f found → cond b (Some (f x)) other ≡ option_map f (cond b (Some x) found)
find-step f true x found other e = refl
find-step f false x found other e = e

pub find-map : {X Y : Type 0} (f : X → Y) (test : Y → Bool) (xs : List X) → find test (map f xs) ≡ option_map f (find (λ x. test (f x)) xs)
find-map f test [] = refl
find-map f test (x ∷ xs) = find-step f (test (f x)) x (find (λ y. test (f y)) xs) (find test (map f xs)) (find-map f test xs)

pub list_any-map : {X Y : Type 0} (f : X → Y) (test : Y → Bool) (xs : List X) → list_any test (map f xs) ≡ list_any (λ x. test (f x)) xs
list_any-map f test [] = refl
list_any-map f test (x ∷ xs) = ap (λ b. test (f x) || b) (list_any-map f test xs)
