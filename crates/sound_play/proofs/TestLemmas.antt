-- Tests that are joined, and what they tell.
use Rattle.std.proofs.Common.{◌≡◌, Bool, true, false, not, ◌&&◌, ◌||◌, Option, Some, None, refl, is_none}

pub both_false : (a b : Bool) → (a && b) ≡ false → a ≡ true → b ≡ false
both_false true b e h = e
both_false false b e h = cc

-- where the second test is asked for only if the first one passes
pub asked : (a b : Bool) → (not a || b) ≡ true → a ≡ true → b ≡ true
asked true b e h = e
asked false b e h = cc

pub answered : (a b : Bool) → (a ≡ true → b ≡ true) → (not a || b) ≡ true
answered true b h = h refl
answered false b h = refl

-- ---- of options

pub none_from : {X : Type 0} (o : Option X) → is_none o ≡ true → o ≡ None
none_from None e = refl
none_from (Some x) e = cc

pub same_some : {X : Type 0} (x y : X) → Some x ≡ Some y → x ≡ y
same_some x y e = cc
