-- The steps of the atoms are those with their legs: for each letter a test of its literal list, which computes.
use Rattle.std.proofs.Common.{◌≡◌, ◌⊎◌, inl, inr, ℕ, ◌==◌, ℤ, pos, negsuc, neg_ℤ, nat_abs, min, max, Bool, true, false, not, ◌&&◌, ◌||◌, List, [], ◌∷◌, cond, refl, ap, sym, ◌∙◌, subst, arith}
use Rattle.std.specs.List.{list_any, list_all, filter, AllByRecursion}
use Rattle.std.specs.List.Sorted.{IsStrictlySortedBy}
use Rattle.std.specs.Ordering.{int_eq}
use Rattle.std.specs.declared.cmp.Ordering.{Ordering}
use Rattle.std.specs.declared.cmp.Ordering.TheVariants.{Less, Equal, Greater}
use Rattle.std.specs.Cmp.{signed_Decides}
use Rattle.std.proofs.lemmas.Bool.Decides.{nat_tests}
use Rattle.std.proofs.lemmas.List.Kept.{IsStrictlySortedBy-filter}
use Rattle.foundation.specs.Member.{Member, IsEachOnce}
use Rattle.foundation.proofs.Members.{member-filter, filter-member}
use Rattle.betza_text.specs.declared.part.Part.{Part}
use Rattle.betza_text.specs.declared.steps.Step.{Step}
use Rattle.betza_text.specs.Steps.{step, shape_of, all_steps, picks, steps_of}
use Rattle.betza_text.specs.Legs.{Legs, legs, legs_of, step_cmp, AreAllSteps, AreItsSteps}

-- ---- tests

both : (a b : Bool) → (a && b) ≡ true → (a ≡ true) × (b ≡ true)
both true b h = (refl, h)
both false b h = cc

either : (a b : Bool) → (a || b) ≡ true → (a ≡ true) ⊎ (b ≡ true)
either true b h = inl refl
either false b h = inr h

to_left : (a b : Bool) → a ≡ true → (a || b) ≡ true
to_left a b h = rw h refl

to_right : (a b : Bool) → b ≡ true → (a || b) ≡ true
to_right true b h = refl
to_right false b h = h

and_both : (a b : Bool) → a ≡ true → b ≡ true → (a && b) ≡ true
and_both a b h k = rw (h, k) refl

nat_eq-same : (m n : ℕ) → (m == n) ≡ true → m ≡ n
nat_eq-same m n h = grind (arith, nat_tests)

nat_eq-refl : (n : ℕ) → (n == n) ≡ true
nat_eq-refl n = grind (arith, nat_tests)

abbrev same_step : Step → Step → Bool
same_step s t = int_eq s.dx t.dx && int_eq s.dy t.dy

same_step-is : (s t : Step) → same_step s t ≡ true → s ≡ t
same_step-is s t h =
    let k = both (int_eq s.dx t.dx) (int_eq s.dy t.dy) h in
    let x = (signed_Decides s.dx t.dx).0 k.0 in
    let y = (signed_Decides s.dy t.dy).0 k.1 in
    λ i. record { dx = x i; dy = y i }

same_step-refl : (s : Step) → same_step s s ≡ true
same_step-refl s = and_both _ _ ((signed_Decides s.dx s.dx).1 refl) ((signed_Decides s.dy s.dy).1 refl)

abbrev same_legs : Legs → Legs → Bool
same_legs a b = (a.short == b.short) && (a.long == b.long)

same_legs-is : (a b : Legs) → same_legs a b ≡ true → a ≡ b
same_legs-is a b h =
    let k = both (a.short == b.short) (a.long == b.long) h in
    let x = nat_eq-same a.short b.short k.0 in
    let y = nat_eq-same a.long b.long k.1 in
    λ i. record { short = x i; long = y i }

module _ {X : Type 0} (same : X → X → Bool) (is : (x y : X) → same x y ≡ true → x ≡ y) where
  found : (x : X) (xs : List X) → list_any (same x) xs ≡ true → Member x xs
  found x [] h = cc
  found x (y ∷ ys) h = elim (either (same x y) (list_any (same x) ys) h) as (λ _. Member x (y ∷ ys)) [ inl e ↦ inl (sym (is x y e)) | inr k ↦ inr (found x ys k) ]

  finds : ((x : X) → same x x ≡ true) → (x : X) (xs : List X) → Member x xs → list_any (same x) xs ≡ true
  finds self x [] k = absurd k
  finds self x (y ∷ ys) (inl e) = to_left _ _ (subst (λ z. same x z ≡ true) (sym e) (self x))
  finds self x (y ∷ ys) (inr k) = to_right (same x y) _ (finds self x ys k)

passes : {X : Type 0} (f : X → Bool) (xs : List X) → list_all f xs ≡ true → (x : X) → Member x xs → f x ≡ true
passes f [] h x k = absurd k
passes f (y ∷ ys) h x (inl e) = sym (ap f e) ∙ (both (f y) (list_all f ys) h).0
passes f (y ∷ ys) h x (inr k) = passes f ys (both (f y) (list_all f ys) h).1 x k

-- ---- the steps with given legs

-- a leg of a step, either way
way : (z : ℤ) (k : ℕ) → nat_abs z ≡ k → (z ≡ pos k) ⊎ (z ≡ neg_ℤ (pos k))
way (pos n) k e = inl (ap pos e)
way (negsuc n) k e = inr (subst (λ j. negsuc n ≡ neg_ℤ (pos j)) e refl)

split : (x y a b : ℕ) → min x y ≡ a → max x y ≡ b → ((x ≡ a) × (y ≡ b)) ⊎ ((x ≡ b) × (y ≡ a))
split x y a b h k = grind arith

-- all steps with these legs, some of them twice
abbrev turned : ℕ → ℕ → List Step
turned a b = step (pos a) (pos b) ∷ step (pos a) (neg_ℤ (pos b)) ∷ step (neg_ℤ (pos a)) (pos b) ∷ step (neg_ℤ (pos a)) (neg_ℤ (pos b)) ∷ []

is_step : (s : Step) (x y : ℤ) → s.dx ≡ x → s.dy ≡ y → step x y ≡ s
is_step s x y e f = λ i. record { dx = sym e i; dy = sym f i }

turned-all : (s : Step) (a b : ℕ) → nat_abs s.dx ≡ a → nat_abs s.dy ≡ b → Member s (turned a b)
turned-all s a b e f = at (way s.dx a e) (way s.dy b f)
  where
    at : (s.dx ≡ pos a) ⊎ (s.dx ≡ neg_ℤ (pos a)) → (s.dy ≡ pos b) ⊎ (s.dy ≡ neg_ℤ (pos b)) → Member s (turned a b)
    at (inl x) (inl y) = inl (is_step s _ _ x y)
    at (inl x) (inr y) = inr (inl (is_step s _ _ x y))
    at (inr x) (inl y) = inr (inr (inl (is_step s _ _ x y)))
    at (inr x) (inr y) = inr (inr (inr (inl (is_step s _ _ x y))))

-- ---- the test of a list of steps

abbrev is_listed : List Step → Step → Bool
is_listed steps s = list_any (same_step s) steps

abbrev has_turned : List Step → Legs → Bool
has_turned steps l = list_all (is_listed steps) (turned l.short l.long) && list_all (is_listed steps) (turned l.long l.short)

abbrev differ : List Step → Bool
differ [] = true
differ (s ∷ steps) = not (is_listed steps s) && differ steps

abbrev is_less : Ordering → Bool
is_less Less = true
is_less Equal = false
is_less Greater = false

abbrev ascend : List Step → Bool
ascend [] = true
ascend (s ∷ steps) = list_all (λ t. is_less (step_cmp s t)) steps && ascend steps

abbrev is_right : List Legs → List Step → Bool
is_right lengths steps =
    list_all (λ s. list_any (same_legs (legs s)) lengths) steps && (list_all (has_turned steps) lengths && (differ steps && ascend steps))

less-is : (o : Ordering) → is_less o ≡ true → o ≡ Less
less-is Less h = refl
less-is Equal h = cc
less-is Greater h = cc

has-all : (lengths : List Legs) (steps : List Step) → list_all (has_turned steps) lengths ≡ true → (s : Step) → Member (legs s) lengths → Member s steps
has-all lengths steps h s k =
    let l = both _ _ (passes (has_turned steps) lengths h (legs s) k) in
    elim (split (nat_abs s.dx) (nat_abs s.dy) (legs s).short (legs s).long refl refl) as (λ _. Member s steps) [
      | inl e ↦ found same_step same_step-is s steps (passes (is_listed steps) (turned (legs s).short (legs s).long) l.0 s (turned-all s (legs s).short (legs s).long e.0 e.1))
      | inr e ↦ found same_step same_step-is s steps (passes (is_listed steps) (turned (legs s).long (legs s).short) l.1 s (turned-all s (legs s).long (legs s).short e.0 e.1))
    ]

each-once : (steps : List Step) → differ steps ≡ true → IsEachOnce steps
each-once [] h = tt
each-once (s ∷ steps) h =
    let k = both (not (is_listed steps s)) (differ steps) h in
    (λ m. let e = finds same_step same_step-is same_step-refl s steps m in (let f : not (is_listed steps s) ≡ false = ap not e in cc), each-once steps k.1)

ascending-from : (s : Step) (steps : List Step) → list_all (λ t. is_less (step_cmp s t)) steps ≡ true → AllByRecursion (λ t. step_cmp s t ≡ Less) steps
ascending-from s [] h = tt
ascending-from s (t ∷ steps) h =
    let k = both (is_less (step_cmp s t)) (list_all (λ u. is_less (step_cmp s u)) steps) h in
    (less-is (step_cmp s t) k.0, ascending-from s steps k.1)

ascending : (steps : List Step) → ascend steps ≡ true → IsStrictlySortedBy step_cmp steps
unfolding IsStrictlySortedBy
ascending [] h = tt
ascending (s ∷ steps) h =
    let k = both (list_all (λ t. is_less (step_cmp s t)) steps) (ascend steps) h in
    (ascending-from s steps k.0, ascending steps k.1)

-- what passes the test are all steps with the legs
all-steps : (lengths : List Legs) (steps : List Step) → is_right lengths steps ≡ true → AreAllSteps lengths steps
all-steps lengths steps h =
    let k = both _ _ h in
    let l = both _ _ k.1 in
    let m = both (differ steps) (ascend steps) l.1 in
    record {
      exactly = λ s. (λ i. found same_legs same_legs-is (legs s) lengths (passes (λ t. list_any (same_legs (legs t)) lengths) steps k.0 s i), has-all lengths steps l.0 s);
      once = each-once steps m.0;
      ordered = ascending steps m.1;
    }

-- ---- letter by letter

abbrev right_at : ℕ → Bool
right_at atom = is_right (legs_of atom) (all_steps (shape_of atom))

-- a letter at which the test has been computed
at_letter : (letter atom : ℕ) → right_at letter ≡ true → (atom == letter) ≡ true → right_at atom ≡ true
at_letter letter atom h e = subst (λ c. right_at c ≡ true) (sym (nat_eq-same atom letter e)) h

or_else : (b c : Bool) → (b ≡ true → c ≡ true) → (b ≡ false → c ≡ true) → c ≡ true
or_else true c f g = f refl
or_else false c f g = g refl

atom-right : (atom : ℕ) → right_at atom ≡ true
unfolding shape_of legs_of
atom-right atom =
    or_else (atom == 87) _ (at_letter 87 atom refl) (λ a.
    or_else (atom == 82) _ (at_letter 82 atom refl) (λ b.
    or_else (atom == 70) _ (at_letter 70 atom refl) (λ c.
    or_else (atom == 66) _ (at_letter 66 atom refl) (λ d.
    or_else (atom == 68) _ (at_letter 68 atom refl) (λ e.
    or_else (atom == 78) _ (at_letter 78 atom refl) (λ f.
    or_else (atom == 65) _ (at_letter 65 atom refl) (λ g.
    or_else (atom == 72) _ (at_letter 72 atom refl) (λ h.
    or_else (atom == 76) _ (at_letter 76 atom refl) (λ i.
    or_else (atom == 67) _ (at_letter 67 atom refl) (λ j.
    or_else (atom == 74) _ (at_letter 74 atom refl) (λ k.
    or_else (atom == 90) _ (at_letter 90 atom refl) (λ l.
    or_else (atom == 71) _ (at_letter 71 atom refl) (λ m.
    or_else (atom == 75) _ (at_letter 75 atom refl) (λ n.
    or_else (atom == 81) _ (at_letter 81 atom refl) (λ o.
    rw (a, b, c, d, e, f, g, h, i, j, k, l, m, n, o) refl)))))))))))))))

pub atom-steps : (atom : ℕ) → AreAllSteps (legs_of atom) (all_steps (shape_of atom))
atom-steps atom = all-steps (legs_of atom) (all_steps (shape_of atom)) (atom-right atom)

-- ---- the steps of a part

once-filter : (f : Step → Bool) (xs : List Step) → IsEachOnce xs → IsEachOnce (filter f xs)
once-filter f [] h = tt
once-filter f (x ∷ xs) h =
    elim (f x) as (λ b. IsEachOnce (cond b (x ∷ filter f xs) (filter f xs))) [
      | true ↦ (λ m. h.0 (filter-member f x xs m).0, once-filter f xs h.1)
      | false ↦ once-filter f xs h.1
    ]

pub part-steps : (part : Part) → AreItsSteps part
unfolding steps_of
part-steps part =
    let atom = atom-steps part.atom in
    let picked = picks (shape_of part.atom) part.dirs in
    let all = all_steps (shape_of part.atom) in
    record {
      exactly = λ s. (
        λ m. let k = filter-member picked s all m in record { legs = (atom.exactly s).0 k.0; picked = k.1 },
        λ is. member-filter picked s all ((atom.exactly s).1 is.legs) is.picked,
      );
      once = once-filter picked all atom.once;
      ordered = IsStrictlySortedBy-filter step_cmp picked all atom.ordered;
    }
