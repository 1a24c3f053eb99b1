-- The blocked repeats as a list and as a test; near wins of games.
use Rattle.std.proofs.Common.{◌≡◌, inl, inr, ℕ, zero, suc, ◌+◌, ◌<◌, ◌≤◌, List, [], ◌∷◌, map, Bool, true, false, Option, Some, None, not, nat_le, nat_lt, ◌==◌, ◌&&◌, ◌||◌, if◌then◌else◌, refl, ap, sym, ◌∙◌, arith}
use Rattle.std.specs.List.{list_any, list_all, filter}
use Rattle.std.proofs.lemmas.Bool.{or_left, or_right}
use Rattle.std.proofs.lemmas.Bool.Decides.{nat_tests}
use Rattle.foundation.specs.Member.{Member}
use Rattle.foundation.proofs.Members.{member-filter, filter-member}
use Rattle.rules_model.specs.declared.board.Position.{Position}
use Rattle.rules_model.specs.declared.board.Repeat.{Repeat}
use Rattle.rules_model.specs.declared.board.Side.{Side}
use Rattle.rules_model.specs.declared.rules.Rules.{Rules}
use Rattle.rules_model.specs.Repeats.{repeat_of}
use Rattle.rules_model.specs.Sides.{same_side}
use Rattle.rules_model.specs.Next.{next}
use Rattle.rules_model.specs.Legal.{legal, own_end}
use Rattle.rules_model.specs.Games.{Story, history, times, same_repeat}
use Rattle.rules_model.proofs.EqualLaws.{repeat-decides}
use Rattle.rules_model.proofs.ResultLaws.{times-none, times-elsewhere}
use Rattle.forced_wins.specs.Contests.{decided}
use Rattle.forced_wins.specs.Games as AnyGame
use Rattle.forced_wins.specs.Views.{won_by, seen_by, as_any}
use Rattle.forced_wins.specs.Wins.{games, wins, near, near_root, is_in, blocked, each_once, IsInLimit}
use Rattle.forced_wins.proofs.ClaimLaws.{forced-mono}
use Rattle.forced_wins.proofs.Counts.{by_cases, true_false, same_from, le_true, tests_on, times_here}
use Rattle.forced_wins.proofs.NearLaws as N
use Rattle.forced_wins.proofs.RootLaws.{near_root-more, near_root-unbarred}
use Rattle.forced_wins.proofs.Rules.{laws, wins-is, near-is, end-is, times-is}

or_cases : {C : Type 0} (a b : Bool) → (a || b) ≡ true → (a ≡ true → C) → (b ≡ true → C) → C
or_cases true b h f g = f refl
or_cases false b h f g = g h

-- ---- the list holds what the test says

pub member-in : (x : Repeat) (xs : List Repeat) → Member x xs → is_in xs x ≡ true
member-in x [] k = absurd k
member-in x (y ∷ ys) (inl e) = or_left _ _ ((repeat-decides x y).1 (sym e))
member-in x (y ∷ ys) (inr k) = or_right (same_repeat x y) _ (member-in x ys k)

pub in-member : (x : Repeat) (xs : List Repeat) → is_in xs x ≡ true → Member x xs
in-member x [] h = cc
in-member x (y ∷ ys) h = or_cases (same_repeat x y) _ h (λ e. inl (sym ((repeat-decides x y).0 e))) (λ k. inr (in-member x ys k))

each_once-member : (x : Repeat) (xs : List Repeat) → Member x (each_once xs) → Member x xs
unfolding each_once
each_once-member x [] k = k
each_once-member x (y ∷ ys) (inl e) = inl e
each_once-member x (y ∷ ys) (inr k) = inr (each_once-member x ys (filter-member (λ z. not (same_repeat z y)) x (each_once ys) k).0)

member-each_once : (x : Repeat) (xs : List Repeat) → Member x xs → Member x (each_once xs)
unfolding each_once
member-each_once x [] k = k
member-each_once x (y ∷ ys) (inl e) = inl e
member-each_once x (y ∷ ys) (inr k) =
    by_cases (same_repeat x y)
    (λ e. inl (sym ((repeat-decides x y).0 e)))
    (λ e. inr (member-filter (λ z. not (same_repeat z y)) x (each_once ys) (member-each_once x ys k) (ap not e)))

stood-member : (x : Repeat) (ps : List Position) → 0 < times x ps → Member x (map repeat_of ps)
stood-member x [] h = let e = times-none x in absurd (omega arith)
stood-member x (p ∷ ps) h =
    by_cases (same_repeat (repeat_of p) x)
    (λ e. inl ((repeat-decides (repeat_of p) x).0 e))
    (λ e. let k = times-elsewhere x p ps (λ s. true_false _ ((repeat-decides (repeat_of p) x).1 s) e) in inr (stood-member x ps (omega arith)))

not_zero : (n : ℕ) → 0 < n → (n == 0) ≡ false
not_zero n h = grind (arith, nat_tests)

test_from : (n m : ℕ) → 0 < n → nat_le n m ≡ true → (nat_lt 0 n && nat_le n m) ≡ true
test_from n m h e = grind (arith, nat_tests)

test_to : (n m : ℕ) → (nat_lt 0 n && nat_le n m) ≡ true → nat_le n m ≡ true
test_to n m e = grind (arith, nat_tests)

stood_once : (n t : ℕ) → 0 < n → (n ≡ 1 → ⊥) → nat_le n (t + 1) ≡ true → 0 < t
stood_once n t h f e = grind (arith, nat_tests)

held : (n : ℕ) (x : Repeat) (ps : List Position) → 0 < n → (n ≡ 1 → ⊥) →
    is_in (if n == 0 then [] else filter (λ y. nat_le n (times y ps + 1)) (each_once (map repeat_of ps))) x ≡ (nat_lt 0 n && nat_le n (times x ps + 1))
held n x ps h fit =
    rw (not_zero n h) (same_from _ _
    (λ e. let k = filter-member (λ y. nat_le n (times y ps + 1)) x (each_once (map repeat_of ps)) (in-member x _ e) in test_from n (times x ps + 1) h k.1)
    (λ e. let t = test_to n (times x ps + 1) e in
    member-in x _ (member-filter (λ y. nat_le n (times y ps + 1)) x (each_once (map repeat_of ps)) (member-each_once x _ (stood-member x ps (stood_once n (times x ps) h fit t))) t)))

list_test : (n : ℕ) (x : Repeat) (ps : List Position) → (n ≡ 1 → ⊥) →
    is_in (if n == 0 then [] else filter (λ y. nat_le n (times y ps + 1)) (each_once (map repeat_of ps))) x ≡ (nat_lt 0 n && nat_le n (times x ps + 1))
list_test zero x ps fit = refl
list_test (suc n) x ps fit = held (suc n) x ps (omega arith) fit

pub blocked-is : (rules : Rules) (a : Side) (g : Story) (x : Repeat) → (rules.n_fold ≡ 1 → ⊥) → is_in (blocked rules g) x ≡ AnyGame.blocked (seen_by rules a) (as_any g) x
unfolding blocked AnyGame.blocked
blocked-is rules a g x fit = list_test rules.n_fold x (history g) fit ∙ ap (λ t. nat_lt 0 rules.n_fold && nat_le rules.n_fold (t + 1)) (times-is rules a x (history g))

-- what is on the list is blocked, whatever the fold
listed_test : (n : ℕ) (x : Repeat) (ps : List Position) →
    is_in (if n == 0 then [] else filter (λ y. nat_le n (times y ps + 1)) (each_once (map repeat_of ps))) x ≡ true → (nat_lt 0 n && nat_le n (times x ps + 1)) ≡ true
listed_test zero x ps h = cc
listed_test (suc n) x ps h =
    let k = filter-member (λ y. nat_le (suc n) (times y ps + 1)) x (each_once (map repeat_of ps)) (in-member x _ (rw (not_zero (suc n) (omega arith)) at h)) in
    test_from (suc n) (times x ps + 1) (omega arith) k.1

pub in-blocked : (rules : Rules) (a : Side) (g : Story) (x : Repeat) → is_in (blocked rules g) x ≡ true → AnyGame.blocked (seen_by rules a) (as_any g) x ≡ true
unfolding blocked AnyGame.blocked
in-blocked rules a g x h = sym (ap (λ t. nat_lt 0 rules.n_fold && nat_le rules.n_fold (t + 1)) (times-is rules a x (history g))) ∙ listed_test rules.n_fold x (history g) h

-- with a fold of 1 every repeat of the game is on it, the root's too
listed_at_one : (n : ℕ) (x : Repeat) (ps : List Position) → n ≡ 1 → 0 < times x ps →
    is_in (if n == 0 then [] else filter (λ y. nat_le n (times y ps + 1)) (each_once (map repeat_of ps))) x ≡ true
listed_at_one n x ps e h =
    rw (not_zero n (omega arith)) (member-in x _ (member-filter (λ y. nat_le n (times y ps + 1)) x (each_once (map repeat_of ps)) (member-each_once x _ (stood-member x ps h)) (le_true n (times x ps + 1) (omega arith))))

-- ---- near wins

near_blocked : (rules : Rules) (a : Side) (g : Story) → (rules.n_fold ≡ 1 → ⊥) → (n : ℕ) → ◌≡◌ {A = Position → Bool} (λ p. near rules n p (blocked rules g) a) (λ p. AnyGame.near (seen_by rules a) (AnyGame.blocked (seen_by rules a) (as_any g)) n p)
near_blocked rules a g fit n i p = (near-is rules n p (blocked rules g) a ∙ ap (λ f. AnyGame.near (seen_by rules a) f n p) (λ j x. blocked-is rules a g x fit j)) i

near_root-fit : (rules : Rules) (n : ℕ) (g : Story) (a : Side) → (rules.n_fold ≡ 1 → ⊥) → near_root rules n g a ≡ AnyGame.near_root (seen_by rules a) n (as_any g)
unfolding near_root AnyGame.near_root
near_root-fit rules zero g a fit i =
    decided (end-is rules a g i) (if same_side g.last.side a then false else list_all (λ m. near_blocked rules a g fit zero i (next rules g.last m)) (legal rules (repeat_of g.last)))
near_root-fit rules (suc n) g a fit i =
    decided (end-is rules a g i)
    (if same_side g.last.side a then list_any (λ m. near_blocked rules a g fit n i (next rules g.last m)) (legal rules (repeat_of g.last)) else
    list_all (λ m. near_blocked rules a g fit (suc n) i (next rules g.last m)) (legal rules (repeat_of g.last)))

-- with a fold of 1 every game has ended, so there is nothing to look up

ended_at_one : (rules : Rules) (g : Story) (a : Side) → rules.n_fold ≡ 1 → AnyGame.repeated (seen_by rules a) (as_any g) ≡ true
unfolding AnyGame.repeated
ended_at_one rules g a e =
    let here = times_here (seen_by rules a) (laws rules a) (repeat_of g.last) g.last g.earlier refl in
    tests_on rules.n_fold _ (omega arith) (omega arith)

some_end : (o : Option Bool) (y z : Bool) → y ≡ true → (w : Bool) × (AnyGame.or_end o (AnyGame.lost_if (y || z)) ≡ Some w)
some_end None true z e = (false, refl)
some_end None false z e = cc
some_end (Some w) y z e = (w, refl)

ended_same : (o p : Option Bool) (s t : Bool) (w : Bool) → o ≡ p → p ≡ Some w → decided o s ≡ decided p t
ended_same o p s t w e h = rw (e, h)

near_root-one : (rules : Rules) (n : ℕ) (g : Story) (a : Side) → rules.n_fold ≡ 1 → near_root rules n g a ≡ AnyGame.near_root (seen_by rules a) n (as_any g)
unfolding near_root AnyGame.near_root
near_root-one rules n g a e =
    let k = some_end (won_by a (own_end rules (repeat_of g.last))) (AnyGame.repeated (seen_by rules a) (as_any g)) (AnyGame.run_out (seen_by rules a) g.last.counter) (ended_at_one rules g a e) in
    ended_same _ _ _ _ k.0 (end-is rules a g) k.1

one_test : (n : ℕ) → (n == 1) ≡ true → n ≡ 1
one_test n h = grind (arith, nat_tests)

not_one : (n : ℕ) → (n == 1) ≡ false → n ≡ 1 → ⊥
not_one n h e = grind (arith, nat_tests)

pub near_root-is : (rules : Rules) (n : ℕ) (g : Story) (a : Side) → near_root rules n g a ≡ AnyGame.near_root (seen_by rules a) n (as_any g)
near_root-is rules n g a = by_cases (rules.n_fold == 1) (λ e. near_root-one rules n g a (one_test rules.n_fold e)) (λ e. near_root-fit rules n g a (not_one rules.n_fold e))

-- ---- a root that is not barred

root_at_one : (rules : Rules) (a : Side) (g : Story) → rules.n_fold ≡ 1 → is_in (blocked rules g) (repeat_of g.last) ≡ true
unfolding blocked
root_at_one rules a g e =
    let here = times_here (seen_by rules a) (laws rules a) (repeat_of g.last) g.last g.earlier refl in
    let same = times-is rules a (repeat_of g.last) (history g) in
    listed_at_one rules.n_fold (repeat_of g.last) (history g) e (omega arith)

unbarred-fit : (rules : Rules) (n : ℕ) (g : Story) (a : Side) → (rules.n_fold ≡ 1 → ⊥) → is_in (blocked rules g) (repeat_of g.last) ≡ false → near_root rules n g a ≡ near rules n g.last (blocked rules g) a
unbarred-fit rules n g a fit free =
    near_root-fit rules n g a fit
    ∙ near_root-unbarred (seen_by rules a) (laws rules a) (as_any g) n (sym (blocked-is rules a g (repeat_of g.last) fit) ∙ free)
    ∙ sym (λ i. near_blocked rules a g fit n i g.last)

-- where the root's repeat is not barred, the root is looked at as any other position
pub near_root-free : (rules : Rules) (n : ℕ) (g : Story) (a : Side) → is_in (blocked rules g) (repeat_of g.last) ≡ false → near_root rules n g a ≡ near rules n g.last (blocked rules g) a
near_root-free rules n g a free =
    by_cases (rules.n_fold == 1)
    (λ e. absurd (true_false _ (root_at_one rules a g (one_test rules.n_fold e)) free))
    (λ e. unbarred-fit rules n g a (not_one rules.n_fold e) free)

-- more moves do no harm
pub near_root-grows : (rules : Rules) (k n : ℕ) (g : Story) (a : Side) → k ≤ n → near_root rules k g a ≡ true → near_root rules n g a ≡ true
near_root-grows rules k n g a low h =
    near_root-is rules n g a ∙ near_root-more (seen_by rules a) (laws rules a) (as_any g) k n low (sym (near_root-is rules k g a) ∙ h)

pub wins-grow : (rules : Rules) (k n : ℕ) (g : Story) (a : Side) → k ≤ n → wins rules k g a ≡ true → wins rules n g a ≡ true
wins-grow rules k n g a low h = forced-mono (games rules a) (λ x m. (laws rules a).turns x.last m) k n g low h

pub in_limit : (rules : Rules) (n : ℕ) (g : Story) (a : Side) → IsInLimit rules n g → AnyGame.IsInLimit (seen_by rules a) n (as_any g)
in_limit rules n g a (inl e) = inl (omega arith)
in_limit rules n g a (inr h) = inr (omega arith)

-- ---- wins and near wins

pub wins-near : (rules : Rules) (n : ℕ) (g : Story) (a : Side) → wins rules n g a ≡ true → near_root rules n g a ≡ true
wins-near rules n g a h = near_root-is rules n g a ∙ N.wins-near_root (seen_by rules a) (laws rules a) n (as_any g) (sym (wins-is rules n g a) ∙ h)

pub wins-near-same : (rules : Rules) (n : ℕ) (g : Story) (a : Side) → IsInLimit rules n g → wins rules n g a ≡ near_root rules n g a
wins-near-same rules n g a low =
    wins-is rules n g a ∙ N.wins-is-near_root (seen_by rules a) (laws rules a) n (as_any g) (in_limit rules n g a low) ∙ sym (near_root-is rules n g a)
