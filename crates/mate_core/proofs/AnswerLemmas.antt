-- Laws of the best answer and of facts that are as good.
use Rattle.std.proofs.Common.{◌≡◌, ◌↔◌, ℕ, zero, suc, ◌<◌, ◌≤◌, Bool, true, false, List, [], ◌∷◌, ◌++◌, Option, Some, None, refl, ap, sym, ◌∙◌, subst, arith, if◌then◌else◌, nat_le}
use Rattle.std.specs.Prelude.{slice_get}
use Rattle.std.specs.Bool.{Decides}
use Rattle.std.specs.List.{fold}
use Rattle.std.specs.Cmp.Derive.{both_true}
use Rattle.std.proofs.lemmas.Bool.{and_parts, leb-true}
use Rattle.std.proofs.lemmas.Bool.Decides.{nat_tests}
use Rattle.foundation.specs.Tests.{same_bool}
use Rattle.rules_model.specs.declared.board.Repeat.{Repeat}
use Rattle.rules_model.specs.Games.{same_repeat}
use Rattle.rules_model.proofs.EqualLaws.{repeat-decides}
use Rattle.forced_wins.specs.declared.fact.Fact.{Fact}
use Rattle.forced_wins.specs.Facts.{serves, covers}
use Rattle.forced_wins.proofs.Counts.{by_cases, not_true, true_false}
use Rattle.mate_core.specs.Best.{sooner, if_serves, best, is_as_good, ServesAsMuch, NoneServes, IsFirstOfLeast}

-- ---- queries

pub served : (k : Fact) (r : Repeat) (c n : ℕ) → serves k r c n ≡ true → (k.repeat ≡ r) × (covers k k.wins c n ≡ true)
unfolding serves
served k r c n h =
    let p = and_parts (same_repeat k.repeat r) (covers k k.wins c n) h in ((repeat-decides k.repeat r).0 p.0, p.1)

pub serves-from : (k : Fact) (r : Repeat) (c n : ℕ) → k.repeat ≡ r → covers k k.wins c n ≡ true → serves k r c n ≡ true
unfolding serves
serves-from k r c n e h = both_true ((repeat-decides k.repeat r).1 e) h

covers_itself : (w : Bool) (f : Fact) → covers f w f.counter f.moves ≡ true
covers_itself true f = grind (arith, nat_tests)
covers_itself false f = grind (arith, nat_tests)

covers_along : (w : Bool) (k f : Fact) (c n : ℕ) → covers k w f.counter f.moves ≡ true → covers f w c n ≡ true → covers k w c n ≡ true
covers_along true k f c n g h = grind (arith, nat_tests)
covers_along false k f c n g h = grind (arith, nat_tests)

pub same_bool-decides : (a b : Bool) → Decides (same_bool a b) (a ≡ b)
same_bool-decides true true = (λ _. refl, λ _. refl)
same_bool-decides true false = (λ e. cc, λ e. cc)
same_bool-decides false true = (λ e. cc, λ e. cc)
same_bool-decides false false = (λ _. refl, λ _. refl)

as_much : (k f : Fact) → is_as_good k f ≡ true → ServesAsMuch k f
unfolding is_as_good
as_much k f h =
    let p = and_parts (same_bool k.wins f.wins) (serves k f.repeat f.counter f.moves) h in
    let kind = (same_bool-decides k.wins f.wins).0 p.0 in
    let own = served k f.repeat f.counter f.moves p.1 in
    record {
      repeat = own.0;
      kind = kind;
      serves_all = λ r c n s.
          let q = served f r c n s in
          let P : Bool → Type 0 = λ w. covers f w c n ≡ true in
          serves-from k r c n (own.0 ∙ q.0) (covers_along k.wins k f c n own.1 (subst P (sym kind) q.1));
    }

pub as_good-decides : (k f : Fact) → Decides (is_as_good k f) (ServesAsMuch k f)
unfolding is_as_good
as_good-decides k f = (
  as_much k f,
  λ s. both_true ((same_bool-decides k.wins f.wins).1 s.kind) (s.serves_all f.repeat f.counter f.moves (serves-from f f.repeat f.counter f.moves refl (covers_itself f.wins f))),
)

-- ---- the best answer

pub sooner-none : (a : Option Fact) → sooner a None ≡ a
sooner-none None = refl
sooner-none (Some f) = refl

pub sooner-assoc : (a b c : Option Fact) → sooner (sooner a b) c ≡ sooner a (sooner b c)
sooner-assoc None b c = refl
sooner-assoc (Some f) None c = refl
sooner-assoc (Some f) (Some g) None = sooner-none (sooner (Some f) (Some g))
sooner-assoc (Some f) (Some g) (Some h) = grind (arith, nat_tests)

pub best-append : (xs ys : List Fact) (r : Repeat) (c n : ℕ) → best (xs ++ ys) r c n ≡ sooner (best xs r c n) (best ys r c n)
unfolding best
best-append [] ys r c n = refl
best-append (x ∷ xs) ys r c n =
    ap (sooner (if_serves x r c n)) (best-append xs ys r c n) ∙ sym (sooner-assoc (if_serves x r c n) (best xs r c n) (best ys r c n))

pub best-push : (xs : List Fact) (f : Fact) (r : Repeat) (c n : ℕ) → best (xs ++ f ∷ []) r c n ≡ sooner (best xs r c n) (if_serves f r c n)
unfolding best
best-push xs f r c n = best-append xs (f ∷ []) r c n ∙ ap (sooner (best xs r c n)) (sooner-none (if_serves f r c n))

-- a walk over the list finds it
pub best-fold : (r : Repeat) (c n : ℕ) (a : Option Fact) (fs : List Fact) → fold (λ o f. sooner o (if_serves f r c n)) a fs ≡ sooner a (best fs r c n)
unfolding best
best-fold r c n a [] = sym (sooner-none a)
best-fold r c n a (f ∷ fs) =
    best-fold r c n (sooner a (if_serves f r c n)) fs ∙ sooner-assoc a (if_serves f r c n) (best fs r c n)

best_skips : (f : Fact) (fs : List Fact) (r : Repeat) (c n : ℕ) → serves f r c n ≡ false → best (f ∷ fs) r c n ≡ best fs r c n
unfolding best
best_skips f fs r c n e = ap (λ b. sooner (if b then Some f else None) (best fs r c n)) e

best_takes : (f : Fact) (fs : List Fact) (r : Repeat) (c n : ℕ) → serves f r c n ≡ true → best (f ∷ fs) r c n ≡ sooner (Some f) (best fs r c n)
unfolding best
best_takes f fs r c n e = ap (λ b. sooner (if b then Some f else None) (best fs r c n)) e

sooner_some : (f : Fact) (o : Option Fact) → sooner (Some f) o ≡ None → ⊥
sooner_some f None e = cc
sooner_some f (Some g) e = by_cases (nat_le f.moves g.moves)
    (λ t. let h : sooner (Some f) (Some g) ≡ Some f = ap (λ b. if b then Some f else Some g) t in cc)
    (λ t. let h : sooner (Some f) (Some g) ≡ Some g = ap (λ b. if b then Some f else Some g) t in cc)

none-serves : (fs : List Fact) (r : Repeat) (c n : ℕ) → best fs r c n ≡ None → NoneServes fs r c n
none-serves [] r c n e i g at = absurd (let h : ◌≡◌ {A = Option Fact} None (Some g) = at in cc)
none-serves (f ∷ fs) r c n e zero g at =
    let same : f ≡ g = cc in
    not_true (serves g r c n)
    (λ t.
    let P : Fact → Type 0 = λ h. serves h r c n ≡ true in
    sooner_some f (best fs r c n) (sym (best_takes f fs r c n (subst P (sym same) t)) ∙ e))
none-serves (f ∷ fs) r c n e (suc i) g at =
    by_cases (serves f r c n)
    (λ t. absurd (sooner_some f (best fs r c n) (sym (best_takes f fs r c n t) ∙ e)))
    (λ t. none-serves fs r c n (sym (best_skips f fs r c n t) ∙ e) i g at)

none-found : (fs : List Fact) (r : Repeat) (c n : ℕ) → NoneServes fs r c n → best fs r c n ≡ None
unfolding best
none-found [] r c n none = refl
none-found (f ∷ fs) r c n none =
    best_skips f fs r c n (none 0 f refl) ∙ none-found fs r c n (λ i g at. none (suc i) g at)

pub best-none : (fs : List Fact) (r : Repeat) (c n : ℕ) → (best fs r c n ≡ None) ↔ NoneServes fs r c n
best-none fs r c n = (none-serves fs r c n, none-found fs r c n)

-- of two answers one is taken
sooner_cases : {C : Type 0} (f : Fact) (o : Option Fact) (h : Fact) → sooner (Some f) o ≡ Some h → (o ≡ None → f ≡ h → C) → ((g : Fact) → o ≡ Some g → f.moves ≤ g.moves → f ≡ h → C) → (o ≡ Some h → h.moves < f.moves → C) → C
sooner_cases f None h e alone first second = alone refl cc
sooner_cases f (Some g) h e alone first second =
    by_cases (nat_le f.moves g.moves)
    (λ t.
    let s : sooner (Some f) (Some g) ≡ Some f = ap (λ b. if b then Some f else Some g) t in
    first g refl (leb-true f.moves g.moves t) cc)
    (λ t.
    let s : sooner (Some f) (Some g) ≡ Some g = ap (λ b. if b then Some f else Some g) t in
    let same : g ≡ h = cc in
    let less : g.moves < f.moves = grind (arith, nat_tests) in
    let fewer : h.moves < f.moves = (let P : Fact → Type 0 = λ x. x.moves < f.moves in subst P same less) in
    let is : ◌≡◌ {A = Option Fact} (Some g) (Some h) = ap (λ x. Some x) same in second is fewer)

-- behind a fact that the best one beats, or that does not serve
behind : (f : Fact) (fs : List Fact) (r : Repeat) (c n : ℕ) (h : Fact) → (serves f r c n ≡ true → h.moves < f.moves) → IsFirstOfLeast fs r c n h → IsFirstOfLeast (f ∷ fs) r c n h
behind f fs r c n h less s = record {
  place = suc s.place;
  stands = s.stands;
  serves_it = s.serves_it;
  least = least;
  first = first;
}
  where
    least : (i : ℕ) (g : Fact) → slice_get (f ∷ fs) i ≡ Some g → serves g r c n ≡ true → h.moves ≤ g.moves
    least zero g at t =
        let same : f ≡ g = cc in
        let P : Fact → Type 0 = λ x. serves x r c n ≡ true in
        let Q : Fact → Type 0 = λ x. h.moves ≤ x.moves in
        let below : h.moves < f.moves = less (subst P (sym same) t) in
        subst Q same (omega arith)
    least (suc i) g at t = s.least i g at t

    first : (i : ℕ) (g : Fact) → i < suc s.place → slice_get (f ∷ fs) i ≡ Some g → serves g r c n ≡ true → h.moves < g.moves
    first zero g l at t =
        let same : f ≡ g = cc in
        let P : Fact → Type 0 = λ x. serves x r c n ≡ true in
        let Q : Fact → Type 0 = λ x. h.moves < x.moves in
        subst Q same (less (subst P (sym same) t))
    first (suc i) g l at t = s.first i g (omega arith) at t

-- the first fact serves, and no later one has fewer moves
in_front : (f : Fact) (fs : List Fact) (r : Repeat) (c n : ℕ) → serves f r c n ≡ true → ((i : ℕ) (g : Fact) → slice_get fs i ≡ Some g → serves g r c n ≡ true → f.moves ≤ g.moves) → IsFirstOfLeast (f ∷ fs) r c n f
in_front f fs r c n t others = record {
  place = 0;
  stands = refl;
  serves_it = t;
  least = least;
  first = λ i g l at s. absurd (omega arith);
}
  where
    least : (i : ℕ) (g : Fact) → slice_get (f ∷ fs) i ≡ Some g → serves g r c n ≡ true → f.moves ≤ g.moves
    least zero g at s =
        let same : f ≡ g = cc in
        let Q : Fact → Type 0 = λ x. f.moves ≤ x.moves in subst Q same (omega arith)
    least (suc i) g at s = others i g at s

best_of_none : (r : Repeat) (c n : ℕ) (h : Fact) → best [] r c n ≡ Some h → ⊥
unfolding best
best_of_none r c n h e = let f : ◌≡◌ {A = Option Fact} None (Some h) = e in cc

pub best-some : (fs : List Fact) (r : Repeat) (c n : ℕ) (h : Fact) → best fs r c n ≡ Some h → IsFirstOfLeast fs r c n h
best-some [] r c n h e = absurd (best_of_none r c n h e)
best-some (f ∷ fs) r c n h e =
    by_cases (serves f r c n)
    (λ t.
    let to_front : f ≡ h → ((i : ℕ) (g : Fact) → slice_get fs i ≡ Some g → serves g r c n ≡ true → f.moves ≤ g.moves) → IsFirstOfLeast (f ∷ fs) r c n h =
    λ same others. let P : Fact → Type 0 = IsFirstOfLeast (f ∷ fs) r c n in subst P same (in_front f fs r c n t others) in
    sooner_cases f (best fs r c n) h (sym (best_takes f fs r c n t) ∙ e)
    (λ none same. to_front same (λ i g at s. absurd (true_false (serves g r c n) s (none-serves fs r c n none i g at))))
    (λ g some few same. to_front same (λ i k at s. let l = (best-some fs r c n g some).least i k at s in omega arith))
    (λ some less. behind f fs r c n h (λ _. less) (best-some fs r c n h some)))
    (λ t.
    behind f fs r c n h (λ s. absurd (true_false (serves f r c n) s t)) (best-some fs r c n h (sym (best_skips f fs r c n t) ∙ e)))
