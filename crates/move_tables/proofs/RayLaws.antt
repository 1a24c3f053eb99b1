-- What a ray reaches, by counting the occupied squares of its set.
use Rattle.std.proofs.Common.{◌≡◌, ◌≢◌, ℕ, zero, suc, ◌+◌, ◌<◌, ◌≤◌, Bool, true, false, ◌&&◌, ◌||◌, not, ◌==◌, if◌then◌else◌, Option, Some, None, List, is_some, refl, ap, sym, ◌∙◌, arith}
use Rattle.std.proofs.lemmas.Bool.{eqb-true, ne_eqb, and_right, not-false, false_from_ne_true}
use Rattle.std.proofs.lemmas.Bool.Decides.{Decides-eqb}
use Rattle.std.proofs.Math.Bool.{and-false, or-false, or-true}
use Rattle.foundation.specs.Count.{any_below}
use Rattle.foundation.proofs.CountLemmas.{any_below-none, any_below-true, any_below-some, any_below-zero}
use Rattle.rules_model.specs.declared.board.Cell.{Cell}
use Rattle.rules_model.specs.declared.reach.Ray.{Ray}
use Rattle.rules_model.specs.declared.rules.Way.{Way}
use Rattle.rules_model.specs.declared.rules.Way.TheVariants.{Grass}
use Rattle.rules_model.specs.Reach.{blockers, is_at, passes, reaches_over, weight, weight_of}
use Rattle.rules_model.specs.Squares.{cell_at, step_to}
use Rattle.square_set.specs.declared.Set.{Set}
use Rattle.square_set.specs.Members.{before, count_below, has, place}
use Rattle.square_set.proofs.Cases.{by_bool, by_order, by_equal, same_both}
use Rattle.square_set.proofs.CountLaws.{before-none, before-at, count_below-add, count_below-cut, count_below-none, count_below-same, place-place, place-lt}
use Rattle.move_tables.specs.Lines.{is_after, is_past}
use Rattle.move_tables.specs.Occupied.{IsOccupied}
use Rattle.move_tables.specs.Rays.{IsRay, on_ray, rises}
use Rattle.move_tables.proofs.OrderLaws.{is_at_step, below_120, ordered, step_between}

-- the square of a step, where it is there
pub at_some : (s : ℕ) (o : Option ℕ) → is_at s o ≡ true → o ≡ Some s
at_some s None e = absurd (let g : ⊥ = cc in g)
at_some s (Some r) e = ap Some ((Decides-eqb r s).0 e)

pub some_at : (s : ℕ) (o : Option ℕ) → o ≡ Some s → is_at s o ≡ true
some_at s o e = rw e ((Decides-eqb s s).1 refl)

some_same : {a b : ℕ} → Some a ≡ Some b → a ≡ b
some_same {a} {b} e = cc

cell_small : (c : Option Cell) → weight_of c < 2
cell_small None = omega arith
cell_small (Some c) = omega arith

pub weight_is : (c : Option Cell) → weight_of c ≡ (if is_some c then 1 else 0)
weight_is None = refl
weight_is (Some c) = refl

module _ (ray : Ray) (ok : IsRay ray) where
  abbrev r : Bool
  r = rises ray.dx ray.dy

  before_step : (i j a b : ℕ) → i < j → step_to ray i ≡ Some a → step_to ray j ≡ Some b → place r a < place r b
  before_step i j a b l e f = ordered ray ok i j a b l (is_at_step ray ok i a e) (is_at_step ray ok j b f)

  pub small : (k s : ℕ) → step_to ray k ≡ Some s → s < 128
  small k s e = let h = below_120 ray k s (is_at_step ray ok k s e) in omega (arith, h)

  -- a square is that of one step
  pub one_step : (i j t : ℕ) → step_to ray i ≡ Some t → step_to ray j ≡ Some t → i ≡ j
  one_step i j t e f =
      by_order i j (i ≡ j) (λ l. let h = before_step i j t t l e f in absurd (omega (arith, h)))
      (λ l. by_order j i (i ≡ j) (λ m. let h = before_step j i t t m f e in absurd (omega (arith, h))) (λ m. omega (arith, l, m)))

  -- the square of the next step is not among the earlier
  fresh : (k s : ℕ) → step_to ray (suc k) ≡ Some s → on_ray ray k s ≡ false
  fresh k s e = any_below-none (λ i. is_at s (step_to ray (suc i))) k (λ i l. false_from_ne_true (is_at s (step_to ray (suc i))) (λ h. let q = one_step (suc i) (suc k) s (at_some s (step_to ray (suc i)) h) e in omega (arith, q, l)))

  more : (k u : ℕ) → on_ray ray (suc k) u ≡ (on_ray ray k u || is_at u (step_to ray (suc k)))
  unfolding any_below
  more k u = refl

  module _ (cells : List (Option Cell)) (occupied : Set) (is : IsOccupied occupied cells) where
    abbrev member : ℕ → ℕ → Bool
    member k u = on_ray ray k u && has occupied u

    abbrev counted : ℕ → ℕ
    counted k = count_below (λ i. member k (place r i)) 128

    grow : (k : ℕ) (o : Option ℕ) → step_to ray (suc k) ≡ o → counted (suc k) ≡ counted k + weight cells o
    grow k None e =
        let same : counted (suc k) ≡ counted k = count_below-same (λ i. member (suc k) (place r i)) (λ i. member k (place r i)) 128 (λ i l. ap (λ b. b && has occupied (place r i)) (more k (place r i) ∙ rw e (or-false (on_ray ray k (place r i))))) in
        omega (arith, same)
    grow k (Some s) e =
        let small_s = small (suc k) s e in
        let turn = place-place r s small_s in
        let old : member k (place r (place r s)) ≡ false = rw turn (ap (λ b. b && has occupied s) (fresh k s e)) in
        let new : member (suc k) (place r (place r s)) ≡ has occupied s = rw turn (ap (λ b. b && has occupied s) (more k s ∙ ap (λ b. on_ray ray k s || b) (some_at s (step_to ray (suc k)) e) ∙ or-true (on_ray ray k s))) in
        let others : (i : ℕ) → i < 128 → i ≢ place r s → member (suc k) (place r i) ≡ member k (place r i) =
        λ i l d. ap (λ b. b && has occupied (place r i)) (more k (place r i) ∙ ap (λ b. on_ray ray k (place r i) || b)
        (false_from_ne_true (is_at (place r i) (step_to ray (suc k))) (λ h. d (let q : place r i ≡ s = some_same (sym (at_some (place r i) (step_to ray (suc k)) h) ∙ e) in sym (place-place r i l) ∙ ap (place r) q)))
        ∙ or-false (on_ray ray k (place r i))) in
        count_below-add (λ i. member k (place r i)) (λ i. member (suc k) (place r i)) 128 (place r s) (has occupied s) (place-lt r s small_s) old new others
        ∙ ap (λ w. counted k + w) (ap (λ b. if b then 1 else 0) (is s) ∙ sym (weight_is (cell_at cells s)))

    -- the blockers are the occupied squares of the ray
    pub blockers_counted : (k : ℕ) → blockers cells ray k ≡ counted k
    unfolding blockers
    blockers_counted zero = sym (count_below-none (λ i. member zero (place r i)) 128 (λ i l. ap (λ b. b && has occupied (place r i)) (any_below-zero (λ j. is_at (place r i) (step_to ray (suc j))))))
    blockers_counted (suc k) = let h = grow k (step_to ray (suc k)) refl in let g = blockers_counted k in omega (arith, h, g)

    earlier : (k n t u : ℕ) → k ≤ n → step_to ray (suc k) ≡ Some t → place r u < place r t → on_ray ray k u ≡ on_ray ray n u
    earlier k n t u l e p =
        same_both (on_ray ray k u) (on_ray ray n u)
        (λ h. let w = any_below-some (λ j. is_at u (step_to ray (suc j))) k h in any_below-true (λ j. is_at u (step_to ray (suc j))) n w.0 (omega (arith, w.1, l)) w.2)
        (λ h.
        let w = any_below-some (λ j. is_at u (step_to ray (suc j))) n h in
        let f = at_some u (step_to ray (suc w.0)) w.2 in
        by_order w.0 k (on_ray ray k u ≡ true)
        (λ m. any_below-true (λ j. is_at u (step_to ray (suc j))) k w.0 m w.2)
        (λ m. absurd (by_equal w.0 k ⊥
        (λ q v. let s : u ≡ t = some_same (sym f ∙ ap (λ j. step_to ray (suc j)) v ∙ e) in let z = ap (place r) s in omega (arith, p, z))
        (λ q v. let z = before_step (suc k) (suc w.0) t u (omega (arith, m, v)) e f in omega (arith, p, z)))))

    -- on the way to a square of the ray, the blockers are the occupied squares of the set before it
    pub blockers_before : (k n t : ℕ) → k < n → step_to ray (suc k) ≡ Some t → blockers cells ray k ≡ before r (λ u. on_ray ray n u && has occupied u) t
    blockers_before k n t l e =
        let lt = place-lt r t (small (suc k) t e) in
        blockers_counted k ∙
        count_below-cut (λ i. member k (place r i)) (λ i. on_ray ray n (place r i) && has occupied (place r i)) 128 (place r t) (omega (arith, lt))
        (λ i m. ap (λ b. b && has occupied (place r i)) (earlier k n t (place r i) (omega (arith, l)) e (let q = place-place r i (omega (arith, m, lt)) in omega (arith, m, q))))
        (λ i m q. ap (λ b. b && has occupied (place r i)) (false_from_ne_true (on_ray ray k (place r i)) (λ h.
        let w = any_below-some (λ j. is_at (place r i) (step_to ray (suc j))) k h in
        let z = before_step (suc w.0) (suc k) (place r i) t (omega (arith, w.1)) (at_some (place r i) (step_to ray (suc w.0)) w.2) e in
        let v = place-place r i q in omega (arith, z, v, m))))

    -- the occupied squares of the ray to n steps
    abbrev met : ℕ → ℕ → Bool
    met n u = on_ray ray n u && has occupied u

    -- the squares of the ray after such a one
    abbrev past : ℕ → ℕ → Bool
    past n = is_past r (on_ray ray n) (met n)

    -- a way by which a square of the ray is reached where a test passes
    by_step : (way : Way) (n t : ℕ) (test : Bool) → ((w : ℕ) → w < n → step_to ray (suc w) ≡ Some t → passes cells way ray w ≡ test) → any_below (reaches_over cells way ray t) n ≡ (on_ray ray n t && test)
    unfolding reaches_over
    by_step way n t test h =
        by_bool (on_ray ray n t) (any_below (reaches_over cells way ray t) n ≡ (on_ray ray n t && test))
        (λ e.
        let w = any_below-some (λ j. is_at t (step_to ray (suc j))) n e in
        let f = at_some t (step_to ray (suc w.0)) w.2 in
        let here : reaches_over cells way ray t w.0 ≡ test = ap (λ x. x && passes cells way ray w.0) w.2 ∙ h w.0 w.1 f in
        rw e
        (by_bool test (any_below (reaches_over cells way ray t) n ≡ test)
        (λ p. any_below-true (reaches_over cells way ray t) n w.0 w.1 (here ∙ p) ∙ sym p)
        (λ p. any_below-none (reaches_over cells way ray t) n (λ j m. by_bool (is_at t (step_to ray (suc j))) (reaches_over cells way ray t j ≡ false)
        (λ q. let v = one_step (suc j) (suc w.0) t (at_some t (step_to ray (suc j)) q) f in let z : j ≡ w.0 = omega (arith, v) in ap (reaches_over cells way ray t) z ∙ here ∙ p)
        (λ q. ap (λ x. x && passes cells way ray j) q)) ∙ sym p)))
        (λ e. rw e (any_below-none (reaches_over cells way ray t) n (λ j m. ap (λ x. x && passes cells way ray j)
        (false_from_ne_true (is_at t (step_to ray (suc j))) (λ q. let z = any_below-true (λ j. is_at t (step_to ray (suc j))) n j m q in cc)))))

    -- a way whose passage is a number of blockers
    pub line_reaches : (way : Way) (c n t : ℕ) → ((j : ℕ) → passes cells way ray j ≡ (blockers cells ray j == c)) → any_below (reaches_over cells way ray t) n ≡ (on_ray ray n t && (before r (met n) t == c))
    line_reaches way c n t h = by_step way n t (before r (met n) t == c) (λ w l e. h w ∙ ap (λ x. x == c) (blockers_before w n t l e))

    -- ---- the way whose one blocker is the square right before

    weight_small : (o : Option ℕ) → weight cells o < 2
    weight_small None = omega arith
    weight_small (Some s) = cell_small (cell_at cells s)

    more_blockers : (k : ℕ) → blockers cells ray (suc k) ≡ blockers cells ray k + weight cells (step_to ray (suc k))
    unfolding blockers
    more_blockers k = refl

    no_blockers : blockers cells ray 0 ≡ 0
    unfolding blockers
    no_blockers = refl

    -- fewer steps meet no more blockers
    mono : (i j : ℕ) → i ≤ j → blockers cells ray i ≤ blockers cells ray j
    mono i zero l = let e : i ≡ 0 = omega (arith, l) in rw e (omega arith)
    mono i (suc j) l =
        by_equal i (suc j) (blockers cells ray i ≤ blockers cells ray (suc j))
        (λ t e. rw e (omega arith))
        (λ t e. let h = mono i j (omega (arith, l, e)) in let m = more_blockers j in omega (arith, h, m))

    blocked_next : (k : ℕ) → 0 < blockers cells ray (suc k) → (o : Option ℕ) → step_to ray (suc k) ≡ o → (0 < blockers cells ray k → (i : ℕ) × (i < k) × (s : ℕ) × (step_to ray (suc i) ≡ Some s)) → (i : ℕ) × (i < suc k) × (s : ℕ) × (step_to ray (suc i) ≡ Some s)
    blocked_next k l None e earlier =
        let m = more_blockers k ∙ ap (λ o. blockers cells ray k + weight cells o) e in
        let h = earlier (omega (arith, l, m)) in
        (h.0, omega (arith, h.1), h.2, h.3)
    blocked_next k l (Some s) e earlier = (k, omega arith, s, e)

    -- where there are blockers, one of the steps is on the board
    blocked : (k : ℕ) → 0 < blockers cells ray k → (i : ℕ) × (i < k) × (s : ℕ) × (step_to ray (suc i) ≡ Some s)
    blocked zero l = absurd (let z = no_blockers in omega (arith, l, z))
    blocked (suc k) l = blocked_next k l (step_to ray (suc k)) refl (blocked k)

    -- no square of the ray is past a blocker before t exactly where the squares before the last have none
    none_past : (v n t : ℕ) → suc v < n → step_to ray (suc (suc v)) ≡ Some t → blockers cells ray v ≡ 0 → (before r (past n) t == 0) ≡ true
    none_past v n t l e z =
        before-none r (past n) t (small (suc (suc v)) t e) (λ u k p.
        by_bool (on_ray ray n u) (past n u ≡ false)
        (λ on.
        let w = any_below-some (λ j. is_at u (step_to ray (suc j))) n on in
        let f = at_some u (step_to ray (suc w.0)) w.2 in
        by_order v w.0 (past n u ≡ false)
        (λ m. absurd (by_equal w.0 (suc v) ⊥
        (λ q x. let same : u ≡ t = some_same (sym f ∙ ap (λ j. step_to ray (suc j)) x ∙ e) in let y = ap (place r) same in omega (arith, p, y))
        (λ q x. let y = before_step (suc (suc v)) (suc w.0) t u (omega (arith, m, x)) e f in omega (arith, p, y))))
        (λ m.
        let few = mono w.0 v m in
        let b = blockers_before w.0 n u w.1 f in
        let none : before r (met n) u ≡ 0 = omega (arith, few, b, z) in
        rw (on, none) refl))
        (λ on. rw on refl))

    past_none : (v n t s : ℕ) → suc v < n → step_to ray (suc (suc v)) ≡ Some t → step_to ray (suc v) ≡ Some s → (before r (past n) t == 0) ≡ true → blockers cells ray v ≡ 0
    past_none v n t s l e f q =
        let on : on_ray ray n s ≡ true = any_below-true (λ j. is_at s (step_to ray (suc j))) n v (omega (arith, l)) (some_at s (step_to ray (suc v)) f) in
        let no = before-at r (past n) t s q (small (suc v) s f) (before_step (suc v) (suc (suc v)) s t (omega arith) f e) in
        let none : not (before r (met n) s == 0) ≡ false = sym (ap (λ b. b && not (before r (met n) s == 0)) on) ∙ no in
        blockers_before v n s (omega (arith, l)) f ∙ eqb-true (before r (met n) s) 0 (not-false (before r (met n) s == 0) none)

    one_there : (b w : ℕ) → w < 2 → b ≡ 0 → ((b + w == 1) && (w == 1)) ≡ (not (b + w == 0) && true)
    one_there b zero l e = rw e refl
    one_there b (suc zero) l e = rw e refl
    one_there b (suc (suc w)) l e = absurd (omega (arith, l))

    two_there : (b w : ℕ) → w < 2 → (b ≡ 0 → ⊥) → ((b + w == 1) && (w == 1)) ≡ (not (b + w == 0) && false)
    two_there b zero l e = and_right (b + 0 == 1) (0 == 1) refl ∙ sym (and-false (not (b + 0 == 0)))
    two_there b (suc zero) l e = rw (ne_eqb (b + 1) 1 (λ h. e (omega (arith, h)))) (sym (and-false (not (b + 1 == 0))))
    two_there b (suc (suc w)) l e = absurd (omega (arith, l))

    abbrev Lands : ℕ → ℕ → ℕ → Type 0
    Lands n t k = ((blockers cells ray k == 1) && (weight cells (step_to ray k) == 1)) ≡ (is_after r (met n) t && (before r (past n) t == 0))

    lands_some : (v n t s : ℕ) → suc v < n → step_to ray (suc (suc v)) ≡ Some t → step_to ray (suc v) ≡ Some s → Lands n t (suc v)
    lands_some v n t s l e f =
        let b = blockers_before (suc v) n t l e in
        let m = more_blockers v in
        let here : ((blockers cells ray v + weight cells (step_to ray (suc v)) == 1) && (weight cells (step_to ray (suc v)) == 1)) ≡ (not (blockers cells ray v + weight cells (step_to ray (suc v)) == 0) && (before r (past n) t == 0)) =
        by_bool (before r (past n) t == 0) (((blockers cells ray v + weight cells (step_to ray (suc v)) == 1) && (weight cells (step_to ray (suc v)) == 1)) ≡ (not (blockers cells ray v + weight cells (step_to ray (suc v)) == 0) && (before r (past n) t == 0)))
        (λ q. rw q (one_there (blockers cells ray v) (weight cells (step_to ray (suc v))) (weight_small (step_to ray (suc v))) (past_none v n t s l e f q)))
        (λ q. rw q (two_there (blockers cells ray v) (weight cells (step_to ray (suc v))) (weight_small (step_to ray (suc v))) (λ z. let y = none_past v n t l e z in cc))) in
        rw (sym b, m) here

    lands_none : (v n t : ℕ) → suc v < n → step_to ray (suc (suc v)) ≡ Some t → step_to ray (suc v) ≡ None → Lands n t (suc v)
    lands_none v n t l e f =
        let b = blockers_before (suc v) n t l e in
        let m = more_blockers v ∙ ap (λ o. blockers cells ray v + weight cells o) f in
        let clear : blockers cells ray v ≡ 0 =
        by_equal (blockers cells ray v) 0 (blockers cells ray v ≡ 0) (λ q x. x)
        (λ q x. absurd (let h = blocked v (omega (arith, x)) in let k = step_between ray (suc h.0) (suc v) (suc (suc v)) h.2 t (omega (arith, h.1)) (omega arith) h.3 e in let y = sym f ∙ k.1 in cc)) in
        let none : blockers cells ray (suc v) ≡ 0 = omega (arith, m, clear) in
        let nothing : before r (met n) t ≡ 0 = sym b ∙ none in
        rw (none, nothing) refl

    lands_by : (v n t : ℕ) → suc v < n → step_to ray (suc (suc v)) ≡ Some t → (o : Option ℕ) → step_to ray (suc v) ≡ o → Lands n t (suc v)
    lands_by v n t l e None f = lands_none v n t l e f
    lands_by v n t l e (Some s) f = lands_some v n t s l e f

    lands : (w n t : ℕ) → w < n → step_to ray (suc w) ≡ Some t → Lands n t w
    lands zero n t l e =
        let b = sym (blockers_before zero n t l e) ∙ no_blockers in
        let z = no_blockers in
        rw (z, b) refl
    lands (suc v) n t l e = lands_by v n t l e (step_to ray (suc v)) refl

    pub grass_lands : (n t : ℕ) → any_below (reaches_over cells Grass ray t) n ≡ (on_ray ray n t && (is_after r (met n) t && (before r (past n) t == 0)))
    unfolding passes
    grass_lands n t = by_step Grass n t (is_after r (met n) t && (before r (past n) t == 0)) (λ w l e. lands w n t l e)
