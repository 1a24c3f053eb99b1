-- The lines on which the attacker always plays a shortest win: their positions, one for each key, and the edges between these.
use Rattle.std.proofs.Common.{◌≡◌, ◌⊎◌, inl, inr, ℕ, zero, suc, ◌+◌, ◌-◌, ◌/◌, ◌<◌, ◌≤◌, List, [], ◌∷◌, map, Bool, true, false, Option, Some, None, not, nat_le, nat_lt, ◌||◌, if◌then◌else◌, slice_get, refl, ap, sym, ◌∙◌, subst, arith}
use Rattle.std.specs.List.{list_any, list_all}
use Rattle.std.specs.Bool.{Decides}
use Rattle.std.proofs.lemmas.Bool.Decides.{nat_tests}
use Rattle.foundation.specs.Member.{Member}
use Rattle.forced_wins.specs.Games.{Game, GameLaws}
use Rattle.forced_wins.specs.PlainTables.{Edge, plain}
use Rattle.forced_wins.specs.Tables.{is_doubled, fits_rank}
use Rattle.forced_wins.proofs.ContestLaws.{if_mono, any_mono, all_mono, any_intro}
use Rattle.forced_wins.proofs.Counts.{by_cases, not_true, le_true}
use Rattle.forced_wins.proofs.TableLaws.{all_member}
use Rattle.forced_wins.proofs.Lists.{gather, gather_in, gathered, first_of_all, found, once, once_in, in_once, Apart, apart_once, place, at_place, map_member, map_in}

-- ---- ranks

halves_down : (b c : ℕ) → c ≤ b → nat_lt (c / 2) ((suc b + 1) / 2) ≡ true
halves_down b c h = lt_true (c / 2) ((suc b + 1) / 2) (omega arith)
  where
    lt_true : (m n : ℕ) → m < n → nat_lt m n ≡ true
    lt_true m n h = grind (arith, nat_tests)

halves_same : (b c : ℕ) → c ≤ b → nat_le ((c + 1) / 2) (suc b / 2) ≡ true
halves_same b c h = le_true ((c + 1) / 2) (suc b / 2) (omega arith)

-- how many of n plies are the attacker's, where he is to move or not
abbrev pub rank_of : Bool → ℕ → ℕ
rank_of true n = (n + 1) / 2
rank_of false n = n / 2

-- where the plies fall, the ranks do as an edge asks
pub falls_at : (x : Bool) (n k : ℕ) → k ≤ n → fits_rank x (rank_of x (suc n)) (rank_of (not x) k) ≡ true
falls_at true n k h = halves_down n k h
falls_at false n k h = halves_same n k h

-- ---- the least number that passes

unfoldable pub least : (ℕ → Bool) → ℕ → ℕ
least f zero = zero
least f (suc t) = if f t then least f t else suc t

above : (t u : ℕ) → (u ≤ t → ⊥) → suc t ≤ u
above t u n = grind arith

module _ (f : ℕ → Bool) (up : (t : ℕ) → f t ≡ true → f (suc t) ≡ true) where
  last_or : (C : Type 0) (k n : ℕ) → k ≤ suc n → (k ≡ suc n → C) → (k ≤ n → C) → C
  last_or C k n h a b = split (order k n h)
    where
      order : (k n : ℕ) → k ≤ suc n → (k ≡ suc n) ⊎ (k ≤ n)
      order k n h = grind arith

      split : (k ≡ suc n) ⊎ (k ≤ n) → C
      split (inl e) = a e
      split (inr e) = b e

  pub upward : (u t : ℕ) → u ≤ t → f u ≡ true → f t ≡ true
  upward u zero h e = let k : u ≡ zero = omega arith in sym (ap f k) ∙ e
  upward u (suc t) h e = last_or (f (suc t) ≡ true) u t h (λ k. sym (ap f k) ∙ e) (λ k. up t (upward u t k e))

  pub least-true : (t : ℕ) → f t ≡ true → f (least f t) ≡ true
  unfolding least
  least-true zero h = h
  least-true (suc t) h = by_cases (f t) (λ e. subst (λ b. f (if b then least f t else suc t) ≡ true) (sym e) (least-true t e)) (λ e. subst (λ b. f (if b then least f t else suc t) ≡ true) (sym e) h)

  pub least-le : (t : ℕ) → least f t ≤ t
  unfolding least
  least-le zero = omega arith
  least-le (suc t) = by_cases (f t) (λ e. let k = least-le t in subst (λ b. (if b then least f t else suc t) ≤ suc t) (sym e) (omega arith)) (λ e. subst (λ b. (if b then least f t else suc t) ≤ suc t) (sym e) (omega arith))

  pub least-min : (t u : ℕ) → f u ≡ true → least f t ≤ u
  unfolding least
  least-min zero u h = omega arith
  least-min (suc t) u h =
      by_cases (f t)
      (λ e. subst (λ b. (if b then least f t else suc t) ≤ u) (sym e) (least-min t u h))
      (λ e. subst (λ b. (if b then least f t else suc t) ≤ u) (sym e) (above t u (λ k. let z = upward u t k h in cc)))

-- ---- moves and their edges

-- no move stands twice in the list
abbrev pub doubled : {M : Type 0} → (M → M → Bool) → List M → Bool
doubled same [] = false
doubled same (m ∷ ms) = list_any (same m) ms || doubled same ms

module _ {P R M : Type 0} (r : Game P R M) where
  any-map : (edge : M → Edge M) → ((c : M) → (edge c).chosen ≡ c) → (m : M) (ms : List M) → list_any (λ (f : Edge M). r.same_move (edge m).chosen f.chosen) (map edge ms) ≡ list_any (r.same_move m) ms
  any-map edge h m [] = refl
  any-map edge h m (x ∷ ms) = rw (h m, h x) (ap (λ b. r.same_move m x || b) (any-map edge h m ms))

  doubled-map : (edge : M → Edge M) → ((c : M) → (edge c).chosen ≡ c) → (ms : List M) → is_doubled r plain (map edge ms) ≡ doubled r.same_move ms
  doubled-map edge h [] = refl
  doubled-map edge h (m ∷ ms) = let a = any-map edge h m ms in let b = doubled-map edge h ms in rw (a, b)

-- ---- the lines

-- what is won within so many plies, and the keys that tell apart the positions to be kept
pub record PlyWins (P R M K : Type 0) (r : Game P R M) : Type 0 where
  pub won : ℕ → P → Bool
  pub longer : (t : ℕ) (p : P) → won t p ≡ true → won (suc t) p ≡ true
  -- an ongoing position that is won goes on to positions that are won by a ply less
  pub goes_on : (t : ℕ) (p : P) → r.own p ≡ None → won t p ≡ true → (u : ℕ) × (t ≡ suc u) × ((if r.attacking p then list_any (λ m. won u (r.next p m)) (r.legal p) else list_all (λ m. won u (r.next p m)) (r.legal p)) ≡ true)
  pub ended : (t : ℕ) (p : P) (w : Bool) → r.own p ≡ Some w → won t p ≡ true → w ≡ true
  pub key : P → K
  pub same : K → K → Bool
  pub decides : (a b : K) → Decides (same a b) (a ≡ b)
  pub alike : (t : ℕ) (p q : P) → key p ≡ key q → won t p ≡ true → won t q ≡ true

module _ {P R M K : Type 0} (r : Game P R M) (s : PlyWins P R M K r) where
  -- each move, or some move of the attacker, leads to a win by t plies
  abbrev pub moves_on : ℕ → P → Bool
  moves_on t p = if r.attacking p then list_any (λ m. s.won t (r.next p m)) (r.legal p) else list_all (λ m. s.won t (r.next p m)) (r.legal p)

  unfoldable pub root_on : P → ℕ → Bool
  root_on root zero = false
  root_on root (suc t) = moves_on t root

  root-up : (root : P) (t : ℕ) → root_on root t ≡ true → root_on root (suc t) ≡ true
  unfolding root_on
  root-up root zero h = cc
  root-up root (suc t) h = if_mono (r.attacking root) _ _ _ _ (any_mono _ _ (r.legal root) (λ m. s.longer t (r.next root m))) (all_mono _ _ (r.legal root) (λ m. s.longer t (r.next root m))) h

  -- the positions on the lines that win by t plies
  unfoldable pub collect : ℕ → P → List P
  collect zero p = p ∷ []
  collect (suc t) p = p ∷ gather (λ m. s.won t (r.next p m)) (λ m. collect t (r.next p m)) (r.legal p)

  head-in : (t : ℕ) (p : P) → Member p (collect t p)
  unfolding collect
  head-in zero p = inl refl
  head-in (suc t) p = inl refl

  inside : (t : ℕ) (p : P) → s.won t p ≡ true → (x : P) → Member x (collect t p) → (u : ℕ) × (u ≤ t) × (s.won u x ≡ true) × ((y : P) → Member y (collect u x) → Member y (collect t p))
  unfolding collect
  inside zero p h x (inl e) = (zero, omega arith, subst (λ z. s.won zero z ≡ true) e h, λ y k. subst (λ z. Member y (collect zero z)) (sym e) k)
  inside zero p h x (inr k) = absurd k
  inside (suc t) p h x (inl e) = (suc t, omega arith, subst (λ z. s.won (suc t) z ≡ true) e h, λ y k. subst (λ z. Member y (collect (suc t) z)) (sym e) k)
  inside (suc t) p h x (inr k) =
      let a = gathered (λ m. s.won t (r.next p m)) (λ m. collect t (r.next p m)) (r.legal p) x k in
      let u = inside t (r.next p a.0) a.2 x a.3 in
      let small = u.1 in
      (u.0, omega arith, u.2, λ y m. inr (gather_in (λ m. s.won t (r.next p m)) (λ m. collect t (r.next p m)) (r.legal p) a.0 y a.1 a.2 (u.3 y m)))

  -- what legal moves keep holds on all lines from a position where it holds
  collect-keeps : (Q : P → Type 0) → ((q : P) (m : M) → Q q → Member m (r.legal q) → Q (r.next q m)) → (t : ℕ) (p : P) → Q p → (x : P) → Member x (collect t p) → Q x
  unfolding collect
  collect-keeps Q go zero p h x (inl e) = subst Q e h
  collect-keeps Q go zero p h x (inr k) = absurd k
  collect-keeps Q go (suc t) p h x (inl e) = subst Q e h
  collect-keeps Q go (suc t) p h x (inr k) =
      let a = gathered (λ m. s.won t (r.next p m)) (λ m. collect t (r.next p m)) (r.legal p) x k in
      collect-keeps Q go t (r.next p a.0) (go p a.0 h a.1) x a.3

  next-inside : (u v : ℕ) (x : P) (m : M) → v < u → Member m (r.legal x) → s.won v (r.next x m) ≡ true → Member (r.next x m) (collect u x)
  unfolding collect
  next-inside zero v x m h k w = absurd (omega arith)
  next-inside (suc u) v x m h k w =
      inr (gather_in (λ m. s.won u (r.next x m)) (λ m. collect u (r.next x m)) (r.legal x) m (r.next x m) k (upward (λ t. s.won t (r.next x m)) (λ t. s.longer t (r.next x m)) v u (omega arith) w) (head-in u (r.next x m)))

-- an ongoing root that goes on to a win, by one ply more than `left` at the least
pub record Shortest (P R M K : Type 0) (r : Game P R M) (s : PlyWins P R M K r) (root : P) : Type 0 where
  pub own : r.own root ≡ None
  pub plies : ℕ
  pub on : root_on r s root plies ≡ true
  pub left : ℕ
  pub is : least (root_on r s root) plies ≡ suc left

-- one that goes on to a win within t plies
pub shortest : {P R M K : Type 0} (r : Game P R M) (s : PlyWins P R M K r) (root : P) → r.own root ≡ None → (t : ℕ) → root_on r s root t ≡ true → (x : Shortest P R M K r s root) × (x.plies ≡ t) × (suc x.left ≤ t)
unfolding root_on
shortest {P = P} {R = R} {M = M} {K = K} r s root own t h = from (least (root_on r s root) t) refl (least-true (root_on r s root) (root-up r s root) t h) (least-le (root_on r s root) (root-up r s root) t)
  where
    from : (k : ℕ) → least (root_on r s root) t ≡ k → root_on r s root k ≡ true → k ≤ t → (x : Shortest P R M K r s root) × (x.plies ≡ t) × (suc x.left ≤ t)
    from zero e on low = cc
    from (suc k) e on low = (record { own = own; plies = t; on = h; left = k; is = e }, refl, low)

module _ {P R M K : Type 0} (r : Game P R M) (s : PlyWins P R M K r) (root : P) (x : Shortest P R M K r s root) where
  pub root_step : moves_on r s x.left root ≡ true
  unfolding root_on
  root_step = subst (λ t. root_on r s root t ≡ true) x.is (least-true (root_on r s root) (root-up r s root) x.plies x.on)

  pub small : suc x.left ≤ x.plies
  small = let e = x.is in let k = least-le (root_on r s root) (root-up r s root) x.plies in omega arith

  -- the positions behind the root
  unfoldable pub tail : List P
  tail = gather (λ m. s.won x.left (r.next root m)) (λ m. collect r s x.left (r.next root m)) (r.legal root)

  -- those that are kept
  abbrev pub rest : List P
  rest = once s.same s.decides s.key tail

  abbrev pub all : List P
  all = root ∷ rest

  pub from_tail : (p : P) → Member p tail → (u : ℕ) × (u ≤ x.left) × (s.won u p ≡ true) × ((y : P) → Member y (collect r s u p) → Member y tail)
  unfolding tail
  from_tail p k =
      let a = gathered (λ m. s.won x.left (r.next root m)) (λ m. collect r s x.left (r.next root m)) (r.legal root) p k in
      let u = inside r s x.left (r.next root a.0) a.2 p a.3 in
      (u.0, u.1, u.2, λ y m. gather_in (λ m. s.won x.left (r.next root m)) (λ m. collect r s x.left (r.next root m)) (r.legal root) a.0 y a.1 a.2 (u.3 y m))

  -- what holds at the root, and is kept by legal moves, holds of each kept position
  pub all-keeps : (Q : P → Type 0) → ((q : P) (m : M) → Q q → Member m (r.legal q) → Q (r.next q m)) → Q root → (p : P) → Member p all → Q p
  unfolding tail
  all-keeps Q go h p (inl e) = subst Q e h
  all-keeps Q go h p (inr k) =
      let a = gathered (λ m. s.won x.left (r.next root m)) (λ m. collect r s x.left (r.next root m)) (r.legal root) p (once_in s.same s.decides s.key tail p k) in
      collect-keeps r s Q go x.left (r.next root a.0) (go root a.0 h a.1) p a.3

  -- the root's key stands at the root alone
  pub not_root : (p : P) → Member p tail → s.key p ≡ s.key root → ⊥
  unfolding root_on
  not_root p k e =
      let u = from_tail p k in
      let h = s.goes_on u.0 root x.own (s.alike u.0 p root e u.2) in
      let size = h.1 in
      let low = u.1 in
      let is = x.is in
      let on : root_on r s root (suc h.0) ≡ true = h.2 in
      let m = least-min (root_on r s root) (root-up r s root) x.plies (suc h.0) on in omega arith

  -- the least number of plies by which a position is won
  unfoldable pub budget : P → ℕ
  budget p = if s.same (s.key p) (s.key root) then suc x.left else least (λ t. s.won t p) x.plies

  pub budget-root : budget root ≡ suc x.left
  unfolding budget
  budget-root = let e = (s.decides (s.key root) (s.key root)).1 refl in rw e

  budget-tail : (p : P) → (s.key p ≡ s.key root → ⊥) → budget p ≡ least (λ t. s.won t p) x.plies
  unfolding budget
  budget-tail p n = let e = not_true (s.same (s.key p) (s.key root)) (λ t. n ((s.decides _ _).0 t)) in rw e

  -- what an ongoing position of the plan may count on
  pub record Step (p : P) : Type 0 where
    pub left : ℕ
    pub is : budget p ≡ suc left
    pub on : moves_on r s left p ≡ true
    pub near : suc left ≤ x.plies
    pub into : (m : M) → Member m (r.legal p) → s.won left (r.next p m) ≡ true → (z : P) × Member z tail × (s.key z ≡ s.key (r.next p m))

  step-root : Step root
  unfolding tail
  step-root = record {
    left = x.left;
    is = budget-root;
    on = root_step;
    near = small;
    into = λ m k h. (r.next root m, gather_in (λ m. s.won x.left (r.next root m)) (λ m. collect r s x.left (r.next root m)) (r.legal root) m (r.next root m) k h (head-in r s x.left (r.next root m)), refl);
  }

  step-tail : (p : P) → Member p tail → r.own p ≡ None → Step p
  step-tail p k e =
      let u = from_tail p k in
      let low = u.1 in
      let top = small in
      let h = upward (λ t. s.won t p) (λ t. s.longer t p) u.0 x.plies (omega arith) u.2 in
      let w = least-true (λ t. s.won t p) (λ t. s.longer t p) x.plies h in
      let a = s.goes_on (least (λ t. s.won t p) x.plies) p e w in
      let size = a.1 in
      let m = least-min (λ t. s.won t p) (λ t. s.longer t p) x.plies u.0 u.2 in
      record {
        left = a.0;
        is = budget-tail p (not_root p k) ∙ a.1;
        on = a.2;
        near = omega arith;
        into = λ c is won. (r.next p c, u.3 (r.next p c) (next-inside r s u.0 a.0 p c (omega arith) is won), refl);
      }

  -- a kept position is won, or it goes on
  pub facts : (p : P) → Member p all → ((w : Bool) → r.own p ≡ Some w → w ≡ true) × (r.own p ≡ None → Step p)
  facts p (inl e) = subst (λ q. ((w : Bool) → r.own q ≡ Some w → w ≡ true) × (r.own q ≡ None → Step q)) e (λ w h. let o = x.own in cc, λ _. step-root)
  facts p (inr k) =
      let t = once_in s.same s.decides s.key tail p k in
      let u = from_tail p t in (λ w h. s.ended u.0 p w h u.2, step-tail p t)

  pub apart_all : Apart s.same s.decides s.key all
  apart_all = (λ z k e. not_root z (once_in s.same s.decides s.key tail z k) e, apart_once s.same s.decides s.key tail)

  -- ---- edges

  abbrev pub edge : P → M → Edge M
  edge p m = record { chosen = m; to = place s.same s.decides s.key (s.key (r.next p m)) all }

  unfoldable pub edges_at : P → Option Bool → Bool → List (Edge M)
  edges_at p (Some w) attacking = []
  edges_at p None true = map (edge p) (first_of_all (λ m. s.won (budget p - 1) (r.next p m)) (r.legal p))
  edges_at p None false = map (edge p) (r.legal p)

  -- an edge to a win by less leads to a kept position that is won by less
  pub led : (p : P) (step : Step p) (m : M) → Member m (r.legal p) → s.won step.left (r.next p m) ≡ true → (y : P) × (slice_get all (edge p m).to ≡ Some y) × (s.key y ≡ s.key (r.next p m)) × (budget y ≤ step.left) × (budget y ≤ x.plies)
  led p step m k w =
      let z = step.into m k w in
      let q = in_once s.same s.decides s.key tail z.0 z.1 in
      let y = at_place s.same s.decides s.key (s.key (r.next p m)) all q.0 (inr q.1) (q.2 ∙ z.2) in
      let size = budget-tail y.0 (λ e. not_root z.0 z.1 (z.2 ∙ sym y.2 ∙ e)) in
      let less = least-min (λ t. s.won t y.0) (λ t. s.longer t y.0) x.plies step.left (s.alike step.left (r.next p m) y.0 (sym y.2) w) in
      let most = least-le (λ t. s.won t y.0) (λ t. s.longer t y.0) x.plies in
      (y.0, y.1, y.2, omega arith, omega arith)

  pub ended-edges : (p : P) (w : Bool) → r.own p ≡ Some w → edges_at p (r.own p) (r.attacking p) ≡ []
  unfolding edges_at
  ended-edges p w e = rw e

  -- the attacker has one edge
  pub attack-edge : (p : P) (step : Step p) → r.own p ≡ None → r.attacking p ≡ true → (m : M) × (edges_at p (r.own p) (r.attacking p) ≡ edge p m ∷ []) × Member m (r.legal p) × (s.won step.left (r.next p m) ≡ true)
  unfolding edges_at
  attack-edge p step live attacking =
      let is = step.is in
      let on : list_any (λ c. s.won step.left (r.next p c)) (r.legal p) ≡ true = subst (λ b. (if b then list_any (λ c. s.won step.left (r.next p c)) (r.legal p) else list_all (λ c. s.won step.left (r.next p c)) (r.legal p)) ≡ true) attacking step.on in
      let less : step.left ≡ budget p - 1 = omega arith in
      let u = found (λ c. s.won (budget p - 1) (r.next p c)) (r.legal p) (subst (λ t. list_any (λ c. s.won t (r.next p c)) (r.legal p) ≡ true) less on) in
      let edges : edges_at p (r.own p) (r.attacking p) ≡ map (edge p) (first_of_all (λ c. s.won (budget p - 1) (r.next p c)) (r.legal p)) = rw (live, attacking) in
      (u.0, edges ∙ ap (map (edge p)) u.1, u.2, subst (λ t. s.won t (r.next p u.0) ≡ true) (sym less) u.3)

  -- the other side has one for each move, and each leads to a win by less
  pub defence-edges : GameLaws P R M r → (p : P) (step : Step p) → r.own p ≡ None → r.attacking p ≡ false → doubled r.same_move (r.legal p) ≡ false → (es : List (Edge M)) → es ≡ edges_at p (r.own p) (r.attacking p) →
      (is_doubled r plain es ≡ false) × ((m : M) → Member m (r.legal p) → list_any (λ (e : Edge M). r.same_move e.chosen m) es ≡ true) × ((e : Edge M) → Member e es → (m : M) × Member m (r.legal p) × (edge p m ≡ e) × (s.won step.left (r.next p m) ≡ true))
  unfolding edges_at
  defence-edges l p step live other apart es is =
      let on : list_all (λ c. s.won step.left (r.next p c)) (r.legal p) ≡ true = subst (λ b. (if b then list_any (λ c. s.won step.left (r.next p c)) (r.legal p) else list_all (λ c. s.won step.left (r.next p c)) (r.legal p)) ≡ true) other step.on in
      let edges : es ≡ map (edge p) (r.legal p) = is ∙ rw (live, other) in (
        ap (is_doubled r plain) edges ∙ doubled-map r (edge p) (λ c. refl) (r.legal p) ∙ apart,
        λ c k. ap (list_any (λ (e : Edge M). r.same_move e.chosen c)) edges ∙ any_intro (λ (e : Edge M). r.same_move e.chosen c) (edge p c) (map (edge p) (r.legal p)) (map_in (edge p) (r.legal p) c k) ((l.decides_move c c).1 refl),
        λ e k.
            let u = map_member (edge p) (r.legal p) e (subst (Member e) edges k) in
            (u.0, u.1, u.2, all_member (λ c. s.won step.left (r.next p c)) (r.legal p) on u.0 u.1),
      )
