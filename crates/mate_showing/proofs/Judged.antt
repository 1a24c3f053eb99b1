-- From the root: when it goes on to a win, and what the table of one shows.
use Rattle.std.proofs.Common.{◌≡◌, ◌⊎◌, inl, inr, ℕ, zero, suc, ◌+◌, ◌-◌, ◌*◌, ◌<◌, ◌≤◌, List, [], ◌∷◌, map, length, cond, Bool, true, false, ◌||◌, Option, Some, None, slice_get, refl, ap, sym, ◌∙◌, subst, arith}
use Rattle.std.specs.List.{list_any, list_all, sum_by, filter}
use Rattle.std.proofs.lemmas.Bool.Decides.{nat_tests}
use Rattle.std.proofs.lemmas.List.Sums.{length-filter}
use Rattle.std.proofs.lemmas.Option.{slice_get_within}
use lib.Dec.{leb}
use Rattle.rules_model.specs.declared.board.Position.{Position}
use Rattle.rules_model.specs.declared.board.Repeat.{Repeat}
use Rattle.rules_model.specs.declared.moves.Move.{Move}
use Rattle.foundation.specs.Member.{Member, IsEachOnce}
use Rattle.forced_wins.specs.Contests.{decided}
use Rattle.forced_wins.specs.Games.{Game, GameLaws, Story, times, repeated, run_out, blocked, lost_if, or_end, of_games, wins, near, near_attack, near_root}
use Rattle.forced_wins.specs.Lines.{OnWin, IsUnsettled}
use Rattle.forced_wins.specs.Tables.{nodes_of, IsGood}
use Rattle.forced_wins.proofs.Counts.{by_cases, not_true, tests_on, tests_from, below_fold, same_from, times_here}
use Rattle.forced_wins.proofs.NearLaws.{wins-near_root}
use Rattle.strategy.specs.declared.nodes.Node.{Node}
use Rattle.mate_showing.specs.declared.plan.StrategyPlan.{StrategyPlan}
use Rattle.mate_settle.specs.Lines.{plies, lines, lines_within, lines_after}
use Rattle.mate_showing.specs.Reached.{OnLine}
use Rattle.mate_showing.specs.Tables.{nodes, most, GoesOnAt, IsNext, IsSound}
use Rattle.mate_showing.specs.Mates.{moves_win, counters_at, stands_often, IsTabled}
use Rattle.mate_settle.proofs.Lines.{lines-mono, lines-after}
use Rattle.mate_showing.proofs.Shown.{good-inside, good-near, low-rank}

-- ---- counts

leb_from : (a b : ℕ) → leb a b ≡ true → a ≤ b
leb_from a b h = grind (arith, nat_tests)

leb_to : (a b : ℕ) → a ≤ b → leb a b ≡ true
leb_to a b h = grind (arith, nat_tests)

module _ (r : Game Position Repeat Move) (l : GameLaws Position Repeat Move r) (g : Story Position) where
  pub repeated-is : (k t : ℕ) → k ≡ r.fold → 0 < k → t ≡ times r (r.repeat g.last) g.earlier → leb (k - 1) t ≡ repeated r g
  unfolding repeated
  repeated-is k t e some h =
      let here = times_here r l (r.repeat g.last) g.last g.earlier refl in
      same_from _ _
      (λ x. let y = leb_from (k - 1) t x in tests_on r.fold _ (omega arith) (omega arith))
      (λ x. let y = tests_from r.fold _ x in let z = y.1 in leb_to (k - 1) t (omega arith))

  -- ---- near wins of the root

  pub root-ended : (n : ℕ) (w : Bool) → (of_games r).end g ≡ Some w → w ≡ near_root r n g
  unfolding near_root
  root-ended n w e = rw e

  open_of : (o : Option Bool) (y z t : Bool) → o ≡ None → decided (or_end o (lost_if (y || z))) t ≡ true → (y ≡ false) × (z ≡ false) × (t ≡ true)
  open_of None true z t e h = cc
  open_of None false true t e h = cc
  open_of None false false t e h = (refl, refl, h)
  open_of (Some w) y z t e h = cc

  won_of : (o : Option Bool) (y t w : Bool) → o ≡ Some w → decided (or_end o (lost_if y)) t ≡ true → w ≡ true
  won_of None y t w e h = cc
  won_of (Some u) y t w e h = let k : u ≡ w = cc in sym k ∙ h

  pub root-live : (n : ℕ) → near_root r n g ≡ true → r.own g.last ≡ None → (repeated r g ≡ false) × (run_out r (r.counter g.last) ≡ false) × (moves_win r (blocked r g) n g.last ≡ true)
  unfolding near_root
  root-live n h e = open_of (r.own g.last) (repeated r g) (run_out r (r.counter g.last)) (moves_win r (blocked r g) n g.last) e h

  root-won : (n : ℕ) (w : Bool) → near_root r n g ≡ true → r.own g.last ≡ Some w → w ≡ true
  unfolding near_root
  root-won n w h e = won_of (r.own g.last) (repeated r g || run_out r (r.counter g.last)) (moves_win r (blocked r g) n g.last) w e h

  pub not-won : (n : ℕ) → false ≡ near_root r n g → wins r n g ≡ false
  not-won n h = not_true (wins r n g) (λ t. let k = wins-near_root r l n g t in cc)

module _ (r : Game Position Repeat Move) (l : GameLaws Position Repeat Move r) (b : Repeat → Bool) where
  attack-is : (n : ℕ) (p : Position) → 0 < n → near_attack r b n p ≡ list_any (λ m. near r b (n - 1) (r.next p m)) (r.legal p)
  attack-is zero p h = absurd (omega arith)
  attack-is (suc n) p h = let e : suc n - 1 ≡ n = omega arith in rw e

  pub moves-attack : (n : ℕ) (p : Position) → 0 < n → r.attacking p ≡ true → moves_win r b n p ≡ list_any (λ m. near r b (n - 1) (r.next p m)) (r.legal p)
  moves-attack n p h a = rw a (attack-is n p h)

  pub moves-defence : (n : ℕ) (p : Position) → r.attacking p ≡ false → moves_win r b n p ≡ list_all (λ m. near r b n (r.next p m)) (r.legal p)
  moves-defence n p a = rw a

  -- the lines that the moves of the root take
  pub attack-lines : (n : ℕ) (p : Position) → 0 < n → r.attacking p ≡ true → sum_by (lines_after r (n - 1) p) (r.legal p) ≤ lines_within r n p
  attack-lines n p some a = let e = lines-after r l true p n a (λ z. some) in omega arith

  pub defence-lines : (n : ℕ) (p : Position) → r.attacking p ≡ false → sum_by (lines_after r n p) (r.legal p) ≤ lines_within r n p
  defence-lines n p a = let e = lines-after r l false p n a (λ z. cc) in omega arith

  -- ---- the table of the root alone

  pub first-sound : (plan : StrategyPlan) (s : List Node) (u : Node) → s ≡ u ∷ [] → r.repeat u.position ≡ r.repeat plan.root → r.counter u.position ≡ r.counter plan.root → u.rank ≡ 65535 → IsSound r b plan s
  first-sound plan s u e p q h = subst (IsSound r b plan) (sym e) (record {
    root = (u, refl, p, λ z. q);
    done = λ i v k. cc;
    rows = λ i v k low. absurd (unmade i v k low);
    free = λ i v k. cc;
    ongoing = λ i v k. cc;
    lines = λ z i v k. line i v k;
    apart = λ i j v w a d x y. same_place i j v w a d;
  })
    where
      one_at : (i : ℕ) (v : Node) → slice_get (u ∷ []) i ≡ Some v → u ≡ v
      one_at zero v k = cc
      one_at (suc i) v k = cc

      unmade : (i : ℕ) (v : Node) → slice_get (u ∷ []) i ≡ Some v → v.rank ≤ most → ⊥
      unmade i v k low = let f = ap (λ (x : Node). x.rank) (one_at i v k) in omega arith

      line : (i : ℕ) (v : Node) → slice_get (u ∷ []) i ≡ Some v → OnLine r b plan.whole plan.root (r.repeat v.position) (r.counter v.position)
      line i v k =
          let f = one_at i v k in
          record { line = []; short = omega arith; won = tt; repeat = sym p ∙ ap (λ (x : Node). r.repeat x.position) f; counter = sym q ∙ ap (λ (x : Node). r.counter x.position) f }

      same_place : (i j : ℕ) (v w : Node) → slice_get (u ∷ []) i ≡ Some v → slice_get (u ∷ []) j ≡ Some w → i ≡ j
      same_place zero zero v w a d = refl
      same_place zero (suc j) v w a d = cc
      same_place (suc i) j v w a d = cc

module _ (r : Game Position Repeat Move) (l : GameLaws Position Repeat Move r) (g : Story Position) (b : Repeat → Bool) (same : (x : Repeat) → b x ≡ blocked r g x) where
  tests : ◌≡◌ {A = Repeat → Bool} b (blocked r g)
  tests i x = same x i

  goes_at : (n : ℕ) (o : Option Bool) → 0 < n → near_root r n g ≡ true → r.own g.last ≡ o → GoesOnAt r b n g.last o (r.attacking g.last)
  goes_at n (Some w) some h e = root-won r l g n w h e
  goes_at n None some h e = turn (r.attacking g.last) refl
    where
      won : moves_win r b n g.last ≡ true
      won = ap (λ f. moves_win r f n g.last) tests ∙ (root-live r l g n h e).2

      turn : (a : Bool) → r.attacking g.last ≡ a → GoesOnAt r b n g.last None a
      turn true a = (some, sym (moves-attack r l b n g.last some a) ∙ won)
      turn false a = sym (moves-defence r l b n g.last a) ∙ won

  -- the root of a near win is a position to begin from
  pub root-next : (plan : StrategyPlan) → 0 < plan.whole → near_root r plan.whole g ≡ true → plan.root ≡ g.last → plan.room ≡ r.counter g.last + plies r plan.whole g.last → IsNext r b plan plan.whole plan.root
  root-next plan some h e f = subst (λ x. IsNext r b plan plan.whole x) (sym e) (record {
    goes_on = record { on = goes_at plan.whole (r.own g.last) some h refl; counted = λ o. (root-live r l g plan.whole h o).1 };
    free = inr (sym e);
    room = λ z. omega arith;
    reached = record { line = []; won = tt; leads = e; enough = omega arith; short = by_cases (r.attacking g.last) (λ a. rw a (omega arith)) (λ a. rw a (omega arith)) };
  })

module _ (r : Game Position Repeat Move) (l : GameLaws Position Repeat Move r) (once : (p : Position) → IsEachOnce (r.legal p)) (b : Repeat → Bool) (plan : StrategyPlan) (g : Story Position) (s : List Node) (t : IsTabled r b plan g s) where
  start_open : r.own g.last ≡ None → (repeated r g ≡ false) × (run_out r (r.counter g.last) ≡ false)
  start_open e = let k = root-live r l g plan.whole t.near_win e in (k.0, k.1)

  pub inside-good : plan.exact ≡ false → IsGood r nodes true s g plan.whole
  inside-good z = good-inside r l once g plan.whole plan s b t.same t.root t.sound t.stands.0 t.stands.1 t.small start_open t.played t.capped t.low z t.room (under (t.inside z))
    where
      under : (r.limit ≡ 0) ⊎ (r.counter g.last + (plan.whole + plan.whole) < r.limit) → (r.limit ≡ 0) ⊎ (plan.room ≤ r.limit)
      under (inl e) = inl e
      under (inr k) = let f = t.room in inr (by_cases (r.attacking g.last) (λ a. let q : plies r plan.whole g.last ≡ plan.whole + plan.whole = rw a in omega arith) (λ a. let q : plies r plan.whole g.last ≡ plan.whole + plan.whole + 1 = rw a in omega arith))

  pub near-good : plan.exact ≡ true → ((i : ℕ) (v : Node) → slice_get s (suc i) ≡ Some v → (r.same (r.repeat v.position) (r.repeat g.last) ≡ false) × (stands_often r g s (r.repeat v.position) ≡ false)) → IsGood r nodes true s g plan.whole
  near-good z clear = good-near r l once g plan.whole plan s b t.same t.root t.sound t.stands.0 t.stands.1 t.small start_open t.played t.capped t.low z
      (λ i v h e. let k = (clear i v h).0 in let f = (l.decides (r.repeat v.position) (r.repeat g.last)).1 e in cc)
      (λ i v h f. below_fold r.fold _ (clear i v h).1 f)

  pub low-ranks : (i : ℕ) (v : Node) → slice_get s i ≡ Some v → v.rank ≤ most
  low-ranks = low-rank r l once g plan.whole plan s b t.same t.root t.sound t.stands.0 t.stands.1 t.small start_open t.played t.capped t.low

  -- ---- evidence

  on_win : plan.exact ≡ true → (i : ℕ) (v : Node) → slice_get s i ≡ Some v → OnWin Position Repeat Move r plan.whole g (r.repeat v.position) (r.counter v.position)
  on_win z i v h =
      let x = t.sound.lines z i v h in
      let y : OnLine r (blocked r g) plan.whole g.last (r.repeat v.position) (r.counter v.position) =
      subst (λ f. OnLine r f plan.whole g.last (r.repeat v.position) (r.counter v.position)) (tests r l g b t.same) (subst (λ p. OnLine r b plan.whole p (r.repeat v.position) (r.counter v.position)) t.root x) in
      record { line = y.line; short = y.short; won = y.won; repeat = y.repeat; counter = y.counter }

  two : (m n : ℕ) → (m ≡ n → ⊥) → (i j c : ℕ) → slice_get (m ∷ n ∷ []) i ≡ Some c → slice_get (m ∷ n ∷ []) j ≡ Some c → i ≡ j
  two m n d zero zero c x y = refl
  two m n d zero (suc zero) c x y = absurd (d (let e : m ≡ c = cc in let f : n ≡ c = cc in cc))
  two m n d zero (suc (suc j)) c x y = cc
  two m n d (suc zero) zero c x y = absurd (d (let e : m ≡ c = cc in let f : n ≡ c = cc in cc))
  two m n d (suc zero) (suc zero) c x y = refl
  two m n d (suc zero) (suc (suc j)) c x y = cc
  two m n d (suc (suc i)) j c x y = cc

  pub root-again : plan.exact ≡ true → (i : ℕ) (v : Node) → slice_get s (suc i) ≡ Some v → r.repeat v.position ≡ r.repeat g.last → (u : IsUnsettled Position Repeat Move r plan.whole g) × (u.repeat ≡ r.repeat g.last) × (u.counters ≡ r.counter g.last ∷ r.counter v.position ∷ [])
  root-again z i v h e = (
    record {
      near_win = t.near_win;
      counted = (t.close z).0;
      close = (t.close z).1;
      repeat = r.repeat g.last;
      counters = r.counter g.last ∷ r.counter v.position ∷ [];
      differ = two (r.counter g.last) (r.counter v.position) apart;
      on_lines = line;
      many = inl (refl, omega arith);
    },
    refl,
    refl,
  )
    where
      apart : r.counter g.last ≡ r.counter v.position → ⊥
      apart c =
          let u = t.sound.root in
          let k = t.sound.apart (suc i) 0 v u.0 h u.1 (e ∙ ap r.repeat (sym t.root) ∙ sym u.2) (λ y. sym c ∙ ap r.counter (sym t.root) ∙ sym (u.3 y)) in omega arith

      line : (c : ℕ) → Member c (r.counter g.last ∷ r.counter v.position ∷ []) → OnWin Position Repeat Move r plan.whole g (r.repeat g.last) c
      line c (inl f) = record { line = []; short = omega arith; won = tt; repeat = refl; counter = f }
      line c (inr (inl f)) = subst (λ y. OnWin Position Repeat Move r plan.whole g (r.repeat g.last) y) f (subst (λ y. OnWin Position Repeat Move r plan.whole g y (r.counter v.position)) e (on_win z (suc i) v h))
      line c (inr (inr f)) = absurd f

  pub root-again-at : plan.exact ≡ true → (i : ℕ) (v : Node) → 0 < i → slice_get s i ≡ Some v → r.repeat v.position ≡ r.repeat g.last → (u : IsUnsettled Position Repeat Move r plan.whole g) × (u.repeat ≡ r.repeat g.last) × (u.counters ≡ r.counter g.last ∷ r.counter v.position ∷ [])
  root-again-at z zero v o h e = absurd (omega arith)
  root-again-at z (suc i) v o h e = root-again z i v h e

-- one place more is looked at
pub looked : {X : Type 0} {Q : X → Type 0} (s : List X) (i : ℕ) (w : X) → ((j : ℕ) (v : X) → suc j < i → slice_get s (suc j) ≡ Some v → Q v) → slice_get s i ≡ Some w → Q w → (j : ℕ) (v : X) → suc j < i + 1 → slice_get s (suc j) ≡ Some v → Q v
looked {Q = Q} s i w f at q j v o h = cases (order (suc j) i o)
  where
    order : (j i : ℕ) → j < i + 1 → (j ≡ i) ⊎ (j < i)
    order j i h = grind arith

    cases : (suc j ≡ i) ⊎ (suc j < i) → Q v
    cases (inl e) = let k : slice_get s i ≡ Some v = subst (λ x. slice_get s x ≡ Some v) e h in let same : w ≡ v = cc in subst Q same q
    cases (inr k) = f j v k h

pub seen : {X : Type 0} {Q : X → Type 0} (s : List X) (i : ℕ) → ((j : ℕ) (v : X) → suc j < i → slice_get s (suc j) ≡ Some v → Q v) → length s ≤ i → (j : ℕ) (v : X) → slice_get s (suc j) ≡ Some v → Q v
seen s i f end j v h = let k = slice_get_within s (suc j) v h in f j v (omega arith) h

-- ---- a list that is thinned

module _ {X : Type 0} (f : X → ℕ) (test : X → Bool) where
  abbrev thinned : List X → List ℕ
  thinned xs = map f (filter test xs)

  thin-more : (x : X) (xs : List X) → test x ≡ true → thinned (x ∷ xs) ≡ f x ∷ thinned xs
  thin-more x xs e = ap (λ c. map f (cond c (x ∷ filter test xs) (filter test xs))) e

  thin-less : (x : X) (xs : List X) → test x ≡ false → thinned (x ∷ xs) ≡ thinned xs
  thin-less x xs e = ap (λ c. map f (cond c (x ∷ filter test xs) (filter test xs))) e

  pub record From (xs : List X) (c : ℕ) : Type 0 where
    pub place : ℕ
    pub of : X
    pub at : slice_get xs place ≡ Some of
    pub passes : test of ≡ true
    pub is : f of ≡ c

  later : (x : X) (xs : List X) (c : ℕ) → From xs c → From (x ∷ xs) c
  later x xs c u = record { place = suc u.place; of = u.of; at = u.at; passes = u.passes; is = u.is }

  first_at : (x : X) (xs : List X) (i c : ℕ) → slice_get (f x ∷ thinned xs) i ≡ Some c → test x ≡ true → ((i : ℕ) → slice_get (thinned xs) i ≡ Some c → From xs c) → From (x ∷ xs) c
  first_at x xs zero c k e on = record { place = zero; of = x; at = refl; passes = e; is = cc }
  first_at x xs (suc i) c k e on = later x xs c (on i k)

  thin-at : (xs : List X) (i c : ℕ) → slice_get (thinned xs) i ≡ Some c → From xs c
  thin-at [] i c h = cc
  thin-at (x ∷ xs) i c h = by_cases (test x)
      (λ e. first_at x xs i c (subst (λ ys. slice_get ys i ≡ Some c) (thin-more x xs e) h) e (λ k. thin-at xs k c))
      (λ e. later x xs c (thin-at xs i c (subst (λ ys. slice_get ys i ≡ Some c) (thin-less x xs e) h)))

  first_member : (x : X) (xs : List X) (c : ℕ) → Member c (f x ∷ thinned xs) → test x ≡ true → (Member c (thinned xs) → From xs c) → From (x ∷ xs) c
  first_member x xs c (inl k) e on = record { place = zero; of = x; at = refl; passes = e; is = k }
  first_member x xs c (inr k) e on = later x xs c (on k)

  pub thin-member : (xs : List X) (c : ℕ) → Member c (thinned xs) → From xs c
  thin-member [] c h = absurd h
  thin-member (x ∷ xs) c h = by_cases (test x)
      (λ e. first_member x xs c (subst (Member c) (thin-more x xs e) h) e (thin-member xs c))
      (λ e. later x xs c (thin-member xs c (subst (Member c) (thin-less x xs e) h)))

  -- a list with a member that passes
  pub thin-some : (xs : List X) (i : ℕ) (w : X) → slice_get xs i ≡ Some w → test w ≡ true → 0 < length (thinned xs)
  thin-some [] i w h e = cc
  thin-some (x ∷ xs) zero w h e = let k : x ≡ w = cc in subst (λ ys. 0 < length ys) (sym (thin-more x xs (ap test k ∙ e))) (omega arith)
  thin-some (x ∷ xs) (suc i) w h e = by_cases (test x)
      (λ z. subst (λ ys. 0 < length ys) (sym (thin-more x xs z)) (omega arith))
      (λ z. subst (λ ys. 0 < length ys) (sym (thin-less x xs z)) (thin-some xs i w h e))

  abbrev IsApart : List X → Type 0
  IsApart xs = (i j : ℕ) (x y : X) → slice_get xs i ≡ Some x → slice_get xs j ≡ Some y → test x ≡ true → test y ≡ true → f x ≡ f y → i ≡ j

  down : (x : X) (xs : List X) → IsApart (x ∷ xs) → IsApart xs
  down x xs h i j y z p q v w u = let k = h (suc i) (suc j) y z p q v w u in omega arith

  not_first : (x : X) (xs : List X) (j c : ℕ) → IsApart (x ∷ xs) → f x ≡ c → slice_get (thinned xs) j ≡ Some c → test x ≡ true → ⊥
  not_first x xs j c h k p e = let u = thin-at xs j c p in let z = h 0 (suc u.place) x u.of refl u.at e u.passes (k ∙ sym u.is) in omega arith

  heads_differ : (x : X) (xs : List X) → IsApart (x ∷ xs) → test x ≡ true → ((i j c : ℕ) → slice_get (thinned xs) i ≡ Some c → slice_get (thinned xs) j ≡ Some c → i ≡ j) → (i j c : ℕ) → slice_get (f x ∷ thinned xs) i ≡ Some c → slice_get (f x ∷ thinned xs) j ≡ Some c → i ≡ j
  heads_differ x xs h e on zero zero c p q = refl
  heads_differ x xs h e on zero (suc j) c p q = absurd (not_first x xs j c h (let k : f x ≡ c = cc in k) q e)
  heads_differ x xs h e on (suc i) zero c p q = absurd (not_first x xs i c h (let k : f x ≡ c = cc in k) p e)
  heads_differ x xs h e on (suc i) (suc j) c p q = ap suc (on i j c p q)

  pub thin-differ : (xs : List X) → IsApart xs → (i j c : ℕ) → slice_get (thinned xs) i ≡ Some c → slice_get (thinned xs) j ≡ Some c → i ≡ j
  thin-differ [] h i j c a d = cc
  thin-differ (x ∷ xs) h i j c a d = by_cases (test x)
      (λ e. heads_differ x xs h e (thin-differ xs (down x xs h)) i j c (subst (λ ys. slice_get ys i ≡ Some c) (thin-more x xs e) a) (subst (λ ys. slice_get ys j ≡ Some c) (thin-more x xs e) d))
      (λ e. thin-differ xs (down x xs h) i j c (subst (λ ys. slice_get ys i ≡ Some c) (thin-less x xs e) a) (subst (λ ys. slice_get ys j ≡ Some c) (thin-less x xs e) d))

map_length : {X Y : Type 0} (g : X → Y) (xs : List X) → length (map g xs) ≡ length xs
map_length g [] = refl
map_length g (x ∷ xs) = ap suc (map_length g xs)

module _ (r : Game Position Repeat Move) (l : GameLaws Position Repeat Move r) (once : (p : Position) → IsEachOnce (r.legal p)) (b : Repeat → Bool) (plan : StrategyPlan) (g : Story Position) (s : List Node) (t : IsTabled r b plan g s) where
  counters-length : (x : Repeat) → length (counters_at r x s) ≡ nodes_of r nodes x s
  unfolding nodes_of
  counters-length x = map_length (λ (v : Node). r.counter v.position) (filter (λ (v : Node). r.same (r.repeat v.position) x) s) ∙ length-filter (λ (v : Node). r.same (r.repeat v.position) x) s

  pub too-often : plan.exact ≡ true → (x : Position) → (r.repeat x ≡ r.repeat g.last → ⊥) → stands_often r g s (r.repeat x) ≡ true → (u : IsUnsettled Position Repeat Move r plan.whole g) × (u.repeat ≡ r.repeat x) × (u.counters ≡ counters_at r (r.repeat x) s)
  too-often z x n h = (
    record {
      near_win = t.near_win;
      counted = (t.close z).0;
      close = (t.close z).1;
      repeat = r.repeat x;
      counters = counters_at r (r.repeat x) s;
      differ = thin-differ (λ (v : Node). r.counter v.position) (λ (v : Node). r.same (r.repeat v.position) (r.repeat x)) s (λ i j v w a d p q e. t.sound.apart i j v w a d ((l.decides _ _).0 p ∙ sym ((l.decides _ _).0 q)) (λ y. e));
      on_lines = λ c k.
          let u = thin-member (λ (v : Node). r.counter v.position) (λ (v : Node). r.same (r.repeat v.position) (r.repeat x)) s c k in
          subst (λ y. OnWin Position Repeat Move r plan.whole g (r.repeat x) y) u.is (subst (λ y. OnWin Position Repeat Move r plan.whole g y (r.counter u.of.position)) ((l.decides _ _).0 u.passes) (on_win r l once b plan g s t z u.place u.of u.at));
      many = inr (n, (tests_from r.fold _ h).0, (let k = (tests_from r.fold _ h).1 in let e = counters-length (r.repeat x) in omega arith));
    },
    refl,
    refl,
  )

-- ---- the bound

more-times : (k x y : ℕ) → x ≤ y → k * x ≤ k * y
more-times zero x y h = omega arith
more-times (suc k) x y h = let rest = more-times k x y h in omega arith

bound-times : (n x y : ℕ) → 0 < n → x ≤ y → (3 * n + 5) * x ≤ 4 * (n + 1) * y
bound-times zero x y some h = absurd (omega arith)
bound-times (suc n) x y some h = let more = more-times n x y h in omega arith

module _ (r : Game Position Repeat Move) where
  -- the tree, the race, the search of the root, and the walk
  pub whole-lines : (n : ℕ) (p : Position) → 0 < n → (3 * n + 5) * lines_within r n p ≤ 4 * (n + 1) * lines r (2 * n + 1) p
  whole-lines n p some =
      let fit : plies r n p ≤ 2 * n + 1 = by_cases (r.attacking p) (λ e. rw e (omega arith)) (λ e. rw e (omega arith)) in
      bound-times n (lines_within r n p) (lines r (2 * n + 1) p) some (lines-mono r (plies r n p) (2 * n + 1) p fit)
