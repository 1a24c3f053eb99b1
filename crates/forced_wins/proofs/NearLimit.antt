-- Near the move-count rule: what is won without history has a good strategy, or some repeat stands at too many counters.
use Rattle.std.proofs.Common.{◌≡◌, ◌⊎◌, inl, inr, ℕ, zero, suc, ◌+◌, ◌<◌, ◌≤◌, List, [], ◌∷◌, map, length, cond, Bool, true, false, Option, Some, None, not, nat_le, nat_lt, ◌==◌, ◌&&◌, ◌||◌, if◌then◌else◌, slice_get, refl, ap, sym, ◌∙◌, subst, arith}
use Rattle.std.specs.List.{list_any, list_all, filter, count_by}
use Rattle.std.specs.Bool.{Decides}
use Rattle.std.proofs.lemmas.List.Sums.{sum_by-cons, length-filter}
use Rattle.foundation.specs.Member.{Member}
use Rattle.forced_wins.specs.Contests.{decided, within}
use Rattle.forced_wins.specs.Games.{Game, GameLaws, Story, history, times, run_out, repeated, lost_if, or_end, of_positions, blocked, near_attack, near_defence, near_root}
use Rattle.forced_wins.specs.PlainTables.{Edge, Node, plain}
use Rattle.forced_wins.specs.Tables.{nodes_of, is_doubled, has_edge}
use Rattle.forced_wins.proofs.ContestLaws.{any_mono, all_mono, within-mono, double, double-is}
use Rattle.forced_wins.proofs.Counts.{by_cases, not_true, true_false, tests_from, below_fold, and_true, eq_from, eq_to}
use Rattle.forced_wins.proofs.ClaimLaws.{within-lower}
use Rattle.forced_wins.proofs.NearLaws.{near-attack, near-defence}
use Rattle.forced_wins.proofs.TableLaws.{any_member, both, neither}
use Rattle.forced_wins.proofs.Lists.{two, gathered, listed, once_in, Apart, apart_once, apart_alone, mapped, map_at, map_member}
use Rattle.forced_wins.proofs.ShortestWins as S
use Rattle.forced_wins.proofs.ShortestWins.{PlyWins, Shortest, shortest, rank_of, falls_at, doubled}
use Rattle.forced_wins.proofs.Plans.{Fits, IsPlan, plan-good}
use Rattle.forced_wins.proofs.Writings.{Writing, GoodTable}

live_step : (o : Option Bool) (y z t : Bool) → o ≡ None → decided (or_end o (lost_if (y || z))) t ≡ true → (y ≡ false) × (z ≡ false) × (t ≡ true)
live_step None true z t e h = cc
live_step None false true t e h = cc
live_step None false false t e h = (refl, refl, h)
live_step (Some w) y z t e h = cc

won_step : (o : Option Bool) (y z t w : Bool) → o ≡ Some w → decided (or_end o (lost_if (y || z))) t ≡ true → w ≡ true
won_step None y z t w e h = cc
won_step (Some u) y z t w e h = let k : u ≡ w = cc in sym k ∙ h

none_passes : {X : Type 0} (f : X → Bool) (xs : List X) → list_any f xs ≡ false → (x : X) → Member x xs → f x ≡ false
none_passes f [] h x k = absurd k
none_passes f (y ∷ ys) h x (inl e) = sym (ap f e) ∙ (neither (f y) (list_any f ys) h).0
none_passes f (y ∷ ys) h x (inr k) = none_passes f ys (neither (f y) (list_any f ys) h).1 x k

or_right_of : (a b : Bool) → a ≡ false → (a || b) ≡ true → b ≡ true
or_right_of true b h k = cc
or_right_of false b h k = k

kept_head : {X : Type 0} (f : X → Bool) (y x : X) (ys : List X) → f y ≡ true → Member x (y ∷ filter f ys) → (Member x (filter f ys) → Member x ys × (f x ≡ true)) → Member x (y ∷ ys) × (f x ≡ true)
kept_head f y x ys e (inl h) g = (inl h, sym (ap f h) ∙ e)
kept_head f y x ys e (inr m) g = let u = g m in (inr u.0, u.1)

kept : {X : Type 0} (f : X → Bool) (xs : List X) (x : X) → Member x (filter f xs) → Member x xs × (f x ≡ true)
kept f [] x k = absurd k
kept f (y ∷ ys) x k =
    by_cases (f y)
    (λ e. kept_head f y x ys e (subst (λ c. Member x (cond c (y ∷ filter f ys) (filter f ys))) e k) (kept f ys x))
    (λ e. let u = kept f ys x (subst (λ c. Member x (cond c (y ∷ filter f ys) (filter f ys))) e k) in (inr u.0, u.1))

count_map : {X Y : Type 0} (f : Y → Bool) (g : X → Y) (xs : List X) → count_by f (map g xs) ≡ count_by (λ x. f (g x)) xs
count_map f g [] = refl
count_map f g (x ∷ xs) =
    let a = sum_by-cons (λ y. cond (f y) 1 0) (g x) (map g xs) in
    let b = sum_by-cons (λ z. cond (f (g z)) 1 0) x xs in
    let c = count_map f g xs in omega arith

map_length : {X Y : Type 0} (g : X → Y) (xs : List X) → length (map g xs) ≡ length xs
map_length g [] = refl
map_length g (x ∷ xs) = ap suc (map_length g xs)

pub record Key (R : Type 0) : Type 0 where
  pub of : R
  pub count : ℕ

module _ {P R M : Type 0} (r : Game P R M) (l : GameLaws P R M r) {Reached Written : P → Type 0} (writing : Writing P R M r Reached Written) (apart : (p : P) → doubled r.same_move (r.legal p) ≡ false) (g : Story P) (start : Reached g.last) where
  abbrev W : ℕ → P → Bool
  W t p = within (of_positions r (blocked r g)) t p

  abbrev pub key : P → Key R
  key p = record { of = r.repeat p; count = r.counter p }

  abbrev same_key : Key R → Key R → Bool
  same_key a b = r.same a.of b.of && (a.count == b.count)

  pub key_decides : (a b : Key R) → Decides (same_key a b) (a ≡ b)
  key_decides a b = (
    λ e. let k = both _ _ e in let f = (l.decides a.of b.of).0 k.0 in let h = eq_from a.count b.count k.1 in (λ i. record { of = f i; count = h i }),
    λ e. and_true _ _ ((l.decides a.of b.of).1 (ap (λ (x : Key R). x.of) e)) (eq_to a.count b.count (ap (λ (x : Key R). x.count) e)),
  )

  abbrev moves_on : ℕ → P → Bool
  moves_on t p = if r.attacking p then list_any (λ m. W t (r.next p m)) (r.legal p) else list_all (λ m. W t (r.next p m)) (r.legal p)

  pub W-live : (t : ℕ) (p : P) → r.own p ≡ None → W t p ≡ true → (u : ℕ) × (t ≡ suc u) × (run_out r (r.counter p) ≡ false) × (moves_on u p ≡ true)
  unfolding within
  W-live zero p e h = let k = live_step (r.own p) (blocked r g (r.repeat p)) (run_out r (r.counter p)) false e h in let z = k.2 in cc
  W-live (suc t) p e h = let k = live_step (r.own p) (blocked r g (r.repeat p)) (run_out r (r.counter p)) _ e h in (t, refl, k.1, k.2)

  pub W-won : (t : ℕ) (p : P) (w : Bool) → r.own p ≡ Some w → W t p ≡ true → w ≡ true
  unfolding within
  W-won zero p w e h = won_step (r.own p) (blocked r g (r.repeat p)) (run_out r (r.counter p)) _ w e h
  W-won (suc t) p w e h = won_step (r.own p) (blocked r g (r.repeat p)) (run_out r (r.counter p)) _ w e h

  pub W-same : (t : ℕ) (p q : P) → key p ≡ key q → W t p ≡ true → W t q ≡ true
  W-same t p q e h = let c : r.counter p ≡ r.counter q = ap (λ (x : Key R). x.count) e in within-lower r l (blocked r g) t p q (sym (ap (λ (x : Key R). x.of) e)) (omega arith) h

  -- a repeat at a counter says by how many plies it is won
  abbrev ways : PlyWins P R M (Key R) r
  ways = record {
    won = W;
    longer = λ t p h. within-mono (of_positions r (blocked r g)) t p h;
    goes_on = λ t p e h. let k = W-live t p e h in (k.0, k.1, k.3);
    ended = W-won;
    key = key;
    same = same_key;
    decides = key_decides;
    alike = W-same;
  }

  -- a line of at most t moves from p to x, each position behind p being won by what is left
  abbrev pub Line : ℕ → P → P → Type 0
  Line zero p x = p ≡ x
  Line (suc t) p x = (p ≡ x) ⊎ ((m : M) × Member m (r.legal p) × (W t (r.next p m) ≡ true) × Line t (r.next p m) x)

  line-of : (t : ℕ) (p x : P) → Member x (S.collect r ways t p) → Line t p x
  unfolding S.collect
  line-of zero p x (inl e) = e
  line-of zero p x (inr k) = absurd k
  line-of (suc t) p x (inl e) = inl e
  line-of (suc t) p x (inr k) = let a = gathered (λ m. W t (r.next p m)) (λ m. S.collect r ways t (r.next p m)) (r.legal p) x k in inr (a.0, a.1, a.2, line-of t (r.next p a.0) x a.3)

  module _ (x : Shortest P R M (Key R) r ways g.last) (open_game : repeated r g ≡ false) (open_count : run_out r (r.counter g.last) ≡ false) where
    abbrev tail : List P
    tail = S.tail r ways g.last x

    abbrev rest : List P
    rest = S.rest r ways g.last x

    abbrev all : List P
    all = S.all r ways g.last x

    abbrev budget : P → ℕ
    budget = S.budget r ways g.last x

    abbrev edge : P → M → Edge M
    edge = S.edge r ways g.last x

    node_of : P → Node P M
    node_of p = record { position = writing.exact p; rank = rank_of (r.attacking p) (budget p); edges = S.edges_at r ways g.last x p (r.own p) (r.attacking p) }

    table : List (Node P M)
    table = map node_of all

    -- a position as its node has it has the same repeat and counter
    own-exact : (p : P) → r.own (writing.exact p) ≡ r.own p
    own-exact p = l.same_own _ p (writing.exact_repeat p)

    turn-exact : (p : P) → r.attacking (writing.exact p) ≡ r.attacking p
    turn-exact p = l.same_turn _ p (writing.exact_repeat p)

    fits : (p : P) (s : S.Step r ways g.last x p) (m : M) → Member m (r.legal p) → W s.left (r.next p m) ≡ true → Fits r plain l table (node_of p) (edge p m)
    unfolding table node_of
    fits p s m k w =
        let y = S.led r ways g.last x p s m k w in
        let is = s.is in
        let same : r.repeat y.0 ≡ r.repeat (r.next p m) = ap (λ (z : Key R). z.of) y.2 in
        let count : r.counter y.0 ≡ r.counter (r.next p m) = ap (λ (z : Key R). z.count) y.2 in
        let here = writing.exact_counter p in
        let there = writing.exact_counter y.0 in
        let up = l.lower (writing.exact p) p m (writing.exact_repeat p) (omega arith) in
        let next : r.attacking y.0 ≡ not (r.attacking p) = l.same_turn y.0 (r.next p m) same ∙ l.turns p m in
        record {
          node = node_of y.0;
          stands = map_at node_of all _ y.0 y.1;
          legal = subst (Member m) (sym (l.same_legal _ p (writing.exact_repeat p))) k;
          same = writing.exact_repeat y.0 ∙ same ∙ sym (l.same_next _ p m (writing.exact_repeat p));
          covers = omega arith;
          falls = rw (turn-exact p, next, is) (falls_at (r.attacking p) s.left (budget y.0) y.3);
        }

    node_at : (i : ℕ) (v : Node P M) → slice_get table i ≡ Some v → (p : P) × (slice_get all i ≡ Some p) × (node_of p ≡ v) × Member p all
    unfolding table
    node_at i v h = let k = mapped node_of all i v h in (k.0, k.1, k.2, listed all i k.0 k.1)

    written : (v : Node P M) → Member v table → Written v.position
    unfolding table node_of
    written v k =
        let u = map_member node_of all v k in
        let reached = S.all-keeps r ways g.last x Reached writing.goes_on start u.0 u.1 in
        subst (λ y. Written y.position) u.2 (writing.exact_written u.0 reached)

    ended_node : (p : P) → Member p all → (w : Bool) → r.own (node_of p).position ≡ Some w → (w ≡ true) × ((node_of p).edges ≡ [])
    unfolding node_of
    ended_node p i w e = let own = sym (own-exact p) ∙ e in ((S.facts r ways g.last x p i).0 w own, S.ended-edges r ways g.last x p w own)

    counted_at : (p : P) → Member p all → r.own p ≡ None → run_out r (r.counter p) ≡ false
    counted_at p (inl e) h = subst (λ q. run_out r (r.counter q) ≡ false) e open_count
    counted_at p (inr k) h = let u = S.from_tail r ways g.last x p (once_in same_key key_decides key tail p k) in (W-live u.0 p h u.2).2

    counted_node : (p : P) → Member p all → r.own (node_of p).position ≡ None → run_out r (r.counter (node_of p).position) ≡ false
    unfolding node_of
    counted_node p i h = ap (run_out r) (writing.exact_counter p) ∙ counted_at p i (sym (own-exact p) ∙ h)

    attack_node : (p : P) → Member p all → r.own (node_of p).position ≡ None → r.attacking (node_of p).position ≡ true → (e : Edge M) × ((node_of p).edges ≡ e ∷ []) × Fits r plain l table (node_of p) e
    unfolding node_of
    attack_node p i e attacking =
        let live = sym (own-exact p) ∙ e in
        let s = (S.facts r ways g.last x p i).1 live in
        let u = S.attack-edge r ways g.last x p s live (sym (turn-exact p) ∙ attacking) in
        (edge p u.0, u.1, fits p s u.0 u.2 u.3)

    defence_node : (p : P) → Member p all → r.own (node_of p).position ≡ None → r.attacking (node_of p).position ≡ false → (is_doubled r plain (node_of p).edges ≡ false) × ((m : M) → Member m (r.legal (node_of p).position) → has_edge r plain (node_of p) m ≡ true) × ((e : Edge M) → Member e (node_of p).edges → Fits r plain l table (node_of p) e)
    unfolding node_of
    defence_node p i e other =
        let live = sym (own-exact p) ∙ e in
        let s = (S.facts r ways g.last x p i).1 live in
        let u = S.defence-edges r ways g.last x l p s live (sym (turn-exact p) ∙ other) (apart p) (node_of p).edges refl in
        (u.0, λ c k. u.1 c (subst (Member c) (l.same_legal _ p (writing.exact_repeat p)) k), λ f k. let v = u.2 f k in subst (λ y. Fits r plain l table (node_of p) y) v.2 (fits p s v.0 v.1 v.3))

    key-exact : (p : P) → key (writing.exact p) ≡ key p
    key-exact p i = record { of = writing.exact_repeat p i; count = writing.exact_counter p i }

    places : (i j : ℕ) (v w : Node P M) → slice_get table i ≡ Some v → slice_get table j ≡ Some w → r.repeat v.position ≡ r.repeat w.position → r.counter v.position ≡ r.counter w.position → i ≡ j
    unfolding node_of
    places i j v w a d e h =
        let k = node_at i v a in
        let n = node_at j w d in
        let keys : key v.position ≡ key w.position = λ i. record { of = e i; count = h i } in
        apart_alone same_key key_decides key all (S.apart_all r ways g.last x) i j k.0 n.0 k.1 n.1 (sym (key-exact k.0) ∙ ap (λ u. key u.position) k.2 ∙ keys ∙ sym (ap (λ u. key u.position) n.2) ∙ key-exact n.0)

    -- a position that stands in the way of a good strategy
    stands_in_way : P → Bool
    stands_in_way p = r.same (r.repeat p) (r.repeat g.last) || (nat_lt 0 r.fold && nat_le r.fold (times r (r.repeat p) (history g) + nodes_of r plain (r.repeat p) table))

    -- each position of the table lies on a winning line
    lines : (p : P) → Member p rest → (m : M) × Member m (r.legal g.last) × (W x.left (r.next g.last m) ≡ true) × Line x.left (r.next g.last m) p
    unfolding S.tail
    lines p k =
        let a = gathered (λ m. W x.left (r.next g.last m)) (λ m. S.collect r ways x.left (r.next g.last m)) (r.legal g.last) p (once_in same_key key_decides key tail p k) in
        (a.0, a.1, a.2, line-of x.left (r.next g.last a.0) p a.3)

    plan : (n : ℕ) → rank_of (r.attacking g.last) (suc x.left) ≤ n → list_any stands_in_way rest ≡ false → IsPlan r plain l table g n
    unfolding table node_of stands_in_way
    plan n rank clear =
        let root = S.budget-root r ways g.last x in
        record {
          root = node_of g.last;
          stands = refl;
          same = writing.exact_repeat g.last;
          covers = let count = writing.exact_counter g.last in omega arith;
          rank = subst (λ y. rank_of (r.attacking g.last) y ≤ n) (sym root) rank;
          ended = λ i v h. let k = node_at i v h in subst (λ u. (w : Bool) → r.own u.position ≡ Some w → (w ≡ true) × (u.edges ≡ [])) k.2 (ended_node k.0 k.3);
          counted = λ i v h. let k = node_at i v h in subst (λ u. r.own u.position ≡ None → run_out r (r.counter u.position) ≡ false) k.2 (counted_node k.0 k.3);
          attack = λ i v h. let k = node_at i v h in subst (λ u. r.own u.position ≡ None → r.attacking u.position ≡ true → (e : Edge M) × (u.edges ≡ e ∷ []) × Fits r plain l table u e) k.2 (attack_node k.0 k.3);
          defence = λ i v h. let k = node_at i v h in subst (λ u. r.own u.position ≡ None → r.attacking u.position ≡ false → (is_doubled r plain u.edges ≡ false) × ((m : M) → Member m (r.legal u.position) → has_edge r plain u m ≡ true) × ((e : Edge M) → Member e u.edges → Fits r plain l table u e)) k.2 (defence_node k.0 k.3);
          differ = places;
          alone = λ i v h e.
              let k = node_at (suc i) v h in
              let t : r.same (r.repeat k.0) (r.repeat g.last) ≡ false = (neither _ _ (none_passes stands_in_way rest clear k.0 (listed rest i k.0 k.1))).0 in
              let z = (l.decides (r.repeat k.0) (r.repeat g.last)).1 (sym (writing.exact_repeat k.0) ∙ ap (λ u. r.repeat u.position) k.2 ∙ e ∙ writing.exact_repeat g.last) in true_false _ z t;
          few = λ i v h q.
              let k = node_at (suc i) v h in
              let t = (neither _ _ (none_passes stands_in_way rest clear k.0 (listed rest i k.0 k.1))).1 in
              let repeat : r.repeat k.0 ≡ r.repeat v.position = sym (writing.exact_repeat k.0) ∙ ap (λ u. r.repeat u.position) k.2 in
              subst (λ y. times r y (history g) + nodes_of r plain y table < r.fold) repeat (below_fold r.fold _ t q);
          start = λ _. (open_game, open_count);
        }

    -- a good strategy, or a position of the table that stands in the way
    good-or : (n : ℕ) → rank_of (r.attacking g.last) (suc x.left) ≤ n → GoodTable P R M r Written g n ⊎ ((p : P) × Member p rest × (stands_in_way p ≡ true))
    good-or n rank =
        by_cases (list_any stands_in_way rest)
        (λ h. let u = any_member stands_in_way rest h in inr (u.0, u.1, u.2))
        (λ h. inl (record { nodes = table; faultless = plan-good r plain l table g n (plan n rank h); written = written }))

    -- the kept repeat, with different counters at which it stands on winning lines
    pub record Evidence : Type 0 where
      pub repeat : R
      pub counters : List ℕ
      pub differ : (i j c : ℕ) → slice_get counters i ≡ Some c → slice_get counters j ≡ Some c → i ≡ j
      pub on_lines : (c : ℕ) → Member c counters → (p : P) × (r.repeat p ≡ repeat) × (r.counter p ≡ c) × Line (suc x.left) g.last p
      pub many : ((repeat ≡ r.repeat g.last) × (2 ≤ length counters)) ⊎ ((repeat ≡ r.repeat g.last → ⊥) × (0 < r.fold) × (r.fold ≤ length counters + times r repeat (history g)))

    root_again : (p : P) → Member p rest → r.repeat p ≡ r.repeat g.last → Evidence
    root_again p k e = record {
      repeat = r.repeat g.last;
      counters = r.counter g.last ∷ r.counter p ∷ [];
      differ = two (r.counter g.last) (r.counter p) (λ c. S.not_root r ways g.last x p (once_in same_key key_decides key tail p k) (λ i. record { of = e i; count = sym c i }));
      on_lines = λ c m. line c m;
      many = inl (refl, omega arith);
    }
      where
        line : (c : ℕ) → Member c (r.counter g.last ∷ r.counter p ∷ []) → (q : P) × (r.repeat q ≡ r.repeat g.last) × (r.counter q ≡ c) × Line (suc x.left) g.last q
        line c (inl h) = (g.last, refl, h, inl refl)
        line c (inr (inl h)) = (p, e, h, inr (lines p k))
        line c (inr (inr h)) = absurd h

    picked : R → List P
    picked y = filter (λ q. r.same (r.repeat q) y) rest

    nodes_length : (y : R) → (r.repeat g.last ≡ y → ⊥) → nodes_of r plain y table ≡ length (map r.counter (picked y))
    unfolding nodes_of table picked node_of
    nodes_length y n =
        let f : Node P M → Bool = λ v. r.same (r.repeat v.position) y in
        let passes : ◌≡◌ {A = P → Bool} (λ q. f (node_of q)) (λ q. r.same (r.repeat q) y) = λ i q. r.same (writing.exact_repeat q i) y in
        let a = sum_by-cons (λ v. cond (f v) 1 0) (node_of g.last) (map node_of rest) in
        let e = not_true (f (node_of g.last)) (λ t. n (sym (writing.exact_repeat g.last) ∙ (l.decides _ _).0 t)) in
        let z : ◌≡◌ {A = ℕ} (cond (f (node_of g.last)) 1 0) 0 = ap (λ c. cond c 1 0) e in
        let b = count_map f node_of rest ∙ ap (λ t. count_by t rest) passes in
        let c = length-filter (λ q. r.same (r.repeat q) y) rest in
        let d = map_length r.counter (filter (λ q. r.same (r.repeat q) y) rest) in
        omega arith

    apart_kept : (f : P → Bool) (ys : List P) → Apart same_key key_decides key ys → Apart same_key key_decides key (filter f ys)
    apart_kept f [] a = tt
    apart_kept f (y ∷ ys) a =
        by_cases (f y)
        (λ e. subst (λ c. Apart same_key key_decides key (cond c (y ∷ filter f ys) (filter f ys))) (sym e) (λ z k. a.0 z (kept f ys z k).0, apart_kept f ys a.1))
        (λ e. subst (λ c. Apart same_key key_decides key (cond c (y ∷ filter f ys) (filter f ys))) (sym e) (apart_kept f ys a.1))

    too_often : (p : P) → Member p rest → (r.repeat p ≡ r.repeat g.last → ⊥) → 0 < r.fold → r.fold ≤ times r (r.repeat p) (history g) + nodes_of r plain (r.repeat p) table → Evidence
    unfolding picked
    too_often p k n pos h = record {
      repeat = r.repeat p;
      counters = map r.counter (picked (r.repeat p));
      differ = λ i j c u v.
          let a = mapped r.counter (picked (r.repeat p)) i c u in
          let z = mapped r.counter (picked (r.repeat p)) j c v in
          let f = kept (λ q. r.same (r.repeat q) (r.repeat p)) rest a.0 (listed (picked (r.repeat p)) i a.0 a.1) in
          let k = kept (λ q. r.same (r.repeat q) (r.repeat p)) rest z.0 (listed (picked (r.repeat p)) j z.0 z.1) in
          let e : r.repeat a.0 ≡ r.repeat z.0 = (l.decides _ _).0 f.1 ∙ sym ((l.decides _ _).0 k.1) in
          let h : r.counter a.0 ≡ r.counter z.0 = a.2 ∙ sym z.2 in
          apart_alone same_key key_decides key (picked (r.repeat p)) (apart_kept (λ q. r.same (r.repeat q) (r.repeat p)) rest (apart_once same_key key_decides key tail)) i j a.0 z.0 a.1 z.1 (λ t. record { of = e t; count = h t });
      on_lines = λ c m. let u = map_member r.counter (picked (r.repeat p)) c m in let v = kept (λ q. r.same (r.repeat q) (r.repeat p)) rest u.0 u.1 in (u.0, (l.decides _ _).0 v.1, u.2, inr (lines u.0 v.0));
      many = inr (n, pos, (let e = nodes_length (r.repeat p) (λ s. n (sym s)) in omega arith));
    }

    evidence : (p : P) → Member p rest → stands_in_way p ≡ true → Evidence
    unfolding stands_in_way
    evidence p k h =
        by_cases (r.same (r.repeat p) (r.repeat g.last))
        (λ e. root_again p k ((l.decides _ _).0 e))
        (λ e. let t = or_right_of _ _ e h in let u = tests_from r.fold _ t in too_often p k (λ s. true_false _ ((l.decides _ _).1 s) e) u.0 u.1)

    good-or-evidence : (n : ℕ) → rank_of (r.attacking g.last) (suc x.left) ≤ n → GoodTable P R M r Written g n ⊎ Evidence
    good-or-evidence n rank = widen (good-or n rank)
      where
        widen : GoodTable P R M r Written g n ⊎ ((p : P) × Member p rest × (stands_in_way p ≡ true)) → GoodTable P R M r Written g n ⊎ Evidence
        widen (inl h) = inl h
        widen (inr h) = inr (evidence h.0 h.1 h.2)

  -- ---- from the root

  end_live : (y z t : Bool) (o : Option Bool) → o ≡ None → decided (or_end o (lost_if (y || z))) t ≡ true → (y ≡ false) × (z ≡ false) × (t ≡ true)
  end_live y z t o e h = live_step o y z t e h

  root_mine : (n : ℕ) → r.own g.last ≡ None → r.attacking g.last ≡ true → near_root r n g ≡ true → S.root_on r ways g.last (double n) ≡ true
  unfolding near_root S.root_on double
  root_mine zero own m h =
      let k = end_live (repeated r g) (run_out r (r.counter g.last)) _ (r.own g.last) own h in
      let z : false ≡ true = subst (λ c. (if c then false else near_defence r (blocked r g) zero g.last) ≡ true) m k.2 in cc
  root_mine (suc n) own m h =
      let k = end_live (repeated r g) (run_out r (r.counter g.last)) _ (r.own g.last) own h in
      let z : near_attack r (blocked r g) (suc n) g.last ≡ true = subst (λ c. (if c then near_attack r (blocked r g) (suc n) g.last else near_defence r (blocked r g) (suc n) g.last) ≡ true) m k.2 in
      rw m (any_mono _ _ (r.legal g.last) (λ c f. sym (near-attack r l (blocked r g) n g.last m c) ∙ f) z)

  root_other : (n : ℕ) → r.own g.last ≡ None → r.attacking g.last ≡ false → near_root r n g ≡ true → S.root_on r ways g.last (suc (double n)) ≡ true
  unfolding near_root S.root_on
  root_other n own m h =
      let k = end_live (repeated r g) (run_out r (r.counter g.last)) _ (r.own g.last) own h in
      let z : near_defence r (blocked r g) n g.last ≡ true = subst (λ c. (if c then near_attack r (blocked r g) n g.last else near_defence r (blocked r g) n g.last) ≡ true) m k.2 in
      rw m (all_mono _ _ (r.legal g.last) (λ c f. sym (near-defence r l (blocked r g) n g.last m c) ∙ f) z)

  abbrev plies : ℕ → ℕ
  plies n = if r.attacking g.last then double n else suc (double n)

  root_near : (n : ℕ) → r.own g.last ≡ None → near_root r n g ≡ true → S.root_on r ways g.last (plies n) ≡ true
  root_near n own h = by_cases (r.attacking g.last) (λ m. rw m (root_mine n own m h)) (λ m. rw m (root_other n own m h))

  rank_fits : (n b : ℕ) → suc b ≤ plies n → rank_of (r.attacking g.last) (suc b) ≤ n
  rank_fits n b h =
      let d = double-is n in
      by_cases (r.attacking g.last)
      (λ m. let k : suc b ≤ double n = subst (λ c. suc b ≤ (if c then double n else suc (double n))) m h in rw m (omega arith))
      (λ m. let k : suc b ≤ suc (double n) = subst (λ c. suc b ≤ (if c then double n else suc (double n))) m h in rw m (omega arith))

  -- an ongoing game that is won without history has a good strategy, or the evidence that a solver shows in its place
  pub near_root-settled : (n : ℕ) (own : r.own g.last ≡ None) (open_game : repeated r g ≡ false) (open_count : run_out r (r.counter g.last) ≡ false) → near_root r n g ≡ true →
      GoodTable P R M r Written g n ⊎ ((x : Shortest P R M (Key R) r ways g.last) × (suc x.left ≤ plies n) × Evidence x open_game open_count)
  near_root-settled n own open_game open_count h =
      let x = shortest r ways g.last own (plies n) (root_near n own h) in
      widen x.0 x.2 (good-or-evidence x.0 open_game open_count n (rank_fits n x.0.left x.2))
    where
      widen : (x : Shortest P R M (Key R) r ways g.last) → suc x.left ≤ plies n → GoodTable P R M r Written g n ⊎ Evidence x open_game open_count → GoodTable P R M r Written g n ⊎ ((x : Shortest P R M (Key R) r ways g.last) × (suc x.left ≤ plies n) × Evidence x open_game open_count)
      widen x low (inl h) = inl h
      widen x low (inr h) = inr (x, low, h)
