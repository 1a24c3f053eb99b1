-- What is won, where the counter does not run out, has a good strategy.
use Rattle.std.proofs.Common.{◌≡◌, ◌⊎◌, inl, inr, ℕ, zero, suc, ◌+◌, ◌-◌, ◌<◌, ◌≤◌, List, [], ◌∷◌, map, Bool, true, false, Option, Some, None, not, ◌||◌, if◌then◌else◌, slice_get, refl, ap, sym, ◌∙◌, subst, arith}
use Rattle.std.specs.List.{list_any, list_all}
use Rattle.foundation.specs.Member.{Member}
use Rattle.forced_wins.specs.Contests.{decided, within}
use Rattle.forced_wins.specs.Games.{Game, GameLaws, Story, history, times, run_out, repeated, plus, lost_if, or_end, of_games, of_positions, wins, blocked}
use Rattle.forced_wins.specs.PlainTables.{Edge, Node, plain}
use Rattle.forced_wins.specs.Tables.{is_doubled, has_edge}
use Rattle.forced_wins.proofs.ContestLaws.{if_mono, any_mono, all_mono, within-mono, double, double-is, forced-attacking, forced-other}
use Rattle.forced_wins.proofs.Counts.{by_cases, own_cases, tests_none, below_fold, times_none, times_here, times_other}
use Rattle.forced_wins.proofs.NearLaws.{uncounted, free, free-same, within-free, within-positions, of_games-turns}
use Rattle.forced_wins.proofs.Lists.{listed, once_in, apart_alone, mapped, map_at, map_member}
use Rattle.forced_wins.proofs.ShortestWins as S
use Rattle.forced_wins.proofs.ShortestWins.{PlyWins, Shortest, shortest, rank_of, falls_at, doubled}
use Rattle.forced_wins.proofs.Plans.{Fits, IsPlan, plan-good, one_node}
use Rattle.forced_wins.proofs.ClaimLaws.{forced-ended}
use Rattle.forced_wins.proofs.Writings.{Writing, GoodTable}

live_step : (o : Option Bool) (y t : Bool) → o ≡ None → decided (or_end o (lost_if (y || false))) t ≡ true → (y ≡ false) × (t ≡ true)
live_step None true t e h = cc
live_step None false t e h = (refl, h)
live_step (Some w) y t e h = cc

won_step : (o : Option Bool) (y t w : Bool) → o ≡ Some w → decided (or_end o (lost_if (y || false))) t ≡ true → w ≡ true
won_step None y t w e h = cc
won_step (Some u) y t w e h = let k : u ≡ w = cc in sym k ∙ h

-- ---- the plan

module _ {P R M : Type 0} (r : Game P R M) (l : GameLaws P R M r) {Reached Written : P → Type 0} (writing : Writing P R M r Reached Written) (apart : (p : P) → doubled r.same_move (r.legal p) ≡ false) (g : Story P) (start : Reached g.last) where
  abbrev W : ℕ → P → Bool
  W t p = free r l (blocked r g) t p

  -- each move, or some move of the attacker, leads to a win by t moves
  abbrev moves_on : ℕ → P → Bool
  moves_on t p = if r.attacking p then list_any (λ m. W t (r.next p m)) (r.legal p) else list_all (λ m. W t (r.next p m)) (r.legal p)

  -- an ongoing position that is won by t moves
  W-live : (t : ℕ) (p : P) → r.own p ≡ None → W t p ≡ true → (u : ℕ) × (t ≡ suc u) × (blocked r g (r.repeat p) ≡ false) × (moves_on u p ≡ true)
  unfolding within run_out
  W-live zero p e h = let k = live_step (r.own p) (blocked r g (r.repeat p)) false e h in let z = k.1 in cc
  W-live (suc t) p e h = let k = live_step (r.own p) (blocked r g (r.repeat p)) _ e h in (t, refl, k.0, k.1)

  W-won : (t : ℕ) (p : P) (w : Bool) → r.own p ≡ Some w → W t p ≡ true → w ≡ true
  unfolding within run_out
  W-won zero p w e h = won_step (r.own p) (blocked r g (r.repeat p)) _ w e h
  W-won (suc t) p w e h = won_step (r.own p) (blocked r g (r.repeat p)) _ w e h

  W-same : (t : ℕ) (p q : P) → r.repeat p ≡ r.repeat q → W t p ≡ true → W t q ≡ true
  W-same t p q e h = sym (free-same r l (blocked r g) t p q e) ∙ h

  -- the counter aside, a repeat alone says by how many plies it is won
  abbrev ways : PlyWins P R M R r
  ways = record {
    won = W;
    longer = λ t p h. within-mono (of_positions (uncounted r l) (blocked r g)) t p h;
    goes_on = λ t p e h. let k = W-live t p e h in (k.0, k.1, k.3);
    ended = W-won;
    key = r.repeat;
    same = r.same;
    decides = l.decides;
    alike = W-same;
  }

  module _ (x : Shortest P R M R r ways g.last) (played : (p : P) → Member p g.earlier → r.own p ≡ None) (open_game : repeated r g ≡ false) where
    abbrev tail : List P
    tail = S.tail r ways g.last x

    abbrev rest : List P
    rest = S.rest r ways g.last x

    abbrev all : List P
    all = S.all r ways g.last x

    abbrev budget : P → ℕ
    budget = S.budget r ways g.last x

    abbrev edge : P → M → Edge M
    edge = S.edge r ways g.last x

    room : ℕ
    room = r.counter g.last + x.plies

    node_of : P → Node P M
    node_of p = record { position = writing.at p (room - budget p); rank = rank_of (r.attacking p) (budget p); edges = S.edges_at r ways g.last x p (r.own p) (r.attacking p) }

    table : List (Node P M)
    table = map node_of all

    -- an edge to a position that is won by less
    fits : (p : P) (s : S.Step r ways g.last x p) (m : M) → Member m (r.legal p) → W s.left (r.next p m) ≡ true → Fits r plain l table (node_of p) (edge p m)
    unfolding table node_of room
    fits p s m k w =
        let y = S.led r ways g.last x p s m k w in
        let low = y.3 in
        let most = y.4 in
        let is = s.is in
        let near = s.near in
        let turn : r.attacking (writing.at p (room - budget p)) ≡ r.attacking p = l.same_turn _ _ (writing.at_repeat p _) in
        let next : r.attacking y.0 ≡ not (r.attacking p) = l.same_turn y.0 (r.next p m) y.2 ∙ l.turns p m in
        record {
          node = node_of y.0;
          stands = map_at node_of all _ y.0 y.1;
          legal = subst (Member m) (sym (l.same_legal _ p (writing.at_repeat p _))) k;
          same = writing.at_repeat y.0 _ ∙ y.2 ∙ sym (l.same_next _ p m (writing.at_repeat p _));
          covers = writing.at_next p y.0 m (room - budget p) (room - budget y.0) (omega arith);
          falls = rw (turn, next, is) (falls_at (r.attacking p) s.left (budget y.0) low);
        }

    -- a fact about the nodes, from one about the positions
    node_at : (i : ℕ) (v : Node P M) → slice_get table i ≡ Some v → (p : P) × (slice_get all i ≡ Some p) × (node_of p ≡ v) × Member p all
    unfolding table
    node_at i v h = let k = mapped node_of all i v h in (k.0, k.1, k.2, listed all i k.0 k.1)

    written : (v : Node P M) → Member v table → Written v.position
    unfolding table node_of
    written v k =
        let u = map_member node_of all v k in
        let reached = S.all-keeps r ways g.last x Reached writing.goes_on start u.0 u.1 in
        subst (λ y. Written y.position) u.2 (writing.at_written u.0 (room - budget u.0) reached)

    own-at : (p : P) (c : ℕ) → r.own (writing.at p c) ≡ r.own p
    own-at p c = l.same_own (writing.at p c) p (writing.at_repeat p c)

    ended_node : (p : P) → Member p all → (w : Bool) → r.own (node_of p).position ≡ Some w → (w ≡ true) × ((node_of p).edges ≡ [])
    unfolding node_of
    ended_node p i w e = let k = sym (own-at p _) ∙ e in ((S.facts r ways g.last x p i).0 w k, S.ended-edges r ways g.last x p w k)

    counted_node : (r.limit ≡ 0) ⊎ (room ≤ r.limit) → (p : P) → Member p all → r.own (node_of p).position ≡ None → run_out r (r.counter (node_of p).position) ≡ false
    unfolding node_of run_out room
    counted_node low p i e =
        let s = (S.facts r ways g.last x p i).1 (sym (own-at p _) ∙ e) in
        let c = writing.at_low p (room - budget p) in
        let is = s.is in
        let near = s.near in
        tests_none r.limit _ (under r.limit room _ low (omega arith))
      where
        under : (a x y : ℕ) → (a ≡ 0) ⊎ (x ≤ a) → y < x → (a ≡ 0) ⊎ (y < a)
        under a x y (inl e) h = inl e
        under a x y (inr k) h = inr (omega arith)

    attack_node : (p : P) → Member p all → r.own (node_of p).position ≡ None → r.attacking (node_of p).position ≡ true → (e : Edge M) × ((node_of p).edges ≡ e ∷ []) × Fits r plain l table (node_of p) e
    unfolding node_of
    attack_node p i e m =
        let live = sym (own-at p _) ∙ e in
        let s = (S.facts r ways g.last x p i).1 live in
        let u = S.attack-edge r ways g.last x p s live (sym (l.same_turn _ p (writing.at_repeat p _)) ∙ m) in
        (edge p u.0, u.1, fits p s u.0 u.2 u.3)

    defence_node : (p : P) → Member p all → r.own (node_of p).position ≡ None → r.attacking (node_of p).position ≡ false → (is_doubled r plain (node_of p).edges ≡ false) × ((m : M) → Member m (r.legal (node_of p).position) → has_edge r plain (node_of p) m ≡ true) × ((e : Edge M) → Member e (node_of p).edges → Fits r plain l table (node_of p) e)
    unfolding node_of
    defence_node p i e m =
        let live = sym (own-at p _) ∙ e in
        let s = (S.facts r ways g.last x p i).1 live in
        let u = S.defence-edges r ways g.last x l p s live (sym (l.same_turn _ p (writing.at_repeat p _)) ∙ m) (apart p) (node_of p).edges refl in (
          u.0,
          λ c k. u.1 c (subst (Member c) (l.same_legal _ p (writing.at_repeat p _)) k),
          λ f k. let v = u.2 f k in subst (λ y. Fits r plain l table (node_of p) y) v.2 (fits p s v.0 v.1 v.3),
        )

    few_live : (p : P) → Member p tail → 0 < r.fold → r.own p ≡ None → times r (r.repeat p) (history g) + 1 < r.fold
    unfolding blocked
    few_live p k h e = let u = S.from_tail r ways g.last x p k in let w = W-live u.0 p e u.2 in below_fold r.fold _ w.2 h

    few_ended : (p : P) → 0 < r.fold → (w : Bool) → r.own p ≡ Some w → times r (r.repeat p) (history g) + 1 < r.fold
    unfolding repeated
    few_ended p h w e =
        let none = times_none r l (r.repeat p) g.earlier (λ q k s. let a = l.same_own q p s in let b = played q k in cc) in
        let last = times_other r l (r.repeat p) g.last g.earlier (λ s. let a = l.same_own g.last p s in let o = x.own in cc) in
        let here = times_here r l (r.repeat g.last) g.last g.earlier refl in
        let open_now = below_fold r.fold _ open_game h in
        omega arith

    few_times : (p : P) → Member p tail → 0 < r.fold → times r (r.repeat p) (history g) + 1 < r.fold
    few_times p k h = own_cases (r.own p) (few_ended p h) (few_live p k h)

    places : (i j : ℕ) (v w : Node P M) → slice_get table i ≡ Some v → slice_get table j ≡ Some w → r.repeat v.position ≡ r.repeat w.position → i ≡ j
    unfolding node_of
    places i j v w a d e =
        let k = node_at i v a in
        let n = node_at j w d in
        apart_alone r.same l.decides r.repeat all (S.apart_all r ways g.last x) i j k.0 n.0 k.1 n.1 (sym (writing.at_repeat k.0 _) ∙ ap (λ u. r.repeat u.position) k.2 ∙ e ∙ sym (ap (λ u. r.repeat u.position) n.2) ∙ writing.at_repeat n.0 _)

    not_run : (p : P) → (r.limit ≡ 0) ⊎ (room ≤ r.limit) → run_out r (r.counter g.last) ≡ false
    unfolding run_out room
    not_run p (inl e) = tests_none r.limit _ (inl e)
    not_run p (inr h) = let s = S.small r ways g.last x in tests_none r.limit _ (inr (omega arith))

    plan : (n : ℕ) → rank_of (r.attacking g.last) (suc x.left) ≤ n → (r.limit ≡ 0) ⊎ (room ≤ r.limit) → IsPlan r plain l table g n
    unfolding table node_of room
    plan n rank low =
        let size = S.small r ways g.last x in
        let root = S.budget-root r ways g.last x in
        record {
          root = node_of g.last;
          stands = refl;
          same = writing.at_repeat g.last _;
          covers = writing.at_high g.last (room - budget g.last) start (omega arith);
          rank = subst (λ y. rank_of (r.attacking g.last) y ≤ n) (sym root) rank;
          ended = λ i v h. let k = node_at i v h in subst (λ u. (w : Bool) → r.own u.position ≡ Some w → (w ≡ true) × (u.edges ≡ [])) k.2 (ended_node k.0 k.3);
          counted = λ i v h. let k = node_at i v h in subst (λ u. r.own u.position ≡ None → run_out r (r.counter u.position) ≡ false) k.2 (counted_node low k.0 k.3);
          attack = λ i v h. let k = node_at i v h in subst (λ u. r.own u.position ≡ None → r.attacking u.position ≡ true → (e : Edge M) × (u.edges ≡ e ∷ []) × Fits r plain l table u e) k.2 (attack_node k.0 k.3);
          defence = λ i v h. let k = node_at i v h in subst (λ u. r.own u.position ≡ None → r.attacking u.position ≡ false → (is_doubled r plain u.edges ≡ false) × ((m : M) → Member m (r.legal u.position) → has_edge r plain u m ≡ true) × ((e : Edge M) → Member e u.edges → Fits r plain l table u e)) k.2 (defence_node k.0 k.3);
          differ = λ i j v w a d e _. places i j v w a d e;
          alone = λ i v h e. let z = places (suc i) 0 v (node_of g.last) h refl e in omega arith;
          few = λ i v h q.
              let k = node_at (suc i) v h in
              let e : r.repeat k.0 ≡ r.repeat v.position = sym (writing.at_repeat k.0 _) ∙ ap (λ u. r.repeat u.position) k.2 in
              let one = one_node r plain l table places (r.repeat v.position) in
              let few = subst (λ y. times r y (history g) + 1 < r.fold) e (few_times k.0 (once_in r.same l.decides r.repeat tail k.0 (listed rest i k.0 k.1)) q) in omega arith;
          start = λ _. (open_game, not_run g.last low);
        }

  -- ---- the theorem

  end_live : (y z t : Bool) (o : Option Bool) → o ≡ None → decided (or_end o (lost_if (y || z))) t ≡ true → (y ≡ false) × (t ≡ true)
  end_live true z t None e h = cc
  end_live false true t None e h = cc
  end_live false false t None e h = (refl, h)
  end_live y z t (Some w) e h = cc

  root_from : (T : ℕ) → r.own g.last ≡ None → within (of_games r) T g ≡ true → (S.root_on r ways g.last T ≡ true) × (repeated r g ≡ false)
  unfolding within S.root_on
  root_from zero e h = let k = end_live (repeated r g) _ false (r.own g.last) e h in let z = k.1 in cc
  root_from (suc t) e h =
      let k = end_live (repeated r g) _ _ (r.own g.last) e h in
      let down : (m : M) → within (of_games r) t (plus r g m) ≡ true → W t (r.next g.last m) ≡ true =
      λ m f. within-free r l (blocked r g) t (r.next g.last m) (within-positions r l g t (plus r g m) (λ x. omega arith) f) in
      (if_mono (r.attacking g.last) _ _ _ _ (any_mono _ _ (r.legal g.last) down) (all_mono _ _ (r.legal g.last) down) k.1, k.0)

  -- an ongoing game
  live_good : (n T : ℕ) → r.own g.last ≡ None → ((p : P) → Member p g.earlier → r.own p ≡ None) → within (of_games r) T g ≡ true → ((b : ℕ) → suc b ≤ T → rank_of (r.attacking g.last) (suc b) ≤ n) → (r.limit ≡ 0) ⊎ (r.counter g.last + T ≤ r.limit) → GoodTable P R M r Written g n
  unfolding room
  live_good n T own played h rank low =
      let k = root_from T own h in
      let x = shortest r ways g.last own T k.0 in
      let p = plan x.0 played k.1 n (rank x.0.left x.2) (subst (λ t. (r.limit ≡ 0) ⊎ (r.counter g.last + t ≤ r.limit)) (sym x.1) low) in
      record { nodes = table x.0 played k.1; faultless = plan-good r plain l (table x.0 played k.1) g n p; written = written x.0 played k.1 }

  abbrev root_alone : Node P M
  root_alone = record { position = writing.exact g.last; rank = 0; edges = [] }

  -- an ended game that is won has a strategy of one node
  ended_plan : (w : Bool) → r.own g.last ≡ Some w → w ≡ true → (n : ℕ) → IsPlan r plain l (root_alone ∷ []) g n
  ended_plan w own won n =
      let count = writing.exact_counter g.last in
      let here : r.own (writing.exact g.last) ≡ Some w = l.same_own _ g.last (writing.exact_repeat g.last) ∙ own in
      record {
        root = root_alone;
        stands = refl;
        same = writing.exact_repeat g.last;
        covers = omega arith;
        rank = omega arith;
        ended = λ i v h u e. let k = alone_at i v h in (let a = ap (λ (x : Node P M). r.own x.position) k in cc, sym (ap (λ (x : Node P M). x.edges) k));
        counted = λ i v h e. let k = alone_at i v h in let a = ap (λ (x : Node P M). r.own x.position) k in cc;
        attack = λ i v h e m. let k = alone_at i v h in let a = ap (λ (x : Node P M). r.own x.position) k in let z : Some w ≡ None = sym here ∙ a ∙ e in cc;
        defence = λ i v h e m. let k = alone_at i v h in let a = ap (λ (x : Node P M). r.own x.position) k in let z : Some w ≡ None = sym here ∙ a ∙ e in cc;
        differ = λ i j u v a b e _. one_place i j u v a b;
        alone = λ i v h e. cc;
        few = λ i v h q. cc;
        start = λ e. let z : Some w ≡ None = sym own ∙ e in cc;
      }
    where
      alone_at : (i : ℕ) (v : Node P M) → slice_get (root_alone ∷ []) i ≡ Some v → root_alone ≡ v
      alone_at zero v h = cc
      alone_at (suc i) v h = cc

      one_place : (i j : ℕ) (u v : Node P M) → slice_get (root_alone ∷ []) i ≡ Some u → slice_get (root_alone ∷ []) j ≡ Some v → i ≡ j
      one_place zero zero u v a b = refl
      one_place zero (suc j) u v a b = cc
      one_place (suc i) j u v a b = cc

  pub ended_table : (w : Bool) → r.own g.last ≡ Some w → w ≡ true → (n : ℕ) → GoodTable P R M r Written g n
  ended_table w own won n = record { nodes = root_alone ∷ []; faultless = plan-good r plain l (root_alone ∷ []) g n (ended_plan w own won n); written = alone }
    where
      alone : (v : Node P M) → Member v (root_alone ∷ []) → Written v.position
      alone v (inl e) = subst (λ (x : Node P M). Written x.position) e (writing.exact_written g.last start)
      alone v (inr k) = absurd k

  live_mine : (n : ℕ) → r.own g.last ≡ None → ((p : P) → Member p g.earlier → r.own p ≡ None) → (r.limit ≡ 0) ⊎ (r.counter g.last + (n + n) < r.limit) → wins r n g ≡ true → r.attacking g.last ≡ true → GoodTable P R M r Written g n
  live_mine n own played low h m =
      let d = double-is n in
      live_good n (double n) own played (sym (forced-attacking (of_games r) (of_games-turns r l) n g m) ∙ h)
      (λ b k. rw m (omega arith)) (enough low)
    where
      enough : (r.limit ≡ 0) ⊎ (r.counter g.last + (n + n) < r.limit) → (r.limit ≡ 0) ⊎ (r.counter g.last + double n ≤ r.limit)
      enough (inl e) = inl e
      enough (inr k) = let d = double-is n in inr (omega arith)

  live_other : (n : ℕ) → r.own g.last ≡ None → ((p : P) → Member p g.earlier → r.own p ≡ None) → (r.limit ≡ 0) ⊎ (r.counter g.last + (n + n) < r.limit) → wins r n g ≡ true → r.attacking g.last ≡ false → GoodTable P R M r Written g n
  live_other n own played low h m =
      let d = double-is n in
      live_good n (suc (double n)) own played (sym (forced-other (of_games r) (of_games-turns r l) n g m) ∙ h)
      (λ b k. rw m (omega arith)) (enough low)
    where
      enough : (r.limit ≡ 0) ⊎ (r.counter g.last + (n + n) < r.limit) → (r.limit ≡ 0) ⊎ (r.counter g.last + suc (double n) ≤ r.limit)
      enough (inl e) = inl e
      enough (inr k) = let d = double-is n in inr (omega arith)

  ended_wins : (n : ℕ) (w : Bool) → r.own g.last ≡ Some w → wins r n g ≡ true → w ≡ true
  ended_wins n w e h = sym (forced-ended (of_games r) n g w (rw e)) ∙ h

  -- what is won, where the counter does not run out, has a good strategy
  pub exists-good : (n : ℕ) → ((p : P) → Member p g.earlier → r.own p ≡ None) → (r.limit ≡ 0) ⊎ (r.counter g.last + (n + n) < r.limit) → wins r n g ≡ true → GoodTable P R M r Written g n
  exists-good n played low h =
      own_cases (r.own g.last)
      (λ w e. ended_table w e (ended_wins n w e h) n)
      (λ e. by_cases (r.attacking g.last) (live_mine n e played low h) (live_other n e played low h))
