-- A sound table is a good strategy: inside the limit always, near it where no repeat stands too often.
use Rattle.std.proofs.Common.{◌≡◌, ◌⊎◌, inl, inr, ℕ, zero, suc, ◌+◌, ◌-◌, ◌<◌, ◌≤◌, List, [], ◌∷◌, map, Bool, true, false, not, ◌||◌, nat_lt, Option, Some, None, slice_get, refl, ap, sym, ◌∙◌, subst, arith}
use Rattle.std.specs.List.{list_any}
use Rattle.std.proofs.lemmas.Bool.Decides.{nat_tests}
use Rattle.rules_model.specs.declared.board.Position.{Position}
use Rattle.rules_model.specs.declared.board.Repeat.{Repeat}
use Rattle.rules_model.specs.declared.moves.Move.{Move}
use Rattle.foundation.specs.Member.{Member, IsEachOnce}
use Rattle.forced_wins.specs.Games.{Game, GameLaws, Story, IsPlayed, history, times, repeated, run_out, blocked}
use Rattle.forced_wins.specs.Tables.{nodes_of, is_doubled, has_edge, fits_rank, IsGood}
use Rattle.forced_wins.proofs.Counts.{by_cases, not_true, own_cases, tests_none, le_true, below_fold, none_stand, times-test, times_here, times_other}
use Rattle.forced_wins.proofs.ContestLaws.{any_intro}
use Rattle.forced_wins.proofs.Lists.{map_member}
use Rattle.forced_wins.proofs.Plans.{Fits, IsPlan, plan-good, one_node}
use Rattle.forced_wins.proofs.ShortestWins.{doubled}
use Rattle.forced_wins.proofs.Unsettled.{once-doubled}
use Rattle.forced_wins.proofs.Verdicts.{faultless-verdict}
use Rattle.strategy.specs.declared.nodes.Node.{Node}
use Rattle.strategy.specs.declared.nodes.Edge.{Edge}
use Rattle.mate_showing.specs.declared.plan.StrategyPlan.{StrategyPlan}
use Rattle.mate_settle.specs.Lines.{plies}
use Rattle.mate_fact.specs.InFrame.{left_after}
use Rattle.mate_showing.specs.Tables.{nodes, highest, most, Stands, IsLed, AreEdges, IsRow, IsSound}

lt_true : (m n : ℕ) → m < n → nat_lt m n ≡ true
lt_true m n h = grind (arith, nat_tests)

falls_from : (a : Bool) (n k : ℕ) → k ≤ left_after a n → (a ≡ true → 0 < n) → fits_rank a n k ≡ true
falls_from true n k h f = let z = f refl in lt_true k n (omega arith)
falls_from false n k h f = le_true k n h

module _ (r : Game Position Repeat Move) (l : GameLaws Position Repeat Move r) (once : (p : Position) → IsEachOnce (r.legal p)) where
  -- ---- edges by their moves

  any-chosen : (e : Edge) (es : List Edge) → list_any (λ (f : Edge). r.same_move e.chosen f.chosen) es ≡ list_any (r.same_move e.chosen) (map (λ (f : Edge). f.chosen) es)
  any-chosen e [] = refl
  any-chosen e (x ∷ es) = ap (λ z. r.same_move e.chosen x.chosen || z) (any-chosen e es)

  doubled-chosen : (es : List Edge) → is_doubled r nodes es ≡ doubled r.same_move (map (λ (f : Edge). f.chosen) es)
  doubled-chosen [] = refl
  doubled-chosen (x ∷ es) = let a = any-chosen x es in let b = doubled-chosen es in rw (a, b)

  has-chosen : (v : Node) (m : Move) → Member m (map (λ (f : Edge). f.chosen) v.edges) → has_edge r nodes v m ≡ true
  has-chosen v m k =
      let u = map_member (λ (f : Edge). f.chosen) v.edges m k in
      any_intro (λ (f : Edge). r.same_move f.chosen m) u.0 v.edges u.1 ((l.decides_move u.0.chosen m).1 u.2)

  times_none : (x : Repeat) (ps : List Position) → ((q : Position) → Member q ps → r.repeat q ≡ x → ⊥) → times r x ps ≡ 0
  times_none x [] f = none_stand r x
  times_none x (p ∷ ps) f =
      let h = times-test r l x p ps false (not_true (r.same (r.repeat p) x) (λ t. f p (inl refl) ((l.decides (r.repeat p) x).0 t))) in
      let k = times_none x ps (λ q m. f q (inr m)) in omega arith

  module _ (g : Story Position) (n : ℕ) (plan : StrategyPlan) (s : List Node) (b : Repeat → Bool) (same : (x : Repeat) → b x ≡ blocked r g x) (is_root : plan.root ≡ g.last) (sound : IsSound r b plan s) (place : ℕ) (top : Stands r plan.exact s plan.root n place) (small : n ≤ most) (start : r.own g.last ≡ None → (repeated r g ≡ false) × (run_out r (r.counter g.last) ≡ false)) (played : IsPlayed r g) (capped : (p : Position) (m : Move) → r.counter p ≤ highest → r.counter (r.next p m) ≤ highest) (fits_low : r.counter g.last ≤ highest) where
    top-first : place ≡ 0
    top-first = let u = sound.root in sound.apart place 0 top.node u.0 top.at u.1 (top.repeat ∙ sym u.2) (λ e. top.counter e ∙ sym (u.3 e))

    top-at : slice_get s 0 ≡ Some top.node
    top-at = subst (λ i. slice_get s i ≡ Some top.node) top-first top.at

    pub low-rank : (i : ℕ) (v : Node) → slice_get s i ≡ Some v → v.rank ≤ most
    low-rank zero v h = let e : top.node ≡ v = let a = top-at in cc in let low = top.low in subst (λ (x : Node). x.rank ≤ most) e (omega arith)
    low-rank (suc i) v h = sound.done i v h

    row_of : (i : ℕ) (v : Node) → slice_get s i ≡ Some v → IsRow r plan s v
    row_of i v h = sound.rows i v h (low-rank i v h)

    -- an edge leads to a node of fewer plies
    plies_down : (v w : Node) (m : Move) → r.repeat w.position ≡ r.repeat (r.next v.position m) → w.rank ≤ left_after (r.attacking v.position) v.rank → (r.attacking v.position ≡ true → 0 < v.rank) → plies r w.rank w.position < plies r v.rank v.position
    plies_down v w m e low some = by_cases (r.attacking v.position)
        (λ a. let t : r.attacking w.position ≡ false = l.same_turn w.position (r.next v.position m) e ∙ l.turns v.position m ∙ ap not a in
        let z = some a in
        let h : w.rank ≤ v.rank - 1 = subst (λ x. w.rank ≤ left_after x v.rank) a low in rw (t, a) (omega arith))
        (λ a. let t : r.attacking w.position ≡ true = l.same_turn w.position (r.next v.position m) e ∙ l.turns v.position m ∙ ap not a in
        let h : w.rank ≤ v.rank = subst (λ x. w.rank ≤ left_after x v.rank) a low in rw (t, a) (omega arith))

    led-covers : (i : ℕ) (v : Node) → slice_get s i ≡ Some v → (e : Edge) (x : IsLed r plan.exact s v.position v.rank e) → (r.attacking v.position ≡ true → 0 < v.rank) → r.counter (r.next v.position e.chosen) ≤ r.counter x.stands.node.position
    led-covers i v h e x some =
        let y = x.stands in
        by_cases plan.exact
        (λ z. let c = y.counter z in omega arith)
        (λ z.
        let a = (row_of i v h).count z in
        let d = (row_of e.to y.node y.at).count z in
        let a0 = a.0 in
        let a1 = a.1 in
        let d0 = d.0 in
        let up = l.rises v.position e.chosen in
        let cap = capped v.position e.chosen (omega arith) in
        let down = plies_down v y.node e.chosen y.repeat y.low some in
        omega arith)

    fits : (i : ℕ) (v : Node) → slice_get s i ≡ Some v → (e : Edge) → IsLed r plan.exact s v.position v.rank e → (r.attacking v.position ≡ true → 0 < v.rank) → Fits r nodes l s v e
    fits i v h e x some = record {
      node = x.stands.node;
      stands = x.stands.at;
      legal = x.legal;
      same = x.stands.repeat;
      covers = led-covers i v h e x some;
      falls = falls_from (r.attacking v.position) v.rank x.stands.node.rank x.stands.low some;
    }

    edges-at : (i : ℕ) (v : Node) → slice_get s i ≡ Some v → (o : Option Bool) (a : Bool) → r.own v.position ≡ o → r.attacking v.position ≡ a → AreEdges r plan.exact s v.position v.rank v.edges o a
    edges-at i v h o a e f = subst (λ z. AreEdges r plan.exact s v.position v.rank v.edges z a) e (subst (λ z. AreEdges r plan.exact s v.position v.rank v.edges (r.own v.position) z) f (row_of i v h).edges)

    ended : (i : ℕ) (v : Node) → slice_get s i ≡ Some v → (w : Bool) → r.own v.position ≡ Some w → (w ≡ true) × (v.edges ≡ [])
    ended i v h w e = edges-at i v h (Some w) (r.attacking v.position) e refl

    attack : (i : ℕ) (v : Node) → slice_get s i ≡ Some v → r.own v.position ≡ None → r.attacking v.position ≡ true → (e : Edge) × (v.edges ≡ e ∷ []) × Fits r nodes l s v e
    attack i v h e a = let x = edges-at i v h None true e a in (x.1.0, x.1.1, fits i v h x.1.0 x.1.2 (λ z. x.0))

    defence : (i : ℕ) (v : Node) → slice_get s i ≡ Some v → r.own v.position ≡ None → r.attacking v.position ≡ false → (is_doubled r nodes v.edges ≡ false) × ((m : Move) → Member m (r.legal v.position) → has_edge r nodes v m ≡ true) × ((e : Edge) → Member e v.edges → Fits r nodes l s v e)
    defence i v h e a =
        let x = edges-at i v h None false e a in (
          doubled-chosen v.edges ∙ ap (doubled r.same_move) x.0 ∙ once-doubled r.same_move l.decides_move (r.legal v.position) (once v.position),
          λ m k. has-chosen v m (subst (Member m) (sym x.0) k),
          λ f k. fits i v h f (x.1 f k) (λ z. absurd (let y = a in cc)),
        )

    root-same : r.repeat top.node.position ≡ r.repeat g.last
    root-same = top.repeat ∙ ap r.repeat is_root

    -- what stands in the way near the limit is a premise here
    module _ (room : plan.exact ≡ false → plan.room ≡ r.counter g.last + plies r n g.last) (counted : (i : ℕ) (v : Node) → slice_get s i ≡ Some v → r.own v.position ≡ None → run_out r (r.counter v.position) ≡ false) (alone : (i : ℕ) (v : Node) → slice_get s (suc i) ≡ Some v → r.repeat v.position ≡ r.repeat g.last → ⊥) (few : (i : ℕ) (v : Node) → slice_get s (suc i) ≡ Some v → 0 < r.fold → times r (r.repeat v.position) (history g) + nodes_of r nodes (r.repeat v.position) s < r.fold) where
      root-covers : r.counter g.last ≤ r.counter top.node.position
      root-covers = by_cases plan.exact
          (λ z. let c = top.counter z ∙ ap r.counter is_root in omega arith)
          (λ z.
          let a = (row_of 0 top.node top-at).count z in
          let a0 = a.0 in
          let e = room z in
          let turn : r.attacking top.node.position ≡ r.attacking g.last = l.same_turn top.node.position g.last root-same in
          let low = top.low in
          let p : plies r top.node.rank top.node.position ≤ plies r n g.last = by_cases (r.attacking g.last) (λ y. rw (turn, y) (omega arith)) (λ y. rw (turn, y) (omega arith)) in
          omega arith)

      plan-is : IsPlan r nodes l s g n
      plan-is = record {
        root = top.node;
        stands = top-at;
        same = root-same;
        covers = root-covers;
        rank = top.low;
        ended = ended;
        counted = counted;
        attack = attack;
        defence = defence;
        differ = λ i j v w a d e c. sound.apart i j v w a d e (λ z. c);
        alone = λ i v h e. alone i v h (e ∙ root-same);
        few = few;
        start = start;
      }

      pub good : IsGood r nodes true s g n
      good = faultless-verdict r nodes s g n (plan-good r nodes l s g n plan-is)

    -- ---- inside the limit

    apart_all : plan.exact ≡ false → (i j : ℕ) (v w : Node) → slice_get s i ≡ Some v → slice_get s j ≡ Some w → r.repeat v.position ≡ r.repeat w.position → i ≡ j
    apart_all z i j v w a d e = sound.apart i j v w a d e (λ y. absurd (cc))

    alone-inside : plan.exact ≡ false → (i : ℕ) (v : Node) → slice_get s (suc i) ≡ Some v → r.repeat v.position ≡ r.repeat g.last → ⊥
    alone-inside z i v h e = let k = apart_all z (suc i) 0 v top.node h top-at (e ∙ sym root-same) in omega arith

    few-live : (p : Position) → blocked r g (r.repeat p) ≡ false → 0 < r.fold → times r (r.repeat p) (history g) + 1 < r.fold
    unfolding blocked
    few-live p h f = below_fold r.fold _ h f

    few-ended : (p : Position) (w : Bool) → r.own p ≡ Some w → (r.repeat p ≡ r.repeat g.last → ⊥) → repeated r g ≡ false → 0 < r.fold → times r (r.repeat p) (history g) + 1 < r.fold
    unfolding repeated
    few-ended p w e apart open_game f =
        let none = times_none (r.repeat p) g.earlier (λ q k z. let a = l.same_own q p z in let d = played q k in cc) in
        let last = times_other r l (r.repeat p) g.last g.earlier (λ z. apart (sym z)) in
        let here = times_here r l (r.repeat g.last) g.last g.earlier refl in
        let open_now = below_fold r.fold _ open_game f in
        omega arith

    few-inside : plan.exact ≡ false → (i : ℕ) (v : Node) → slice_get s (suc i) ≡ Some v → 0 < r.fold → times r (r.repeat v.position) (history g) + nodes_of r nodes (r.repeat v.position) s < r.fold
    few-inside z i v h f =
        let one = one_node r nodes l s (apart_all z) (r.repeat v.position) in
        let open_game = (start (sym (ap r.own is_root) ∙ sound.ongoing i v h)).0 in
        let few : times r (r.repeat v.position) (history g) + 1 < r.fold = own_cases (r.own v.position)
        (λ w e. few-ended v.position w e (alone-inside z i v h) open_game f)
        (λ e. few-live v.position (sym (same (r.repeat v.position)) ∙ sound.free i v h e) f) in
        omega arith

    some-plies : (i : ℕ) (v : Node) → slice_get s i ≡ Some v → r.own v.position ≡ None → 0 < plies r v.rank v.position
    some-plies i v h e = by_cases (r.attacking v.position)
        (λ a. let x = edges-at i v h None true e a in let y = x.0 in rw a (omega arith))
        (λ a. rw a (omega arith))

    counted-inside : plan.exact ≡ false → (r.limit ≡ 0) ⊎ (plan.room ≤ r.limit) → (i : ℕ) (v : Node) → slice_get s i ≡ Some v → r.own v.position ≡ None → run_out r (r.counter v.position) ≡ false
    unfolding run_out
    counted-inside z low i v h e =
        let a = (row_of i v h).count z in
        let a0 = a.0 in
        let a1 = a.1 in
        let some = some-plies i v h e in
        tests_none r.limit _ (under low (omega arith))
      where
        under : (r.limit ≡ 0) ⊎ (plan.room ≤ r.limit) → r.counter v.position < plan.room → (r.limit ≡ 0) ⊎ (r.counter v.position < r.limit)
        under (inl q) k = inl q
        under (inr q) k = inr (omega arith)

    pub good-inside : plan.exact ≡ false → plan.room ≡ r.counter g.last + plies r n g.last → (r.limit ≡ 0) ⊎ (plan.room ≤ r.limit) → IsGood r nodes true s g n
    good-inside z room low = good (λ e. room) (counted-inside z low) (alone-inside z) (few-inside z)

    -- ---- near it

    counted-near : plan.exact ≡ true → (i : ℕ) (v : Node) → slice_get s i ≡ Some v → r.own v.position ≡ None → run_out r (r.counter v.position) ≡ false
    counted-near z i v h e = (row_of i v h).counted e z

    pub good-near : plan.exact ≡ true → ((i : ℕ) (v : Node) → slice_get s (suc i) ≡ Some v → r.repeat v.position ≡ r.repeat g.last → ⊥) → ((i : ℕ) (v : Node) → slice_get s (suc i) ≡ Some v → 0 < r.fold → times r (r.repeat v.position) (history g) + nodes_of r nodes (r.repeat v.position) s < r.fold) → IsGood r nodes true s g n
    good-near z alone few = good (λ e. absurd (let y = z in cc)) (counted-near z) alone few
