-- A node that is proved is won, and one that is disproved is not.
use Rattle.std.proofs.Common.{◌≡◌, inl, inr, ℕ, zero, suc, ◌+◌, ◌<◌, ◌≤◌, List, [], ◌∷◌, map, take, drop, length, get_or, Bool, true, false, Some, None, slice_get, cond, refl, ap, sym, ◌∙◌, subst, arith}
use Rattle.std.specs.List.{list_any, list_all}
use Rattle.std.proofs.lemmas.Bool.Decides.{nat_tests}
use Rattle.std.proofs.lemmas.List.{length-take, length-drop, get_or-take, get_or-drop}
use Rattle.std.proofs.lemmas.Option.{slice_get_within}
use Rattle.foundation.specs.Member.{Member}
use Rattle.rules_model.specs.declared.board.Position.{Position}
use Rattle.rules_model.specs.declared.moves.Move.{Move}
use Rattle.rules_model.specs.Legal.{legal}
use Rattle.rules_model.specs.Next.{next}
use Rattle.rules_model.specs.Repeats.{repeat_of}
use Rattle.rules_model.specs.Sides.{same_side}
use Rattle.forced_wins.specs.Contests.{decided}
use Rattle.forced_wins.specs.Wins.{near, near_end, near_attack, near_defence}
use Rattle.forced_wins.proofs.ContestLaws.{any_intro, all_intro}
use Rattle.forced_wins.proofs.Counts.{not_true, true_false}
use Rattle.forced_wins.proofs.Lists.{listed}
use Rattle.forced_wins.proofs.Sentences.{near-ended, near-zero, near-attack, near-defence}
use Rattle.forced_wins.proofs.TableLaws.{any_member, all_member}
use Rattle.mate_core.specs.declared.frame.Frame.{Frame}
use Rattle.pn_search.specs.declared.node.Node.{Node}
use Rattle.pn_search.specs.declared.node.State.{State}
use Rattle.pn_search.specs.declared.node.State.TheVariants.{Open, Won, Lost, Inner}
use Rattle.pn_search.specs.declared.numbers.Pair.{Pair}
use Rattle.pn_search.specs.Meaning.{moves_win, root_pair, won_pair, lost_pair, PairDecides}
use Rattle.pn_search.specs.Numbers.{plus, sum_of, least_of, own_number, inner_pair, open_pair, of_children, pair_at, numbers_of, pairs_of}
use Rattle.pn_search.specs.Shapes.{AreInPlace}
use Rattle.mate_fact.specs.InFrame.{left_after}
use Rattle.pn_search.specs.Trees.{ProofTree, end_at, IsPn}
use Rattle.pn_search.proofs.Carried.{numbered, length-pairs}
use Rattle.pn_search.proofs.Expanded.{end-inner}
use Rattle.pn_search.proofs.Fair.{IsFair, fair_at, settled-won, settled-lost}
use Rattle.pn_search.proofs.Grown.{IsRooted, pn-rooted}
use Rattle.pn_search.proofs.Lists.{there_is}
use Rattle.pn_search.proofs.Standing.{AreRooted, IsStateOf, HasChildren, in_place}

-- ---- least numbers and sums that are 0

least-zero : (g : Pair → ℕ) (cs : List Pair) (d : Pair) → least_of (map g cs) ≡ 0 → (k : ℕ) × (k < length cs) × (g (get_or cs k d) ≡ 0)
unfolding least_of
least-zero g [] d h = absurd (omega arith)
least-zero g (c ∷ cs) d h = by_first (g c) refl (λ e. least-zero g cs d e)
  where
    by_first : (n : ℕ) → g c ≡ n → (least_of (map g cs) ≡ 0 → (k : ℕ) × (k < length cs) × (g (get_or cs k d) ≡ 0)) → (k : ℕ) × (k < suc (length cs)) × (g (get_or (c ∷ cs) k d) ≡ 0)
    by_first zero e more = (0, omega arith, e)
    by_first (suc n) e more = let rest = more (omega arith) in (suc rest.0, (let a = rest.1 in omega arith), rest.2)

plus-zeros : (a b : ℕ) → plus a b ≡ 0 → (a ≡ 0) × (b ≡ 0)
unfolding plus
plus-zeros a b h = (grind (arith, nat_tests), grind (arith, nat_tests))

sum-zero : (g : Pair → ℕ) (cs : List Pair) (d : Pair) → sum_of (map g cs) ≡ 0 → (k : ℕ) → k < length cs → g (get_or cs k d) ≡ 0
unfolding sum_of
sum-zero g [] d h k low = absurd (omega arith)
sum-zero g (c ∷ cs) d h zero low = (plus-zeros (g c) (sum_of (map g cs)) h).0
sum-zero g (c ∷ cs) d h (suc k) low = sum-zero g cs d (plus-zeros (g c) (sum_of (map g cs)) h).1 k (omega arith)

-- ---- what a node is worth

module _ (f : Frame) where
  abbrev pub near_in : ℕ → Position → Bool
  near_in n p = near f.rules n p f.blocked f.attacker

  pub worth : ℕ → ℕ → Position → Bool
  worth zero n p = decided (end_at f 0 p) (moves_win f n p)
  worth (suc i) n p = near_in n p

  inner-end : (i : ℕ) (p : Position) → near_end f.rules f.blocked f.attacker p ≡ end_at f (suc i) p
  inner-end i p = end-inner f (suc i) p (λ e. omega arith)

  worth-ended : (i n : ℕ) (p : Position) (won : Bool) → end_at f i p ≡ Some won → worth i n p ≡ won
  unfolding worth
  worth-ended zero n p won e = ap (λ o. decided o (moves_win f n p)) e
  worth-ended (suc i) n p won e = near-ended f.rules f.attacker f.blocked n p won (inner-end i p ∙ e)

  module _ (p : Position) where
    root-attack : (n : ℕ) → end_at f 0 p ≡ None → same_side p.side f.attacker ≡ true → worth 0 n p ≡ near_attack f.rules n p f.blocked f.attacker
    unfolding worth
    root-attack n e turn = ap (λ o. decided o (moves_win f n p)) e ∙ ap (λ b. cond b (near_attack f.rules n p f.blocked f.attacker) (near_defence f.rules n p f.blocked f.attacker)) turn

    root-defence : (n : ℕ) → end_at f 0 p ≡ None → same_side p.side f.attacker ≡ false → worth 0 n p ≡ near_defence f.rules n p f.blocked f.attacker
    unfolding worth
    root-defence n e turn = ap (λ o. decided o (moves_win f n p)) e ∙ ap (λ b. cond b (near_attack f.rules n p f.blocked f.attacker) (near_defence f.rules n p f.blocked f.attacker)) turn

    worth-zero : (i : ℕ) → end_at f i p ≡ None → same_side p.side f.attacker ≡ true → worth i 0 p ≡ false
    unfolding worth
    worth-zero zero e turn = root-attack 0 e turn
    worth-zero (suc i) e turn = near-zero f.rules f.attacker f.blocked p (inner-end i p ∙ e) turn

    worth-attack : (i n : ℕ) → end_at f i p ≡ None → same_side p.side f.attacker ≡ true → worth i (suc n) p ≡ list_any (λ m. near_in n (next f.rules p m)) (legal f.rules (repeat_of p))
    unfolding worth
    worth-attack zero n e turn = root-attack (suc n) e turn
    worth-attack (suc i) n e turn = near-attack f.rules f.attacker f.blocked n p (inner-end i p ∙ e) turn

    worth-defence : (i n : ℕ) → end_at f i p ≡ None → same_side p.side f.attacker ≡ false → worth i n p ≡ list_all (λ m. near_in n (next f.rules p m)) (legal f.rules (repeat_of p))
    unfolding worth
    worth-defence zero n e turn = root-defence n e turn
    worth-defence (suc i) n e turn = near-defence f.rules f.attacker f.blocked n p (inner-end i p ∙ e) turn

  pub worth-later : (i n : ℕ) (p : Position) → 0 < i → worth i n p ≡ near_in n p
  unfolding worth
  worth-later zero n p h = absurd (omega arith)
  worth-later (suc i) n p h = refl

  worth-root : (n : ℕ) (p : Position) → end_at f 0 p ≡ None → worth 0 n p ≡ moves_win f n p
  unfolding worth
  worth-root n p e = ap (λ o. decided o (moves_win f n p)) e

  -- ---- a node with children

  -- what the pair of one of them says
  pub record ChildSays (q : Pair) (left : ℕ) (p : Position) : Type 0 where
    pub proved : q.proof ≡ 0 → near_in left p ≡ true
    pub disproved : q.disproof ≡ 0 → near_in left p ≡ false

  pub record Says (q : Pair) (i n : ℕ) (p : Position) : Type 0 where
    pub proved : q.proof ≡ 0 → worth i n p ≡ true
    pub disproved : q.disproof ≡ 0 → worth i n p ≡ false

  place_of : (ms : List Move) (m : Move) → Member m ms → (k : ℕ) × (slice_get ms k ≡ Some m)
  place_of [] m h = absurd h
  place_of (x ∷ ms) m (inl e) = (0, ap (λ y. Some y) e)
  place_of (x ∷ ms) m (inr h) = let rest = place_of ms m h in (suc rest.0, rest.1)

  module _ (i : ℕ) (p : Position) (ongoing : end_at f i p ≡ None) (cs : List Pair) (long : length cs ≡ length (legal f.rules (repeat_of p))) where
    abbrev ms : List Move
    ms = legal f.rules (repeat_of p)

    move_at : (k : ℕ) → k < length cs → (m : Move) × (slice_get ms k ≡ Some m)
    move_at k low = there_is ms k (omega arith)

    child_low : (k : ℕ) (m : Move) → slice_get ms k ≡ Some m → k < length cs
    child_low k m h = let w = slice_get_within ms k m h in omega arith

    attack-says : (n : ℕ) → same_side p.side f.attacker ≡ true → ((k : ℕ) (m : Move) → slice_get ms k ≡ Some m → ChildSays (get_or cs k open_pair) n (next f.rules p m)) → Says (inner_pair true cs) i (suc n) p
    unfolding inner_pair
    attack-says n turn each = record { proved = proved; disproved = disproved }
      where
        test : Move → Bool
        test = λ m. near_in n (next f.rules p m)

        proved : least_of (map (own_number true) cs) ≡ 0 → worth i (suc n) p ≡ true
        proved h =
            let z = least-zero (own_number true) cs open_pair h in
            let m = move_at z.0 z.1 in
            worth-attack p i n ongoing turn ∙ any_intro test m.0 ms (listed ms z.0 m.0 m.1) ((each z.0 m.0 m.1).proved z.2)

        disproved : sum_of (map (own_number false) cs) ≡ 0 → worth i (suc n) p ≡ false
        disproved h = worth-attack p i n ongoing turn ∙ not_true (list_any test ms) no_move
          where
            no_move : list_any test ms ≡ true → ⊥
            no_move t =
                let x = any_member test ms t in
                let k = place_of ms x.0 x.1 in
                true_false (test x.0) x.2 ((each k.0 x.0 k.1).disproved (sum-zero (own_number false) cs open_pair h k.0 (child_low k.0 x.0 k.1)))

    defence-says : (n : ℕ) → same_side p.side f.attacker ≡ false → ((k : ℕ) (m : Move) → slice_get ms k ≡ Some m → ChildSays (get_or cs k open_pair) n (next f.rules p m)) → Says (inner_pair false cs) i n p
    unfolding inner_pair
    defence-says n turn each = record { proved = proved; disproved = disproved }
      where
        test : Move → Bool
        test = λ m. near_in n (next f.rules p m)

        proved : sum_of (map (own_number true) cs) ≡ 0 → worth i n p ≡ true
        proved h = worth-defence p i n ongoing turn ∙ all_intro test ms (λ m is. let k = place_of ms m is in (each k.0 m k.1).proved (sum-zero (own_number true) cs open_pair h k.0 (child_low k.0 m k.1)))

        disproved : least_of (map (own_number false) cs) ≡ 0 → worth i n p ≡ false
        disproved h = worth-defence p i n ongoing turn ∙ not_true (list_all test ms) all_moves
          where
            all_moves : list_all test ms ≡ true → ⊥
            all_moves t =
                let z = least-zero (own_number false) cs open_pair h in
                let m = move_at z.0 z.1 in
                true_false (test m.0) (all_member test ms t m.0 (listed ms z.0 m.0 m.1)) ((each z.0 m.0 m.1).disproved z.2)

  -- ---- every node

  module _ (root : Position) (whole : ℕ) (nodes : List Node) (r : AreRooted f root whole nodes) where
    abbrev ps : List Pair
    ps = pairs_of nodes

    placed : AreInPlace nodes
    placed = in_place f root whole nodes r

    module _ (i : ℕ) (v : Node) (stands : slice_get nodes i ≡ Some v) where
      abbrev p : Position
      p = r.position i

      abbrev q : Pair
      q = pair_at ps i

      turn : v.attacking ≡ same_side p.side f.attacker
      turn = (r.each i v stands).turn

      -- the part of the children
      module _ (first count : ℕ) (c : HasChildren f nodes r.position i p v first count) where
        abbrev cs : List Pair
        cs = take count (drop first ps)

        as_long : length cs ≡ length (legal f.rules (repeat_of p))
        as_long =
            let a = length-take count (drop first ps) in
            let b = length-drop first ps in
            let l = length-pairs nodes in
            let w = c.within in
            let n = c.all in
            omega arith

        own_child : (k : ℕ) → k < count → get_or cs k open_pair ≡ pair_at ps (first + k)
        own_child k low = get_or-take count (drop first ps) k open_pair low ∙ get_or-drop first ps k open_pair

        child-says : ((j : ℕ) (w : Node) → i < j → slice_get nodes j ≡ Some w → Says (pair_at ps j) j w.left (r.position j)) → (k : ℕ) (m : Move) → slice_get (legal f.rules (repeat_of p)) k ≡ Some m → ChildSays (get_or cs k open_pair) (left_after v.attacking v.left) (next f.rules p m)
        child-says later k m is =
            let x = c.each k m is in
            let after = c.after in
            let low : k < count = let w = slice_get_within (legal f.rules (repeat_of p)) k m is in let n = c.all in omega arith in
            let behind : i < first + k = omega arith in
            let some : 0 < first + k = omega arith in
            let s = later (first + k) x.child behind x.stands in
            let same : worth (first + k) x.child.left (r.position (first + k)) ≡ near_in (left_after v.attacking v.left) (next f.rules p m) =
            worth-later (first + k) x.child.left (r.position (first + k)) some ∙ ap (λ n. near_in n (r.position (first + k))) x.left ∙ ap (near_in (left_after v.attacking v.left)) x.leads in
            let own = own_child k low in
            record {
              proved = λ z. sym same ∙ s.proved (ap (λ (y : Pair). y.proof) (sym own) ∙ z);
              disproved = λ z. sym same ∙ s.disproved (ap (λ (y : Pair). y.disproof) (sym own) ∙ z);
            }

        inner-says : ((j : ℕ) (w : Node) → i < j → slice_get nodes j ≡ Some w → Says (pair_at ps j) j w.left (r.position j)) → (b : Bool) → v.attacking ≡ b → Says (inner_pair b cs) i v.left p
        inner-says later true e = by_left v.left refl
          where
            by_left : (n : ℕ) → v.left ≡ n → Says (inner_pair true cs) i v.left p
            by_left zero z = absurd (let m = c.more e in omega arith)
            by_left (suc n) z =
                let one : left_after v.attacking v.left ≡ n = ap (λ b. left_after b v.left) e ∙ (let a = z in omega arith) in
                subst (λ k. Says (inner_pair true cs) i k p) (sym z)
                (attack-says i p c.ongoing cs as_long n (sym turn ∙ e) (λ k m is. subst (λ l. ChildSays (get_or cs k open_pair) l (next f.rules p m)) one (child-says later k m is)))
        inner-says later false e =
            let same : left_after v.attacking v.left ≡ v.left = ap (λ b. left_after b v.left) e in
            defence-says i p c.ongoing cs as_long v.left (sym turn ∙ e) (λ k m is. subst (λ l. ChildSays (get_or cs k open_pair) l (next f.rules p m)) same (child-says later k m is))

      by_state : ((j : ℕ) (w : Node) → i < j → slice_get nodes j ≡ Some w → Says (pair_at ps j) j w.left (r.position j)) → (s : State) → IsStateOf f nodes r.position i p v s → Says (numbers_of s v.attacking (of_children s ps)) i v.left p
      by_state later Open st = record { proved = λ z. absurd (omega arith); disproved = λ z. absurd (omega arith) }
      by_state later Won st = record { proved = λ z. worth-ended i v.left p true st; disproved = λ z. absurd (omega arith) }
      by_state later Lost (inl e) = record { proved = λ z. absurd (omega arith); disproved = λ z. worth-ended i v.left p false e }
      by_state later Lost (inr e) = record {
        proved = λ z. absurd (omega arith);
        disproved = λ z. ap (λ n. worth i n p) e.2 ∙ worth-zero p i e.0 (sym turn ∙ e.1);
      }
      by_state later (Inner first count) c = inner-says first count c later v.attacking refl

      node-says : ((j : ℕ) (w : Node) → i < j → slice_get nodes j ≡ Some w → Says (pair_at ps j) j w.left (r.position j)) → Says q i v.left p
      node-says later = subst (λ y. Says y i v.left p) (sym (numbered nodes placed i v stands)) (by_state later v.state (r.each i v stands).state)

    pub says : (d i : ℕ) → length nodes ≤ i + d → (v : Node) → slice_get nodes i ≡ Some v → Says (pair_at ps i) i v.left (r.position i)
    says zero i far v h = absurd (let w = slice_get_within nodes i v h in omega arith)
    says (suc d) i far v h = node-says i v h (λ j w later k. says d j (omega arith) w k)

-- ---- the root

pub pair_decides : (k : ℕ) (t : ProofTree) → IsPn k t → end_at t.frame 0 t.root ≡ None → PairDecides t
pair_decides k t is ongoing = record { won = won; lost = lost; proved = settled-won (root_pair t) fair; disproved = settled-lost (root_pair t) fair }
  where
    r : IsRooted t
    r = pn-rooted t.frame t.root t.moves k t is

    v : (v : Node) × (slice_get t.nodes 0 ≡ Some v)
    v = there_is t.nodes 0 r.some

    root-says : Says t.frame (root_pair t) 0 t.moves t.root
    root-says = subst (λ n. Says t.frame (root_pair t) 0 n t.root) (r.left v.0 v.1) (subst (λ p. Says t.frame (root_pair t) 0 v.0.left p) r.starts (says t.frame t.root t.moves t.nodes r (length t.nodes) 0 (omega arith) v.0 v.1))

    root-worth : worth t.frame 0 t.moves t.root ≡ moves_win t.frame t.moves t.root
    root-worth = worth-root t.frame t.moves t.root ongoing

    fair : IsFair (root_pair t)
    fair = fair_at t.nodes 0 (let l = length-pairs t.nodes in let s = r.some in omega arith)

    won : root_pair t ≡ won_pair → moves_win t.frame t.moves t.root ≡ true
    won e = sym root-worth ∙ root-says.proved (ap (λ (y : Pair). y.proof) e)

    lost : root_pair t ≡ lost_pair → moves_win t.frame t.moves t.root ≡ false
    lost e = sym root-worth ∙ root-says.disproved (ap (λ (y : Pair). y.disproof) e)
