-- Each node of a tree stands at the position to which the moves lead.
use Rattle.std.proofs.Common.{◌≡◌, ◌⊎◌, inl, inr, ℕ, ◌+◌, ◌-◌, ◌<◌, ◌≤◌, ◌==◌, nat_lt, List, [], ◌++◌, map, length, set, Bool, true, false, ◌&&◌, Option, Some, None, slice_get, position, cond, refl, ap, sym, ◌∙◌, subst, arith}
use Rattle.std.proofs.lemmas.Bool.{and_parts, cases_lt, cases_eq, eqb-true}
use Rattle.std.proofs.lemmas.Bool.Decides.{nat_tests}
use Rattle.std.proofs.lemmas.List.{length-set, length-append, length-map, append-nil}
use Rattle.std.proofs.lemmas.Option.{slice_get_within}
use Rattle.foundation.proofs.SetLemmas.{slice_get-set_same, slice_get-set_other}
use Rattle.rules_model.specs.declared.board.Position.{Position}
use Rattle.rules_model.specs.declared.moves.Move.{Move}
use Rattle.rules_model.specs.Legal.{legal}
use Rattle.rules_model.specs.Next.{next}
use Rattle.rules_model.specs.Repeats.{repeat_of}
use Rattle.rules_model.specs.Sides.{same_side}
use Rattle.mate_core.specs.declared.frame.Frame.{Frame}
use Rattle.forced_wins.proofs.Lists.{mapped, map_at}
use Rattle.pn_search.specs.declared.node.Node.{Node}
use Rattle.pn_search.specs.declared.node.State.{State}
use Rattle.pn_search.specs.declared.node.State.TheVariants.{Open, Won, Lost, Inner}
use Rattle.pn_search.specs.Shapes.{AreItsChildren, AreInPlace}
use Rattle.mate_fact.specs.InFrame.{left_after}
use Rattle.pn_search.specs.Trees.{position_after, child_node, children_of, end_at, state_by, expanded_with, expanded_at}
use Rattle.pn_search.proofs.Lists.{get-left, get-right, there_is, some_same}

module _ (f : Frame) where
  -- the child by the move of the node with the number `at`, whose position is p
  pub record IsChild (nodes : List Node) (position : ℕ → Position) (at : ℕ) (p : Position) (v : Node) (m : Move) (place : ℕ) : Type 0 where
    pub child : Node
    pub stands : slice_get nodes place ≡ Some child
    pub parent : child.parent ≡ at
    pub chosen : child.chosen ≡ Some m
    pub left : child.left ≡ left_after v.attacking v.left
    pub leads : position place ≡ next f.rules p m

  pub record HasChildren (nodes : List Node) (position : ℕ → Position) (at : ℕ) (p : Position) (v : Node) (first count : ℕ) : Type 0 where
    pub ongoing : end_at f at p ≡ None
    pub more : v.attacking ≡ true → 0 < v.left
    pub after : at < first
    pub within : first + count ≤ length nodes
    pub all : count ≡ length (legal f.rules (repeat_of p))
    pub each : (j : ℕ) (m : Move) → slice_get (legal f.rules (repeat_of p)) j ≡ Some m → IsChild nodes position at p v m (first + j)

  -- the state is that of the node, whose position is p
  abbrev pub IsStateOf : List Node → (ℕ → Position) → ℕ → Position → Node → State → Type 0
  IsStateOf nodes position at p v Open = Unit {0}
  IsStateOf nodes position at p v Won = end_at f at p ≡ Some true
  IsStateOf nodes position at p v Lost = (end_at f at p ≡ Some false) ⊎ ((end_at f at p ≡ None) × (v.attacking ≡ true) × (v.left ≡ 0))
  IsStateOf nodes position at p v (Inner first count) = HasChildren nodes position at p v first count

  pub record StandsAt (nodes : List Node) (position : ℕ → Position) (at : ℕ) (v : Node) : Type 0 where
    pub turn : v.attacking ≡ same_side (position at).side f.attacker
    pub parent : 0 < at → v.parent < at
    pub leads : 0 < at → position at ≡ position_after f.rules (position v.parent) v.chosen
    pub state : IsStateOf nodes position at (position at) v v.state

  -- the nodes of a tree for n moves from the root
  pub record AreRooted (root : Position) (n : ℕ) (nodes : List Node) : Type 0 where
    pub position : ℕ → Position
    pub starts : position 0 ≡ root
    pub some : 0 < length nodes
    pub left : (v : Node) → slice_get nodes 0 ≡ Some v → v.left ≡ n
    pub each : (i : ℕ) (v : Node) → slice_get nodes i ≡ Some v → StandsAt nodes position i v

  pub in_place : (root : Position) (n : ℕ) (nodes : List Node) → AreRooted root n nodes → AreInPlace nodes
  in_place root n nodes r i v h =
      let s = r.each i v h in
      record { parent = s.parent; children = λ first count is. its first count (subst (IsStateOf nodes r.position i (r.position i) v) is s.state) }
    where
      its : (first count : ℕ) → HasChildren nodes r.position i (r.position i) v first count → AreItsChildren nodes i first count
      its first count c = record { after = c.after; within = c.within; parent = parent_of }
        where
          parent_of : (j : ℕ) (w : Node) → first ≤ j → j < first + count → slice_get nodes j ≡ Some w → w.parent ≡ i
          parent_of j w low high k =
              let e : first + (j - first) ≡ j = omega arith in
              let m = there_is (legal f.rules (repeat_of (r.position i))) (j - first) (let d = c.all in omega arith) in
              let x = c.each (j - first) m.0 m.1 in
              ap (λ (y : Node). y.parent) (some_same (slice_get nodes j) w x.child k (subst (λ y. slice_get nodes y ≡ Some x.child) e x.stands)) ∙ x.parent

  -- ---- what stays when nodes are added

  pub record IsSameNode (v w : Node) : Type 0 where
    pub parent : w.parent ≡ v.parent
    pub chosen : w.chosen ≡ v.chosen
    pub left : w.left ≡ v.left

  pub record Keeps (nodes nodes' : List Node) (position position' : ℕ → Position) : Type 0 where
    pub longer : length nodes ≤ length nodes'
    pub node : (i : ℕ) (v : Node) → slice_get nodes i ≡ Some v → (w : Node) × (slice_get nodes' i ≡ Some w) × IsSameNode v w
    pub there : (i : ℕ) → i < length nodes → position' i ≡ position i

  module _ (nodes nodes' : List Node) (position position' : ℕ → Position) (k : Keeps nodes nodes' position position') where
    child-kept : (at : ℕ) (p : Position) (v : Node) (m : Move) (place : ℕ) → IsChild nodes position at p v m place → IsChild nodes' position' at p v m place
    child-kept at p v m place c =
        let w = k.node place c.child c.stands in
        record {
          child = w.0;
          stands = w.1;
          parent = w.2.parent ∙ c.parent;
          chosen = w.2.chosen ∙ c.chosen;
          left = w.2.left ∙ c.left;
          leads = k.there place (slice_get_within nodes place c.child c.stands) ∙ c.leads;
        }

    state-kept : (at : ℕ) (p : Position) (v : Node) (s : State) → IsStateOf nodes position at p v s → IsStateOf nodes' position' at p v s
    state-kept at p v Open h = tt
    state-kept at p v Won h = h
    state-kept at p v Lost h = h
    state-kept at p v (Inner first count) h = record {
      ongoing = h.ongoing;
      more = h.more;
      after = h.after;
      within = let l = k.longer in let w = h.within in omega arith;
      all = h.all;
      each = λ j m is. child-kept at p v m (first + j) (h.each j m is);
    }

    pub stands-kept : (at : ℕ) (v : Node) → at < length nodes → StandsAt nodes position at v → StandsAt nodes' position' at v
    stands-kept at v within s =
        let e = k.there at within in
        record {
          turn = s.turn ∙ ap (λ (p : Position). same_side p.side f.attacker) (sym e);
          parent = s.parent;
          leads = λ z. e ∙ s.leads z ∙ ap (λ p. position_after f.rules p v.chosen) (sym (k.there v.parent (let low = s.parent z in omega arith)));
          state = subst (λ p. IsStateOf nodes' position' at p v v.state) (sym e) (state-kept at (position at) v v.state s.state);
        }

  -- ---- an expansion

  abbrev moved : Position → Option Move → Position
  moved p None = p
  moved p (Some m) = next f.rules p m

  abbrev if_below : Bool → Position → Position → Position
  if_below true p q = p
  if_below false p q = q

  -- the positions of nodes of which the new ones are reached by these moves
  positions : (ℕ → Position) → ℕ → Position → List Move → ℕ → Position
  positions position count p ms i = if_below (nat_lt i count) (position i) (moved p (slice_get ms (i - count)))

  positions-old : (position : ℕ → Position) (count : ℕ) (p : Position) (ms : List Move) (i : ℕ) → i < count → positions position count p ms i ≡ position i
  unfolding positions
  positions-old position count p ms i h = let e : nat_lt i count ≡ true = grind (arith, nat_tests) in ap (λ b. if_below b (position i) (moved p (slice_get ms (i - count)))) e

  positions-new : (position : ℕ → Position) (count : ℕ) (p : Position) (ms : List Move) (i : ℕ) (m : Move) → count ≤ i → slice_get ms (i - count) ≡ Some m → positions position count p ms i ≡ next f.rules p m
  unfolding positions
  positions-new position count p ms i m h is = let e : nat_lt i count ≡ false = grind (arith, nat_tests) in ap (λ b. if_below b (position i) (moved p (slice_get ms (i - count)))) e ∙ ap (moved p) is

  module _ (root : Position) (n : ℕ) (nodes : List Node) (r : AreRooted root n nodes) (at : ℕ) (p : Position) (v : Node) (stands : slice_get nodes at ≡ Some v) (here : r.position at ≡ p) where
    within : at < length nodes
    within = slice_get_within nodes at v stands

    module _ (s : State) (ms : List Move) where
      abbrev w : Node
      w = record v { state = s }

      abbrev first_nodes : List Node
      first_nodes = set nodes at w

      abbrev added : List Node
      added = map (child_node f at v p) ms

      abbrev nodes' : List Node
      nodes' = first_nodes ++ added

      abbrev position' : ℕ → Position
      position' = positions r.position (length nodes) p ms

      as_long : length first_nodes ≡ length nodes
      as_long = length-set nodes at w

      whole : length nodes' ≡ length nodes + length ms
      whole = length-append first_nodes added ∙ (let a = as_long in let b = length-map ms (child_node f at v p) in omega arith)

      here-old : slice_get nodes' at ≡ Some w
      here-old = get-left first_nodes added at (let a = as_long in let b = within in omega arith) ∙ slice_get-set_same nodes at w within

      other-old : (i : ℕ) → i < length nodes → (i ≡ at → ⊥) → slice_get nodes' i ≡ slice_get nodes i
      other-old i low other = get-left first_nodes added i (let a = as_long in omega arith) ∙ slice_get-set_other nodes at i w (λ e. other (sym e))

      new-at : (i : ℕ) → length nodes ≤ i → slice_get nodes' i ≡ slice_get added (i - length nodes)
      new-at i high = get-right first_nodes added i (let a = as_long in omega arith) ∙ ap (λ k. slice_get added (i - k)) as_long

      child-at : (j : ℕ) (m : Move) → slice_get ms j ≡ Some m → IsChild nodes' position' at p v m (length nodes + j)
      child-at j m is =
          let e : length nodes + j - length nodes ≡ j = omega arith in
          record {
            child = child_node f at v p m;
            stands = new-at (length nodes + j) (omega arith) ∙ ap (slice_get added) e ∙ map_at (child_node f at v p) ms j m is;
            parent = refl;
            chosen = refl;
            left = refl;
            leads = positions-new r.position (length nodes) p ms (length nodes + j) m (omega arith) (ap (slice_get ms) e ∙ is);
          }

      keeps : Keeps nodes nodes' r.position position'
      keeps = record {
        longer = let a = whole in omega arith;
        node = λ i u is. by_place i u is (cases_eq i at);
        there = positions-old r.position (length nodes) p ms;
      }
        where
          by_place : (i : ℕ) (u : Node) → slice_get nodes i ≡ Some u → (i ≡ at) ⊎ (i ≡ at → ⊥) → (x : Node) × (slice_get nodes' i ≡ Some x) × IsSameNode u x
          by_place i u is (inl e) =
              let same : v ≡ u = some_same (slice_get nodes i) v u (subst (λ k. slice_get nodes k ≡ Some v) (sym e) stands) is in
              (w, ap (slice_get nodes') e ∙ here-old, record { parent = ap (λ (x : Node). x.parent) same; chosen = ap (λ (x : Node). x.chosen) same; left = ap (λ (x : Node). x.left) same })
          by_place i u is (inr e) = (u, other-old i (slice_get_within nodes i u is) e ∙ is, record { parent = refl; chosen = refl; left = refl })

      rooted-by : IsStateOf nodes' position' at p v s → AreRooted root n nodes'
      rooted-by state = record {
        position = position';
        starts = keeps.there 0 r.some ∙ r.starts;
        some = let a = r.some in let b = whole in omega arith;
        left = λ u is. left_of u is (cases_eq 0 at);
        each = λ i u is. by_place i u is (cases_lt i (length nodes)) (cases_eq i at);
      }
        where
          left_of : (u : Node) → slice_get nodes' 0 ≡ Some u → (0 ≡ at) ⊎ (0 ≡ at → ⊥) → u.left ≡ n
          left_of u is (inl e) =
              let same : w ≡ u = some_same (slice_get nodes' 0) w u (subst (λ k. slice_get nodes' k ≡ Some w) (sym e) here-old) is in
              ap (λ (x : Node). x.left) (sym same) ∙ r.left v (subst (λ k. slice_get nodes k ≡ Some v) (sym e) stands)
          left_of u is (inr e) = r.left u (sym (other-old 0 r.some e) ∙ is)

          own : StandsAt nodes' position' at w
          own =
              let old = r.each at v stands in
              let same = keeps.there at within ∙ here in
              record {
                turn = old.turn ∙ ap (λ (q : Position). same_side q.side f.attacker) (sym (keeps.there at within));
                parent = old.parent;
                leads = λ z. keeps.there at within ∙ old.leads z ∙ ap (λ y. position_after f.rules y v.chosen) (sym (keeps.there v.parent (let low = old.parent z in let high = within in omega arith)));
                state = subst (λ q. IsStateOf nodes' position' at q w s) (sym same) (state-like s state);
              }
            where
              state-like : (t : State) → IsStateOf nodes' position' at p v t → IsStateOf nodes' position' at p w t
              state-like Open h = h
              state-like Won h = h
              state-like Lost h = h
              state-like (Inner first count) h = record {
                ongoing = h.ongoing;
                more = h.more;
                after = h.after;
                within = h.within;
                all = h.all;
                each = λ j m is. let c = h.each j m is in record { child = c.child; stands = c.stands; parent = c.parent; chosen = c.chosen; left = c.left; leads = c.leads };
              }

          new : (i : ℕ) (u : Node) → length nodes ≤ i → slice_get added (i - length nodes) ≡ Some u → StandsAt nodes' position' i u
          new i u high is =
              let m = mapped (child_node f at v p) ms (i - length nodes) u is in
              let leads = positions-new r.position (length nodes) p ms i m.0 high m.1 in
              subst (StandsAt nodes' position' i) m.2
              (record {
                turn = ap (λ (q : Position). same_side q.side f.attacker) (sym leads);
                parent = λ z. let a = within in omega arith;
                leads = λ z. leads ∙ ap (λ y. next f.rules y m.0) (sym (keeps.there at within ∙ here));
                state = tt;
              })

          by_place : (i : ℕ) (u : Node) → slice_get nodes' i ≡ Some u → (i < length nodes) ⊎ (length nodes ≤ i) → (i ≡ at) ⊎ (i ≡ at → ⊥) → StandsAt nodes' position' i u
          by_place i u is (inr high) e = new i u high (sym (new-at i high) ∙ is)
          by_place i u is (inl low) (inl e) =
              let same : w ≡ u = some_same (slice_get nodes' i) w u (subst (λ k. slice_get nodes' k ≡ Some w) (sym e) here-old) is in
              subst (λ k. StandsAt nodes' position' k u) (sym e) (subst (StandsAt nodes' position' at) same own)
          by_place i u is (inl low) (inr e) = stands-kept nodes nodes' r.position position' keeps i u low (r.each i u (sym (other-old i low e) ∙ is))

    -- a node without children
    closed : (s : State) → IsStateOf (nodes' s []) (position' s []) at p v s → AreRooted root n (set nodes at (record v { state = s }))
    closed s state = subst (AreRooted root n) (append-nil (set nodes at (record v { state = s }))) (rooted-by s [] state)

    abbrev ms : List Move
    ms = legal f.rules (repeat_of p)

    abbrev opened : State
    opened = Inner (length nodes) (length (map (child_node f at v p) ms))

    open-children : end_at f at p ≡ None → (v.attacking ≡ true → 0 < v.left) → HasChildren (nodes' opened ms) (position' opened ms) at p v (length nodes) (length (map (child_node f at v p) ms))
    open-children ongoing more = record {
      ongoing = ongoing;
      more = more;
      after = within;
      within = let a = whole opened ms in let b = length-map ms (child_node f at v p) in omega arith;
      all = length-map ms (child_node f at v p);
      each = child-at opened ms;
    }

    abbrev grown_nodes : Option State → List Node
    grown_nodes o = expanded_with nodes at v o (children_of f at v p)

    -- ongoing, with or without a move left
    by_left : (b : Bool) → (v.attacking && (v.left == 0)) ≡ b → end_at f at p ≡ None → AreRooted root n (grown_nodes (cond b (Some Lost) None))
    by_left true t ongoing =
        let both = and_parts v.attacking (v.left == 0) t in
        closed Lost (inr (ongoing, both.0, eqb-true v.left 0 both.1))
    by_left false t ongoing = rooted-by opened ms (open-children ongoing (λ e. some_left v.attacking e t))
      where
        some_left : (b : Bool) → b ≡ true → (b && (v.left == 0)) ≡ false → 0 < v.left
        some_left b e t = grind (arith, nat_tests)

    by_end : (o : Option Bool) → end_at f at p ≡ o → AreRooted root n (grown_nodes (state_by o v.attacking v.left))
    by_end (Some true) e = closed Won e
    by_end (Some false) e = closed Lost (inl e)
    by_end None e = by_left (v.attacking && (v.left == 0)) refl e

    pub expanded-rooted : AreRooted root n (expanded_at f nodes (record { place = at; position = p }) (Some v))
    expanded-rooted = by_end (end_at f at p) refl
