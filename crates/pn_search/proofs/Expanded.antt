-- The nodes and the pairs after a leaf was expanded.
use Rattle.std.proofs.Common.{◌≡◌, ◌⊎◌, inl, inr, ℕ, ◌+◌, ◌-◌, ◌<◌, ◌≤◌, ◌==◌, List, [], ◌∷◌, ◌++◌, map, take, drop, length, replicate, get_or, set, Bool, true, false, ◌&&◌, not, Option, Some, None, slice_get, cond, refl, ap, sym, ◌∙◌, subst, arith}
use Rattle.std.proofs.lemmas.Bool.{cases_lt}
use Rattle.std.proofs.lemmas.Bool.Decides.{nat_tests}
use Rattle.std.proofs.lemmas.List.{length-set, length-map, length-drop, length-append, length-replicate, get_or_append_left, get_or-append_right, get_or-replicate, set-append_left, drop-append-le, take-append-le}
use Rattle.std.proofs.lemmas.Option.{slice_get_within, slice_get_read, get_or_from_slice_get}
use Rattle.foundation.proofs.SetLemmas.{slice_get-set_other}
use Rattle.rules_model.specs.declared.board.Position.{Position}
use Rattle.rules_model.specs.declared.moves.Move.{Move}
use Rattle.rules_model.specs.Legal.{legal}
use Rattle.rules_model.specs.Next.{next}
use Rattle.rules_model.specs.Repeats.{repeat_of}
use Rattle.rules_model.specs.Sides.{same_side}
use Rattle.forced_wins.proofs.Lists.{mapped}
use Rattle.forced_wins.proofs.Rules.{laws}
use Rattle.forced_wins.specs.Wins.{near_end}
use Rattle.mate_core.specs.declared.frame.Frame.{Frame}
use Rattle.mate_fact.specs.InFrame.{end_in}
use Rattle.pn_search.specs.declared.node.Node.{Node}
use Rattle.pn_search.specs.declared.node.State.{State}
use Rattle.pn_search.specs.declared.node.State.TheVariants.{Open, Won, Lost, Inner}
use Rattle.pn_search.specs.declared.numbers.Pair.{Pair}
use Rattle.pn_search.specs.Kept.{written_child}
use Rattle.pn_search.specs.Numbers.{open_pair, of_children, pair_at, numbers_of, pairs_of}
use Rattle.pn_search.specs.Shapes.{AreInPlace, IsNumbered}
use Rattle.pn_search.specs.Trees.{spot_at, child_node, children_of, end_at, state_by, expanded_with, expanded_at, nodes_after}
use Rattle.pn_search.proofs.Carried.{numbered, length-pairs}
use Rattle.pn_search.proofs.Lists.{get-left, get-right}

-- ---- the children, as they are written

child-written : (f : Frame) (at : ℕ) (v : Node) (p : Position) (m : Move) → v.attacking ≡ same_side p.side f.attacker → written_child at v m ≡ child_node f at v p m
child-written f at v p m turn =
    let e : not v.attacking ≡ same_side (next f.rules p m).side f.attacker = ap not turn ∙ sym ((laws f.rules f.attacker).turns p m) in
    λ i. record (child_node f at v p m) { attacking = e i }

pub children-written : (f : Frame) (at : ℕ) (v : Node) (p : Position) (ms : List Move) → v.attacking ≡ same_side p.side f.attacker → map (written_child at v) ms ≡ map (child_node f at v p) ms
children-written f at v p [] turn = refl
children-written f at v p (m ∷ ms) turn =
    let first = child-written f at v p m turn in
    let rest = children-written f at v p ms turn in
    λ i. first i ∷ rest i

-- ---- the nodes

module _ (f : Frame) (nodes : List Node) (at : ℕ) (p : Position) (v : Node) (stands : slice_get nodes at ≡ Some v) where
  after-known : nodes_after f nodes (spot_at at p) ≡ expanded_at f nodes (spot_at at p) (Some v)
  unfolding nodes_after
  after-known = ap (expanded_at f nodes (spot_at at p)) stands

  pub after-closed : (s : State) → state_by (end_at f at p) v.attacking v.left ≡ Some s → set nodes at (record v { state = s }) ≡ nodes_after f nodes (spot_at at p)
  after-closed s e = sym (after-known ∙ ap (λ o. expanded_with nodes at v o (children_of f at v p)) e)

  pub after-opened : (ms : List Move) → v.attacking ≡ same_side p.side f.attacker → ms ≡ legal f.rules (repeat_of p) → state_by (end_at f at p) v.attacking v.left ≡ None → set nodes at (record v { state = Inner (length nodes) (length ms) }) ++ map (written_child at v) ms ≡ nodes_after f nodes (spot_at at p)
  after-opened ms turn legal_moves e =
      ap (λ xs. set nodes at (record v { state = Inner (length nodes) (length xs) }) ++ map (written_child at v) xs) legal_moves
      ∙ ap (λ n. set nodes at (record v { state = Inner (length nodes) n }) ++ map (written_child at v) (legal f.rules (repeat_of p))) (sym (length-map (legal f.rules (repeat_of p)) (child_node f at v p)))
      ∙ ap (λ xs. set nodes at (record v { state = Inner (length nodes) (length (children_of f at v p)) }) ++ xs) (children-written f at v p (legal f.rules (repeat_of p)) turn)
      ∙ sym (after-known ∙ ap (λ o. expanded_with nodes at v o (children_of f at v p)) e)

-- an open node has a move left for the attacker
pub some_left : (o : Option Bool) (a : Bool) (left : ℕ) → state_by o a left ≡ None → a ≡ true → 0 < left
some_left (Some true) a left h e = cc
some_left (Some false) a left h e = cc
some_left None a left h e = by_test (a && (left == 0)) refl h
  where
    by_test : (b : Bool) → (a && (left == 0)) ≡ b → ◌≡◌ {A = Option State} (cond b (Some Lost) None) None → 0 < left
    by_test true t g = cc
    by_test false t g = grind (arith, nat_tests)

-- ---- the pairs

module _ (nodes : List Node) (placed : AreInPlace nodes) (ps : List Pair) (are : ps ≡ pairs_of nodes) (at : ℕ) (w : Node) where
  old : (i : ℕ) → IsNumbered nodes ps i
  old = subst (λ qs. (i : ℕ) → IsNumbered nodes qs i) (sym are) (numbered nodes placed)

  pub closed-others : (i : ℕ) → (i ≡ at → ⊥) → IsNumbered (set nodes at w) ps i
  closed-others i other u k = old i u (sym (slice_get-set_other nodes at i w (λ e. other (sym e))) ∙ k)

  long : length ps ≡ length nodes
  long = ap length are ∙ length-pairs nodes

  same_part : (s : State) (xs : List Pair) → ((first count : ℕ) → s ≡ Inner first count → first + count ≤ length ps) → of_children s (ps ++ xs) ≡ of_children s ps
  same_part Open xs h = refl
  same_part Won xs h = refl
  same_part Lost xs h = refl
  same_part (Inner first count) xs h =
      let k = h first count refl in
      let low : first ≤ length ps = omega arith in
      let enough : count ≤ length (drop first ps) = let e = length-drop first ps in omega arith in
      ap (take count) (drop-append-le first ps xs low) ∙ take-append-le count (drop first ps) xs enough

  pub opened-others : (v : Node) (ms : List Move) (i : ℕ) → (i ≡ at → ⊥) → IsNumbered (set nodes at w ++ map (written_child at v) ms) (ps ++ replicate (length ms) open_pair) i
  opened-others v ms i other u k = by_place (cases_lt i (length nodes))
    where
      cs : List Node
      cs = map (written_child at v) ms

      xs : List Pair
      xs = replicate (length ms) open_pair

      same_length : length (set nodes at w) ≡ length nodes
      same_length = length-set nodes at w

      by_place : (i < length nodes) ⊎ (length nodes ≤ i) → pair_at (ps ++ xs) i ≡ numbers_of u.state u.attacking (of_children u.state (ps ++ xs))
      by_place (inl low) =
          let same = same_length in
          let there : slice_get nodes i ≡ Some u = sym (slice_get-set_other nodes at i w (λ e. other (sym e))) ∙ sym (get-left (set nodes at w) cs i (omega arith)) ∙ k in
          let l = long in
          get_or_append_left ps xs open_pair i (omega arith) ∙ old i u there
          ∙ ap (numbers_of u.state u.attacking) (sym (same_part u.state xs (λ first count is. let c = ((placed i u there).children first count is).within in omega arith)))
      by_place (inr high) =
          let l = long in
          let same = same_length in
          let there : slice_get cs (i - length nodes) ≡ Some u = ap (λ n. slice_get cs (i - n)) (sym same_length) ∙ sym (get-right (set nodes at w) cs i (omega arith)) ∙ k in
          let m = mapped (written_child at v) ms (i - length nodes) u there in
          let within = slice_get_within ms (i - length nodes) m.0 m.1 in
          let own : pair_at (ps ++ xs) i ≡ open_pair = get_or-append_right ps xs (length nodes) i open_pair l high ∙ get_or-replicate (length ms) (i - length nodes) open_pair open_pair within in
          subst (λ (y : Node). pair_at (ps ++ xs) i ≡ numbers_of y.state y.attacking (of_children y.state (ps ++ xs))) m.2 own

-- ---- how it ends

pub end-inner : (f : Frame) (i : ℕ) (p : Position) → (i ≡ 0 → ⊥) → end_in f p ≡ end_at f i p
unfolding end_at
end-inner f i p h = let e : (i == 0) ≡ false = grind (arith, nat_tests) in ap (λ b. near_end f.rules (cond b [] f.blocked) f.attacker p) (sym e)

pub end-root : (f : Frame) (i : ℕ) (p : Position) → i ≡ 0 → end_at f 0 p ≡ None → ◌≡◌ {A = Option Bool} None (end_at f i p)
end-root f i p e h = sym (ap (λ n. end_at f n p) e ∙ h)

-- ---- a leaf, as it is read and written

read-same : (nodes : List Node) (place : ℕ) (v x : Node) → slice_get nodes place ≡ Some v → x ≡ get_or nodes place x → x ≡ v
read-same nodes place v x h e = e ∙ get_or_from_slice_get nodes place v x h

pub stands-read : (nodes : List Node) (place : ℕ) (x : Node) → place < length nodes → x ≡ get_or nodes place x → slice_get nodes place ≡ Some x
stands-read nodes place x within e = slice_get_read nodes (length nodes) place x refl within e

-- the node x was read for its state, and y for the write
pub closed-is : (f : Frame) (nodes : List Node) (place : ℕ) (p : Position) (x y : Node) (o : Option Bool) (s : State) → slice_get nodes place ≡ Some x → y ≡ get_or nodes place y → o ≡ end_at f place p → ◌≡◌ {A = Option State} (Some s) (state_by o x.attacking x.left) → set nodes place (record y { state = s }) ≡ nodes_after f nodes (spot_at place p)
closed-is f nodes place p x y o s stands read end by =
    ap (λ (v : Node). set nodes place (record v { state = s })) (read-same nodes place x y stands read)
    ∙ after-closed f nodes place p x stands s (ap (λ e. state_by e x.attacking x.left) (sym end) ∙ sym by)

pub opened-is : (old new : List Node) (place : ℕ) (v x y : Node) (ms : List Move) (first count : ℕ) → slice_get old place ≡ Some v → x ≡ get_or old place x → new ≡ old ++ map (written_child place x) ms → y ≡ get_or new place y → first ≡ length old → count ≡ length ms → set new place (record y { state = Inner first count }) ≡ set old place (record v { state = Inner (length old) (length ms) }) ++ map (written_child place v) ms
opened-is old new place v x y ms first count stands read grown read_again first_is count_is =
    let cs = map (written_child place v) ms in
    let within = slice_get_within old place v stands in
    let longer : new ≡ old ++ cs = grown ∙ ap (λ (w : Node). old ++ map (written_child place w) ms) (read-same old place v x stands read) in
    let same : y ≡ v = read_again ∙ ap (λ xs. get_or xs place y) longer ∙ get_or_append_left old cs y place within ∙ get_or_from_slice_get old place v y stands in
    ap (λ (w : Node). set new place (record w { state = Inner first count })) same
    ∙ ap (λ xs. set xs place (record v { state = Inner first count })) longer
    ∙ set-append_left old cs place (record v { state = Inner first count }) within
    ∙ ap (λ n. set old place (record v { state = Inner n count }) ++ cs) first_is
    ∙ ap (λ n. set old place (record v { state = Inner (length old) n }) ++ cs) count_is

pub length-opened : (old : List Node) (place : ℕ) (w v : Node) (ms : List Move) → length (set old place w ++ map (written_child place v) ms) ≡ length old + length ms
length-opened old place w v ms =
    length-append (set old place w) (map (written_child place v) ms)
    ∙ (let a = length-set old place w in let b = length-map ms (written_child place v) in omega arith)

pub length-paired : (ps : List Pair) (n : ℕ) → length (ps ++ replicate n open_pair) ≡ length ps + n
length-paired ps n = length-append ps (replicate n open_pair) ∙ (let a = length-replicate n open_pair in omega arith)
