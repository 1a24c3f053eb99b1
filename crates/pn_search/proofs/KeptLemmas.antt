-- What is kept of trees.
use Rattle.std.proofs.Common.{◌≡◌, ℕ, suc, ◌+◌, ◌<◌, ◌^◌, List, [], ◌∷◌, length, get_or, true, false, Some, None, slice_get, option_and_then, cond, refl, ap, sym, ◌∙◌, subst, arith}
use Rattle.std.proofs.lemmas.List.{get_or_default}
use Rattle.rules_model.specs.declared.board.Position.{Position}
use Rattle.rules_model.specs.Sides.{same_side}
use Rattle.rules_model.specs.Sound.{is_sound}
use Rattle.mate_core.specs.declared.frame.Frame.{Frame}
use Rattle.pn_search.specs.declared.node.Node.{Node}
use Rattle.pn_search.specs.declared.node.State.TheVariants.{Inner}
use Rattle.pn_search.specs.declared.numbers.Pair.{Pair}
use Rattle.pn_search.specs.Kept.{IsKept, IsExpandable}
use Rattle.pn_search.specs.Numbers.{open_pair, pair_at, pairs_of, pairs_from}
use Rattle.pn_search.specs.Shapes.{AreInPlace}
use Rattle.pn_search.specs.Trees.{ProofTree, HasGrown, IsPn, Spot, spot_at, root_node, new_tree, nodes_after, most_proving, end_at, is_settled, expanded, grown, pn}
use Rattle.pn_search.proofs.Carried.{length-pairs}
use Rattle.pn_search.proofs.Descent.{IsOn}
use Rattle.pn_search.proofs.Expanded.{stands-read}
use Rattle.pn_search.proofs.Grown.{IsRooted, IsChildOf, pn-rooted, most_proving-on, expanded-grows, child-of, child-within}
use Rattle.pn_search.proofs.Standing.{in_place}

kept-root : (f : Frame) (root : Position) (n : ℕ) → is_sound f.rules root ≡ true → end_at f 0 root ≡ None → IsKept (record { frame = f; root = root; moves = n; nodes = root_node f root n ∷ [] }) (open_pair ∷ [])
unfolding pn new_tree pairs_of pairs_from
kept-root f root n sound ongoing = record {
  grown = record { expansions = 0; is = refl };
  pairs = refl;
  sound = sound;
  ongoing = ongoing;
  few = omega arith;
}

pub kept-new : (f g : Frame) (root : Position) (n : ℕ) (nodes : List Node) (ps : List Pair) → g ≡ f → nodes ≡ root_node f root n ∷ [] → ps ≡ open_pair ∷ [] → is_sound f.rules root ≡ true → end_at f 0 root ≡ None → IsKept (record { frame = g; root = root; moves = n; nodes = nodes }) ps
kept-new f g root n nodes ps same one pair sound ongoing =
    subst (λ h. IsKept (record { frame = h; root = root; moves = n; nodes = nodes }) ps) (sym same)
    (subst (λ xs. IsKept (record { frame = f; root = root; moves = n; nodes = xs }) ps) (sym one)
    (subst (IsKept (record { frame = f; root = root; moves = n; nodes = root_node f root n ∷ [] })) (sym pair) (kept-root f root n sound ongoing)))

pub new-is : (f g : Frame) (root : Position) (n : ℕ) (nodes : List Node) → g ≡ f → nodes ≡ root_node f root n ∷ [] → ◌≡◌ {A = ProofTree} (record { frame = g; root = root; moves = n; nodes = nodes }) (new_tree f root n)
unfolding new_tree
new-is f g root n nodes same one = λ i. record { frame = same i; root = root; moves = n; nodes = one i }

-- ---- pairs, as they are read

pub pairs-long : (nodes : List Node) (ps : List Pair) → ps ≡ pairs_of nodes → length ps ≡ length nodes
pairs-long nodes ps e = ap length e ∙ length-pairs nodes

pub pair-read : (nodes : List Node) (ps : List Pair) (i : ℕ) (x : Pair) → ps ≡ pairs_of nodes → i < length nodes → x ≡ get_or ps i x → x ≡ pair_at (pairs_of nodes) i
pair-read nodes ps i x e h r =
    let low : i < length ps = let k = pairs-long nodes ps e in omega arith in
    r ∙ get_or_default ps i x open_pair low ∙ ap (λ qs. pair_at qs i) e

pub nodes-are : (t u : ProofTree) → t ≡ u → t.nodes ≡ u.nodes
nodes-are t u e = ap (λ (x : ProofTree). x.nodes) e

pub pairs-are : (t u : ProofTree) (ps : List Pair) → t ≡ u → ps ≡ pairs_of t.nodes → ps ≡ pairs_of u.nodes
pairs-are t u ps e k = k ∙ ap (λ (x : ProofTree). pairs_of x.nodes) e

pub some-nodes : (t u : ProofTree) → t ≡ u → HasGrown t → 0 < length u.nodes
some-nodes t u e g = subst (λ (x : ProofTree). 0 < length x.nodes) e (pn-rooted t.frame t.root t.moves g.expansions t g.is).some

-- ---- an expansion

grown-unsettled : (t u : ProofTree) → is_settled t ≡ false → expanded t ≡ u → grown t ≡ Some u
unfolding grown
grown-unsettled t u open_root e = ap (λ b. cond b None (Some (expanded t))) open_root ∙ ap (λ x. Some x) e

expanded-is : (t : ProofTree) (nodes : List Node) → nodes ≡ nodes_after t.frame t.nodes (most_proving t) → expanded t ≡ record t { nodes = nodes }
unfolding expanded
expanded-is t nodes e = λ i. record t { nodes = sym e i }

next-pn : (k : ℕ) (t u : ProofTree) → IsPn k t → grown t ≡ Some u → pn t.frame t.root t.moves (suc k) ≡ Some u
unfolding pn
next-pn k t u is e = ap (option_and_then grown) is ∙ e

pub grows-one : (t : ProofTree) (nodes : List Node) → is_settled t ≡ false → nodes ≡ nodes_after t.frame t.nodes (most_proving t) → grown t ≡ Some (record t { nodes = nodes })
grows-one t nodes open_root e = grown-unsettled t (record t { nodes = nodes }) open_root (expanded-is t nodes e)

pub pn-more : (k : ℕ) (t : ProofTree) (nodes : List Node) → IsPn k t → is_settled t ≡ false → nodes ≡ nodes_after t.frame t.nodes (most_proving t) → IsPn (suc k) (record t { nodes = nodes })
pn-more k t nodes is open_root e = next-pn k t (record t { nodes = nodes }) is (grows-one t nodes open_root e)

pub kept-grown : (t : ProofTree) (ps : List Pair) (nodes : List Node) (qs : List Pair) → IsKept t ps → is_settled t ≡ false → nodes ≡ nodes_after t.frame t.nodes (most_proving t) → length nodes < 2 ^ 32 → qs ≡ pairs_of nodes → IsKept (record t { nodes = nodes }) qs
kept-grown t ps nodes qs kept open_root e few are = record {
  grown = record { expansions = suc kept.grown.expansions; is = pn-more kept.grown.expansions t nodes kept.grown.is open_root e };
  pairs = are;
  sound = kept.sound;
  ongoing = kept.ongoing;
  few = few;
}

pub kept-rooted : (t : ProofTree) (ps : List Pair) → IsKept t ps → IsRooted t
kept-rooted t ps kept = pn-rooted t.frame t.root t.moves kept.grown.expansions t kept.grown.is

-- the most-proving leaf may be expanded
pub leaf-expandable : (t : ProofTree) (ps : List Pair) → IsKept t ps → IsExpandable t.frame t.nodes (most_proving t).place (most_proving t).position
leaf-expandable t ps kept = record { within = on.within; turn = turn; root = at_root }
  where
    r : IsRooted t
    r = kept-rooted t ps kept

    on : IsOn t.frame t.root t.moves t.nodes r (most_proving t)
    on = most_proving-on t r

    turn : (v : Node) → slice_get t.nodes (most_proving t).place ≡ Some v → v.attacking ≡ same_side (most_proving t).position.side t.frame.attacker
    turn v h = (r.each (most_proving t).place v h).turn ∙ ap (λ (p : Position). same_side p.side t.frame.attacker) on.there

    at_root : (most_proving t).place ≡ 0 → end_at t.frame 0 (most_proving t).position ≡ None
    at_root e = ap (end_at t.frame 0) (sym on.there ∙ ap r.position e ∙ r.starts) ∙ kept.ongoing

-- its nodes stand in their places afterwards
pub after-in-place : (t : ProofTree) (ps : List Pair) (nodes : List Node) → IsKept t ps → nodes ≡ nodes_after t.frame t.nodes (most_proving t) → AreInPlace nodes
after-in-place t ps nodes kept e =
    let r = expanded-grows t (kept-rooted t ps kept) in
    let u = subst IsRooted (expanded-is t nodes e) r in
    in_place t.frame t.root t.moves nodes u

pub kept-placed : (t : ProofTree) (ps : List Pair) → IsKept t ps → AreInPlace t.nodes
kept-placed t ps kept = in_place t.frame t.root t.moves t.nodes (kept-rooted t ps kept)

-- the leaf that was found in an equal tree
pub same-spot : (t u : ProofTree) (place : ℕ) (p : Position) → t ≡ u → place ≡ (most_proving u).place → p ≡ (most_proving u).position → spot_at place p ≡ most_proving t
same-spot t u place p e a b =
    let found : ◌≡◌ {A = Spot} (spot_at place p) (most_proving u) = λ i. record { place = a i; position = b i } in
    found ∙ ap most_proving (sym e)

-- ---- a child, as it is read

-- the child with this number is among the nodes and the pairs, and leads on
pub record IsChildRead (t u : ProofTree) (ps : List Pair) (place child : ℕ) : Type 0 where
  pub within : child < length t.nodes
  pub paired : child < length ps
  pub few : child < 2 ^ 32
  pub leads : (w : Node) → w ≡ get_or t.nodes child w → IsChildOf u place child w.chosen

-- v was read at the place
pub child-read : (t u : ProofTree) (ps : List Pair) → IsKept t ps → t ≡ u → (place k : ℕ) (v : Node) (first count : ℕ) → place < length u.nodes → v ≡ get_or t.nodes place v → v.state ≡ Inner first count → k < count → IsChildRead t u ps place (first + k)
child-read t u ps kept e place k v first count low read state few =
    let r : IsRooted u = subst IsRooted e (kept-rooted t ps kept) in
    let same = nodes-are t u e in
    let long = ap length same in
    let stands : slice_get u.nodes place ≡ Some v = subst (λ ns. slice_get ns place ≡ Some v) same (stands-read t.nodes place v (omega arith) read) in
    let inside = child-within u r place k v first count stands state few in
    let within : first + k < length t.nodes = omega arith in
    record {
      within = within;
      paired = let a = pairs-long t.nodes ps kept.pairs in omega arith;
      few = let a = kept.few in omega arith;
      leads = λ w is. child-of u r place k v first count stands state few w (subst (λ ns. slice_get ns (first + k) ≡ Some w) same (stands-read t.nodes (first + k) w within is));
    }
