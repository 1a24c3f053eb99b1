-- Nodes are found by the keys of their repeats.
use Rattle.std.proofs.Common.{◌≡◌, ◌⊎◌, inl, inr, ℕ, zero, suc, ◌+◌, ◌<◌, ◌≤◌, List, [], ◌∷◌, ◌++◌, length, get_or, slice_get, Bool, true, false, Option, None, Some, refl, ap, sym, ◌∙◌, subst, arith}
use Rattle.std.specs.Option.{IfSome}
use Rattle.std.specs.Prelude.{slice_set}
use Rattle.std.proofs.lemmas.List.{length-map, map-append}
use Rattle.std.proofs.lemmas.Option.{get_or_from_slice_get}
use Rattle.rules_model.specs.declared.board.Position.{Position}
use Rattle.rules_model.specs.Repeats.{repeat_of}
use Rattle.rules_model.proofs.EqualLaws.{repeat-decides}
use Rattle.position_key.specs.Key.{key_of}
use Rattle.key_index.specs.Places.{IsFrom, IsLastPlace}
use Rattle.forced_wins.proofs.Counts.{not_true}
use Rattle.forced_wins.proofs.TableLaws.{both}
use Rattle.strategy.specs.declared.nodes.Node.{Node}
use Rattle.mate_showing.specs.Keyed.{keys_of, node_key}
use Rattle.mate_showing.specs.Tables.{is_key}
use Rattle.mate_showing.proofs.Growth.{within, there_is, one_of}

key_at : (nodes : List Node) (j : ℕ) (v : Node) → slice_get nodes j ≡ Some v → slice_get (keys_of nodes) j ≡ Some (node_key v)
key_at [] j v h = cc
key_at (x ∷ xs) zero v h = ap (λ (o : Option Node). key_of_first o) h
  where
    key_of_first : Option Node → Option ℕ
    key_of_first None = None
    key_of_first (Some w) = Some (node_key w)
key_at (x ∷ xs) (suc j) v h = key_at xs j v h

-- one more than the place, or 0
abbrev pub bound : Option ℕ → ℕ
bound None = 0
bound (Some i) = i + 1

-- the node for a position has its key
same_key : (exact : Bool) (p : Position) (v : Node) → is_key exact p v ≡ true → node_key v ≡ key_of (repeat_of p)
same_key exact p v h = ap key_of ((repeat-decides (repeat_of v.position) (repeat_of p)).0 (both _ _ h).0)

-- how far the search for a position's node has come: `found` is the first of those from `at` on
pub record IsSought (nodes : List Node) (exact : Bool) (p : Position) (at : Option ℕ) (found : ℕ) : Type 0 where
  pub inside : found ≤ length nodes
  pub here : (v : Node) → slice_get nodes found ≡ Some v → is_key exact p v ≡ true
  pub none : (j : ℕ) (v : Node) → bound at ≤ j → j < found → slice_get nodes j ≡ Some v → is_key exact p v ≡ false
  pub ahead : bound at ≤ found
  pub keyed : IfSome at (λ i. slice_get (keys_of nodes) i ≡ Some (key_of (repeat_of p)))

module _ (nodes : List Node) (exact : Bool) (p : Position) where
  abbrev key : ℕ
  key = key_of (repeat_of p)

  size : length (keys_of nodes) ≡ length nodes
  size = length-map nodes node_key

  -- after the last place of the key no node is the one
  passed : (n : ℕ) (at : Option ℕ) (j : ℕ) (v : Node) → IsLastPlace (keys_of nodes) key n at → bound at ≤ j → j < n → slice_get nodes j ≡ Some v → is_key exact p v ≡ false
  passed n at j v last from to h =
      not_true (is_key exact p v)
      (λ t. past at from (last.last j to (key_at nodes j v h ∙ ap Some (same_key exact p v t))))
    where
      past : (o : Option ℕ) → bound o ≤ j → IsFrom j o → ⊥
      past None l k = k
      past (Some i) l k = omega arith

  low : (n : ℕ) (at : Option ℕ) → IsLastPlace (keys_of nodes) key n at → bound at ≤ n
  low n at last = by_case at last.below
    where
      by_case : (o : Option ℕ) → IfSome o (λ i. i < n) → bound o ≤ n
      by_case None l = omega arith
      by_case (Some i) l = omega arith

  pub sought-starts : (at : Option ℕ) → IsLastPlace (keys_of nodes) key (length (keys_of nodes)) at → IsSought nodes exact p at (length nodes)
  sought-starts at last = record {
    inside = omega arith;
    here = λ v h. absurd (let l = within nodes (length nodes) v h in omega arith);
    none = λ j v from to h. passed (length (keys_of nodes)) at j v last from (let e = size in omega arith) h;
    ahead = (let e = size in let l = low (length (keys_of nodes)) at last in omega arith);
    keyed = last.here;
  }

  pub sought-inside : (i found : ℕ) → IsSought nodes exact p (Some i) found → i < length nodes
  sought-inside i found s = let a = s.ahead in let b = s.inside in omega arith

  -- the key at a place of the search
  key_read : (i found : ℕ) → IsSought nodes exact p (Some i) found → get_or (keys_of nodes) i 0 ≡ key
  key_read i found s = get_or_from_slice_get (keys_of nodes) i key 0 s.keyed

  before-key : (i found : ℕ) (at : Option ℕ) → IsSought nodes exact p (Some i) found → IsLastPlace (keys_of nodes) (get_or (keys_of nodes) i 0) i at → IsLastPlace (keys_of nodes) key i at
  before-key i found at s last = subst (λ k. IsLastPlace (keys_of nodes) k i at) (key_read i found s) last

  -- the node at the place is the one
  pub sought-here : (i found : ℕ) (v : Node) (at : Option ℕ) → IsSought nodes exact p (Some i) found → slice_get nodes i ≡ Some v → is_key exact p v ≡ true → IsLastPlace (keys_of nodes) (get_or (keys_of nodes) i 0) i at → IsSought nodes exact p at i
  sought-here i found v at s h is read =
      let last = before-key i found at s read in
      record {
        inside = let l = sought-inside i found s in omega arith;
        here = λ w k. subst (λ (x : Node). is_key exact p x ≡ true) (sym (one_of (slice_get nodes i) v w h k)) is;
        none = λ j w from to k. passed i at j w last from to k;
        ahead = low i at last;
        keyed = last.here;
      }

  -- it is not
  pub sought-on : (i found : ℕ) (v : Node) (at : Option ℕ) → IsSought nodes exact p (Some i) found → slice_get nodes i ≡ Some v → is_key exact p v ≡ false → IsLastPlace (keys_of nodes) (get_or (keys_of nodes) i 0) i at → IsSought nodes exact p at found
  sought-on i found v at s h is read =
      let last = before-key i found at s read in
      record {
        inside = s.inside;
        here = s.here;
        none = λ j w from to k. by_order j w from to k last (order j i);
        ahead = let a = s.ahead in let l = low i at last in omega arith;
        keyed = last.here;
      }
    where
      order : (j i : ℕ) → (j < i) ⊎ ((j ≡ i) ⊎ (i < j))
      order j i = grind arith

      by_order : (j : ℕ) (w : Node) → bound at ≤ j → j < found → slice_get nodes j ≡ Some w → IsLastPlace (keys_of nodes) key i at → (j < i) ⊎ ((j ≡ i) ⊎ (i < j)) → is_key exact p w ≡ false
      by_order j w from to k last (inl less) = passed i at j w last from less k
      by_order j w from to k last (inr (inl e)) = subst (λ (x : Node). is_key exact p x ≡ false) (sym (one_of (slice_get nodes i) v w h (subst (λ a. slice_get nodes a ≡ Some w) e k))) is
      by_order j w from to k last (inr (inr more)) = s.none j w (omega arith) to k

pub node_read : (nodes : List Node) (i : ℕ) (v : Node) → i < length nodes → v ≡ get_or nodes i v → slice_get nodes i ≡ Some v
node_read nodes i v l read = let u = there_is nodes i l in u.1 ∙ ap Some (sym (read ∙ get_or_from_slice_get nodes i u.0 v u.1))

-- ---- the keys of what grows

same_set : (xs : List Node) (k : ℕ) (u v : Node) → slice_get xs k ≡ Some u → node_key v ≡ node_key u → keys_of (slice_set xs k v) ≡ keys_of xs
same_set [] k u v h e = cc
same_set (x ∷ xs) zero u v h e = ap (λ n. n ∷ keys_of xs) (e ∙ ap node_key (one_of (Some x) x u refl h))
same_set (x ∷ xs) (suc k) u v h e = ap (λ ns. node_key x ∷ ns) (same_set xs k u v h e)

-- a node of the position is put in place of an earlier one, or after all
pub keyed-put : (s t : List Node) (keys grown : List ℕ) (k : ℕ) (v : Node) (exact : Bool) (p : Position) → keys ≡ keys_of s → node_key v ≡ key_of (repeat_of p) → k ≤ length s → ((u : Node) → slice_get s k ≡ Some u → is_key exact p u ≡ true) → (length s ≡ k → t ≡ s ++ v ∷ []) → (k < length s → t ≡ slice_set s k v) → (length s ≡ k → grown ≡ keys ++ key_of (repeat_of p) ∷ []) → (k < length s → grown ≡ keys) → grown ≡ keys_of t
keyed-put s t keys grown k v exact p are is end here after over key_after key_over = cases (order k (length s) end)
  where
    order : (k n : ℕ) → k ≤ n → (n ≡ k) ⊎ (k < n)
    order k n h = grind arith

    cases : (length s ≡ k) ⊎ (k < length s) → grown ≡ keys_of t
    cases (inl e) =
        key_after e ∙ (ap (λ ks. ks ++ key_of (repeat_of p) ∷ []) are ∙ (ap (λ x. keys_of s ++ x ∷ []) (sym is) ∙ (sym (map-append node_key s (v ∷ [])) ∙ ap keys_of (sym (after e)))))
    cases (inr l) =
        let u = there_is s k l in
        key_over l ∙ (are ∙ (sym (same_set s k u.0 v u.1 (is ∙ sym (same_key exact p u.0 (here u.0 u.1)))) ∙ ap keys_of (sym (over l))))
