-- The equations of the nodes that a tree may enter.
use Rattle.std.proofs.Common.{◌≡◌, inl, ℕ, zero, suc, ◌+◌, ◌-◌, ◌*◌, ◌<◌, ◌≤◌, List, [], ◌∷◌, map, get_or, set, remove, length, Bool, true, false, not, if◌then◌else◌, Some, slice_get, refl, ap, sym, ◌∙◌, subst, arith, rules}
use Rattle.std.specs.List.{All, sum_by}
use Rattle.std.proofs.lemmas.List.Sums.{sum_by-cons, sum_by-set, sum_by-remove}
use Rattle.std.proofs.lemmas.Option.{slice_get-get_or}
use Rattle.evaluation.proofs.TreeLaws.{sum_by-once}
use Rattle.forced_wins.proofs.Rules.{laws}
use Rattle.foundation.specs.Member.{Lists, Member}
use Rattle.foundation.specs.Tests.{is_nil}
use Rattle.legality.specs.Stance.{Stance, legal_in, repeat_in}
use Rattle.mate_core.specs.declared.frame.Frame.{Frame}
use Rattle.mate_settle.specs.Lines.{lines_after, lines_within, plies, seen_in}
use Rattle.mate_settle.proofs.Lines.{lines-after, lines-some, plies-after, plies_some}
use Rattle.mate_tree.specs.declared.node.Node.{Node}
use Rattle.mate_tree.specs.declared.node.Node.TheFolds.{fold_out-Node}
use Rattle.mate_tree.specs.declared.node.Node.TheOpen.{Node-F}
use Rattle.mate_tree.specs.declared.node.Node.TheViews.{roll-Node, the_lemmas}
use Rattle.mate_tree.specs.Shapes.{AreLeavesOf, chosen_at, children_at, is_last, is_opened, left_at}
use Rattle.mate_tree.specs.Weights.{Told, told, told_by, told_after, lines_at, child_lines, closed_lines, opened_lines, forest}
use Rattle.rules_model.specs.declared.board.Position.{Position}
use Rattle.rules_model.specs.declared.moves.Move.{Move}
use Rattle.rules_model.specs.declared.rules.Rules.{Rules}
use Rattle.rules_model.specs.Legal.{is_stuck, legal}
use Rattle.rules_model.specs.Next.{next}
use Rattle.rules_model.specs.Repeats.{repeat_of}
use Rattle.rules_model.specs.Sides.{same_side}

-- a node as it is made of its fields
pub rolled-opened : (x : Node-F Node) → is_opened (roll-Node x) ≡ x.opened
rolled-opened x = search (rules, the_lemmas)

pub rolled-children : (x : Node-F Node) → children_at (roll-Node x) ≡ x.children.items
rolled-children x = search (rules, the_lemmas)

-- where a move is legal, some move is
some-of-member : (m : Move) (ms : List Move) → Member m ms → true ≡ not (is_nil ms)
some-of-member m [] h = absurd h
some-of-member m (x ∷ ms) h = refl

pub member-not-stuck : (s : Stance) (m : Move) → Member m (legal_in s) → true ≡ not (is_stuck s.rules (repeat_in s))
unfolding is_stuck
member-not-stuck s m h = some-of-member m (legal_in s) h

module _ (f : Frame) where
  told-out : (v : Node) → told f v ≡ record {
    chosen = chosen_at v;
    lines = λ n p. if is_opened v then opened_lines f n p (map (told f) (children_at v)) else closed_lines f n p;
  }
  told-out v = fold_out-Node Told (told_by f) v

  told-chosen : (v : Node) → (told f v).chosen ≡ chosen_at v
  told-chosen v = ap (λ (t : Told). t.chosen) (told-out v)

  sum-told : (n : ℕ) (p : Position) (vs : List Node) → sum_by (told_after f n p) (map (told f) vs) ≡ forest f n p vs
  sum-told n p [] = refl
  sum-told n p (v ∷ vs) =
      let here : told_after f n p (told f v) ≡ child_lines f n p v = ap (λ m. lines_at f (left_at f n p) (next f.rules p m) v) (told-chosen v) in
      let a = sum_by-cons (told_after f n p) (told f v) (map (told f) vs) in
      let b = sum_by-cons (child_lines f n p) v vs in
      let rest = sum-told n p vs in
      omega arith

  lines-out : (n : ℕ) (p : Position) (v : Node) → lines_at f n p v ≡ (if is_opened v then opened_lines f n p (map (told f) (children_at v)) else closed_lines f n p)
  lines-out n p v = ap (λ (t : Told). t.lines n p) (told-out v)

  pub lines-closed : (n : ℕ) (p : Position) (v : Node) → is_opened v ≡ false → lines_at f n p v ≡ closed_lines f n p
  lines-closed n p v e = lines-out n p v ∙ ap (λ b. if b then opened_lines f n p (map (told f) (children_at v)) else closed_lines f n p) e

  pub lines-opened : (n : ℕ) (p : Position) (v : Node) → is_opened v ≡ true → lines_at f n p v ≡ lines_within (seen_in f) n p + forest f n p (children_at v)
  lines-opened n p v e =
      lines-out n p v
      ∙ ap (λ b. if b then opened_lines f n p (map (told f) (children_at v)) else closed_lines f n p) e
      ∙ ap (λ k. lines_within (seen_in f) n p + k) (sum-told n p (children_at v))

  -- a child that is replaced, or taken out
  pub forest-set : (n : ℕ) (p : Position) (vs : List Node) (i : ℕ) (w x : Node) → i < length vs → w ≡ get_or vs i w → forest f n p (set vs i x) + child_lines f n p w ≡ forest f n p vs + child_lines f n p x
  forest-set n p vs i w x h e =
      let a = sum_by-set (child_lines f n p) vs i x w h in
      let b = ap (child_lines f n p) e in
      omega arith

  pub forest-at : (n : ℕ) (p : Position) (vs : List Node) (i : ℕ) (w : Node) → i < length vs → w ≡ get_or vs i w → child_lines f n p w ≤ forest f n p vs
  forest-at n p vs i w h e =
      let a = sum_by-remove (child_lines f n p) vs i w h in
      let b = ap (child_lines f n p) e in
      omega arith

  pub forest-taken : (n : ℕ) (p : Position) (vs : List Node) (i : ℕ) (w x : Node) → i < length vs → w ≡ get_or vs i w → forest f n p (remove (set vs i x) i) + child_lines f n p w ≡ forest f n p vs
  forest-taken n p [] i w x h e = absurd (omega arith)
  forest-taken n p (v ∷ vs) zero w x h e =
      let a = sum_by-cons (child_lines f n p) v vs in
      let b = ap (child_lines f n p) e in
      omega arith
  forest-taken n p (v ∷ vs) (suc i) w x h e =
      let a = sum_by-cons (child_lines f n p) v vs in
      let b = sum_by-cons (child_lines f n p) v (remove (set vs i x) i) in
      let rest = forest-taken n p vs i w x (omega arith) e in
      omega arith

  -- the lines of a child, as its position and the moves that are left are worked out
  pub child-same : (n : ℕ) (p : Position) (v : Node) (left : ℕ) (q : Position) → left ≡ left_at f n p → q ≡ next f.rules p (chosen_at v) → lines_at f left q v ≡ child_lines f n p v
  child-same n p v left q l e = ap (λ k. lines_at f k q v) l ∙ ap (λ x. lines_at f (left_at f n p) x v) e

  -- the position after the move of a child that is read twice
  pub same-child : (s : Stance) (vs : List Node) (i : ℕ) (v w : Node) (q : Position) → s.rules ≡ f.rules → i < length vs → v ≡ get_or vs i v → w ≡ get_or vs i w → q ≡ next s.rules s.position (chosen_at v) → q ≡ next f.rules s.position (chosen_at w)
  same-child s vs i v w q same h a b e =
      let one = slice_get-get_or vs i v h in
      let other = slice_get-get_or vs i w h in
      let is : Some v ≡ Some w = ap Some a ∙ sym one ∙ other ∙ ap Some (sym b) in
      let vw : v ≡ w = cc is in
      e ∙ ap (λ (r : Rules). next r s.position (chosen_at v)) same ∙ ap (λ x. next f.rules s.position (chosen_at x)) vw

  -- ---- a leaf

  more-of-more : (k s t : ℕ) → s ≤ t → k * s ≤ k * t
  more-of-more zero s t h = omega arith
  more-of-more (suc k) s t h = let rest = more-of-more k s t h in omega arith

  closed-more : (k l : ℕ) → l ≤ (k + 1) * l
  closed-more zero l = omega arith
  closed-more (suc k) l = let rest = closed-more k l in omega arith

  pub closed-within : (n : ℕ) (p : Position) (v : Node) → is_opened v ≡ false → lines_within (seen_in f) n p ≤ lines_at f n p v
  closed-within n p v e =
      let a = lines-closed n p v e in
      let b = closed-more (plies (seen_in f) n p) (lines_within (seen_in f) n p) in
      omega arith

  pub closed-some : (n : ℕ) (p : Position) (v : Node) → is_opened v ≡ false → 1 ≤ lines_at f n p v
  closed-some n p v e =
      let a = closed-within n p v e in
      let b = lines-some (seen_in f) (plies (seen_in f) n p) p in
      omega arith

  -- ---- leaves for all moves

  leaf-lines : (n : ℕ) (p : Position) (v : Node) → is_opened v ≡ false → 0 < n → child_lines f n p v ≡ plies (seen_in f) n p * lines_after (seen_in f) (left_at f n p) p (chosen_at v)
  leaf-lines n p v e some =
      let k = plies-after (seen_in f) (laws f.rules f.attacker) (same_side p.side f.attacker) p (chosen_at v) n refl (λ t. some) in
      lines-closed (left_at f n p) (next f.rules p (chosen_at v)) v e
      ∙ ap (λ z. z * lines_after (seen_in f) (left_at f n p) p (chosen_at v)) (the-plies (plies (seen_in f) (left_at f n p) (next f.rules p (chosen_at v))) (plies (seen_in f) n p) k)
    where
      the-plies : (a b : ℕ) → suc a ≡ b → a + 1 ≡ b
      the-plies a b h = omega arith

  leaves-sum : (n : ℕ) (p : Position) (vs : List Node) → All (λ v. is_opened v ≡ false) vs → 0 < n → forest f n p vs ≡ plies (seen_in f) n p * sum_by (lines_after (seen_in f) (left_at f n p) p) (map chosen_at vs)
  leaves-sum n p [] all some = omega arith
  leaves-sum n p (v ∷ vs) all some =
      let k = plies (seen_in f) n p in
      let g = lines_after (seen_in f) (left_at f n p) p in
      let a = sum_by-cons (child_lines f n p) v vs in
      let b = sum_by-cons g (chosen_at v) (map chosen_at vs) in
      let here = leaf-lines n p v (all 0 v (omega arith)) some in
      let rest = leaves-sum n p vs (λ i w h. all (suc i) w (omega arith)) some in
      joined k (g (chosen_at v)) (sum_by g (map chosen_at vs)) _ _ _ _ a b here rest
    where
      joined : (k x y whole first others sum : ℕ) → whole ≡ first + others → sum ≡ x + y → first ≡ k * x → others ≡ k * y → whole ≡ k * sum
      joined k x y whole first others sum a b c d = a ∙ ap (λ z. z + others) c ∙ ap (λ z. k * x + z) d ∙ both k x y ∙ ap (λ z. k * z) (sym b)
        where
          both : (k x y : ℕ) → k * x + k * y ≡ k * (x + y)
          both k x y = omega arith

  enough : (k l s t : ℕ) → 0 < k → l ≡ 1 + t → s ≤ t → 1 + (l + k * s) ≤ (k + 1) * l
  enough k l s t some e le =
      let a = more-of-more k s t le in
      let b : (k + 1) * l ≡ (k + 1) * (1 + t) = ap (λ z. (k + 1) * z) e in
      let c : (k + 1) * (1 + t) ≡ k + k * t + 1 + t = omega arith in
      omega arith

  -- where a leaf is opened, one node is entered
  pub opened-less : (s : Stance) (n : ℕ) (v w : Node) (vs : List Node) → s.rules ≡ f.rules → 0 < n → is_opened v ≡ false → AreLeavesOf s vs → is_opened w ≡ true → children_at w ≡ vs
      → 1 + lines_at f n s.position w ≤ lines_at f n s.position v
  opened-less s n v w vs same some closed leaves opened children =
      let r = seen_in f in
      let p = s.position in
      let a = same_side p.side f.attacker in
      let k = plies r n p in
      let g = lines_after r (left_at f n p) p in
      let listed = subst (λ (rules : Rules). Lists (λ m. Member m (legal rules (repeat_of p))) (map chosen_at vs)) same leaves.listed in
      let whole = lines-after r (laws f.rules f.attacker) a p n refl (λ t. some) in
      let part = sum_by-once g (map chosen_at vs) (r.legal p) listed.once listed.sound in
      let before = lines-closed n p v closed in
      let after = lines-opened n p w opened ∙ ap (λ z. lines_within r n p + z) (ap (forest f n p) children ∙ leaves-sum n p vs leaves.closed some) in
      let less = enough k (lines_within r n p) (sum_by g (map chosen_at vs)) (sum_by g (r.legal p)) (plies_some r a p n refl (λ t. some)) whole part in
      omega arith

module _ (f : Frame) where
  plies-most : (a : Bool) (n : ℕ) (p : Position) → (seen_in f).attacking p ≡ a → plies (seen_in f) n p ≤ 2 * n + 1
  plies-most true n p e = rw e (omega arith)
  plies-most false n p e = rw e (omega arith)

  -- the leaves of a root have no more lines than the root for each ply
  pub leaves-lines : (s : Stance) (n : ℕ) (vs : List Node) → s.rules ≡ f.rules → 0 < n → AreLeavesOf s vs → forest f n s.position vs ≤ (2 * n + 1) * lines_within (seen_in f) n s.position
  leaves-lines s n vs same some leaves =
      let r = seen_in f in
      let p = s.position in
      let a = same_side p.side f.attacker in
      let k = plies r n p in
      let g = lines_after r (left_at f n p) p in
      let listed = subst (λ (rules : Rules). Lists (λ m. Member m (legal rules (repeat_of p))) (map chosen_at vs)) same leaves.listed in
      let whole = lines-after r (laws f.rules f.attacker) a p n refl (λ t. some) in
      let part = sum_by-once g (map chosen_at vs) (r.legal p) listed.once listed.sound in
      let sum = leaves-sum f n p vs leaves.closed some in
      let most = plies-most a n p refl in
      let l = lines_within r n p in
      let t = sum_by g (map chosen_at vs) in
      let within : t ≤ l = omega arith in
      let up = more-of-more f k t l within in
      let over = more-of-more f l k (2 * n + 1) most in
      omega arith

pub some-of-last : (a : Bool) (n : ℕ) → is_last a n ≡ false → 0 < n
some-of-last a zero e = absurd (cc)
some-of-last a (suc n) e = omega arith

pub nil-listed : (ms : List Move) (vs : List Node) → Lists (λ m. Member m ms) (map chosen_at vs) → is_nil vs ≡ is_nil ms
nil-listed [] [] all = refl
nil-listed (m ∷ ms) [] all = absurd (all.complete m (inl refl))
nil-listed [] (v ∷ vs) all = absurd (all.sound (chosen_at v) (inl refl))
nil-listed (m ∷ ms) (v ∷ vs) all = refl
