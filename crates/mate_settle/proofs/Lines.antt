-- The number of lines.
use Rattle.std.proofs.Common.{◌≡◌, ◌⊎◌, inl, inr, ℕ, zero, suc, ◌+◌, ◌-◌, ◌<◌, ◌≤◌, List, [], ◌∷◌, take, length, get_or, slice_get, Some, Bool, true, false, not, refl, ap, sym, ◌∙◌, subst, arith}
use Rattle.std.specs.List.{sum_by}
use Rattle.std.proofs.lemmas.List.Sums.{sum_by_more, sum_by-cons, sum_by-take-le, sum_by-le-sum_by}
use Rattle.std.proofs.lemmas.Option.{slice_get_within, get_or_from_slice_get}
use Rattle.foundation.specs.Member.{Member, Lists}
use Rattle.forced_wins.specs.Games.{Game, GameLaws}
use Rattle.forced_wins.proofs.Counts.{by_cases}
use Rattle.forced_wins.proofs.Rules.{laws}
use Rattle.evaluation.proofs.TreeLaws.{sum_by-once}
use Rattle.rules_model.specs.declared.board.Position.{Position}
use Rattle.rules_model.specs.declared.moves.Move.{Move}
use Rattle.rules_model.specs.Sides.{same_side}
use Rattle.mate_core.specs.declared.frame.Frame.{Frame}
use Rattle.mate_settle.proofs.OrderLaws.{read-at}
use Rattle.mate_settle.specs.Choices.{lines_of_moves, lines_of_turn}
use Rattle.mate_settle.specs.Lines.{plies, lines, lines_within, lines_after, seen_in}
use Rattle.mate_fact.specs.InFrame.{left_after}

module _ {P R M : Type 0} (r : Game P R M) where
  pub lines-some : (t : ℕ) (p : P) → 1 ≤ lines r t p
  unfolding lines
  lines-some zero p = omega arith
  lines-some (suc t) p = omega arith

  lines-suc : (t : ℕ) (p : P) → lines r (suc t) p ≡ 1 + sum_by (λ m. lines r t (r.next p m)) (r.legal p)
  unfolding lines
  lines-suc t p = refl

  lines-more : (t : ℕ) (p : P) → lines r t p ≤ lines r (suc t) p
  unfolding lines
  lines-more zero p = omega arith
  lines-more (suc t) p =
      let h = sum_by-le-sum_by (λ m. lines r t (r.next p m)) (λ m. lines r (suc t) (r.next p m)) (r.legal p) (λ m. lines-more t (r.next p m)) in
      omega arith

  last_or : {C : Type 0} (k n : ℕ) → k ≤ suc n → (k ≡ suc n → C) → (k ≤ n → C) → C
  last_or {C = C} k n h f g = split (order k n h)
    where
      order : (k n : ℕ) → k ≤ suc n → (k ≡ suc n) ⊎ (k ≤ n)
      order k n h = grind arith

      split : (k ≡ suc n) ⊎ (k ≤ n) → C
      split (inl e) = f e
      split (inr e) = g e

  pub lines-mono : (k t : ℕ) (p : P) → k ≤ t → lines r k p ≤ lines r t p
  lines-mono k zero p h = let e : k ≡ zero = omega arith in subst (λ z. lines r z p ≤ lines r zero p) (sym e) (omega arith)
  lines-mono k (suc t) p h =
      last_or k t h (λ e. subst (λ z. lines r z p ≤ lines r (suc t) p) (sym e) (omega arith))
      (λ o. let a = lines-mono k t p o in let c = lines-more t p in omega arith)

  pub plies-up : (k n : ℕ) (p : P) → k ≤ n → plies r k p ≤ plies r n p
  plies-up k n p h = by_cases (r.attacking p) (λ e. rw e (omega arith)) (λ e. rw e (omega arith))

  pub within-mono : (k n : ℕ) (p : P) → k ≤ n → lines_within r k p ≤ lines_within r n p
  within-mono k n p h = lines-mono (plies r k p) (plies r n p) p (plies-up k n p h)

  pub plies_some : (a : Bool) (p : P) (n : ℕ) → r.attacking p ≡ a → (a ≡ true → 0 < n) → 0 < plies r n p
  plies_some true p n e f = let z = f refl in rw e (omega arith)
  plies_some false p n e f = rw e (omega arith)

  module _ (l : GameLaws P R M r) where
    pub plies-after : (a : Bool) (p : P) (m : M) (n : ℕ) → r.attacking p ≡ a → (a ≡ true → 0 < n) → suc (plies r (left_after a n) (r.next p m)) ≡ plies r n p
    plies-after true p m n e f = let t : r.attacking (r.next p m) ≡ false = l.turns p m ∙ ap not e in let z = f refl in rw (t, e) (omega arith)
    plies-after false p m n e f = let t : r.attacking (r.next p m) ≡ true = l.turns p m ∙ ap not e in rw (t, e) (omega arith)

    pub plies-fall : (a : Bool) (p : P) (m : M) (n : ℕ) → r.attacking p ≡ a → (a ≡ true → 0 < n) → plies r (left_after a n) (r.next p m) < plies r n p
    plies-fall a p m n e f = let h = plies-after a p m n e f in omega arith

    -- the lines of a position are one, and those after each of its moves
    pub lines-after : (a : Bool) (p : P) (n : ℕ) → r.attacking p ≡ a → (a ≡ true → 0 < n) → lines_within r n p ≡ 1 + sum_by (lines_after r (left_after a n) p) (r.legal p)
    lines-after a p n e f =
        let t = plies r n p - 1 in
        let pos = plies_some a p n e f in
        let k : plies r n p ≡ suc t = omega arith in
        let same : ◌≡◌ {A = M → ℕ} (λ m. lines r t (r.next p m)) (lines_after r (left_after a n) p) = λ i m. lines r ((let h = plies-after a p m n e f in let z : t ≡ plies r (left_after a n) (r.next p m) = omega arith in z) i) (r.next p m) in
        ap (λ z. lines r z p) k ∙ lines-suc t p ∙ ap (λ f. 1 + sum_by f (r.legal p)) same

-- ---- sums over lists of moves

module _ {M : Type 0} (f : M → ℕ) (legal ms : List M) (all : Lists (λ m. Member m legal) ms) where
  -- some of the moves, in whatever order, have no more lines than all of them
  pub part-whole : (i : ℕ) → sum_by f (take i ms) ≤ sum_by f legal
  part-whole i =
      let a = sum_by-take-le f ms i in
      let b = sum_by-once f ms legal all.once all.sound in
      omega arith

module _ {M : Type 0} (f : M → ℕ) (ms : List M) where
  -- one move more
  pub sum-more : (i : ℕ) (m : M) → slice_get ms i ≡ Some m → sum_by f (take (i + 1) ms) ≡ sum_by f (take i ms) + f m
  sum-more i m h =
      sum_by_more f ms i m (slice_get_within ms i m h)
      ∙ ap (λ x. sum_by f (take i ms) + f x) (get_or_from_slice_get ms i m m h)

pub member-sum : {M : Type 0} (f : M → ℕ) (ms : List M) (m : M) → Member m ms → f m ≤ sum_by f ms
member-sum f [] m k = absurd k
member-sum f (x ∷ ms) m (inl e) = let s = sum_by-cons f x ms in let u = ap f e in omega arith
member-sum f (x ∷ ms) m (inr k) = let s = sum_by-cons f x ms in let u = member-sum f ms m k in omega arith

-- ---- the lines of a loop over the moves

module _ {P R M : Type 0} (r : Game P R M) (p : P) (left : ℕ) (ms : List M) where
  pub part-more : (i : ℕ) (m : M) (y : ℕ) → slice_get ms i ≡ Some m → y ≡ lines_after r left p m → sum_by (lines_after r left p) (take i ms) + y ≤ sum_by (lines_after r left p) (take (i + 1) ms)
  part-more i m y h e = let s = sum-more (lines_after r left p) ms i m h in omega arith

pub left-small : (a : Bool) (n : ℕ) → left_after a n ≤ n
left-small true n = omega arith
left-small false n = omega arith

-- the same lines, in a frame and from a position that are the same
pub same-lines : (f g : Frame) (p q : Position) (n : ℕ) → f ≡ g → p ≡ q → lines_within (seen_in f) n p ≡ lines_within (seen_in g) n q
same-lines f g p q n e d i = lines_within (seen_in (e i)) n (d i)

-- those of the first moves that were tried, and of one more, in a frame that is kept, are some of those of all moves
module _ (f kept : Frame) (p : Position) (ms : List Move) (n i : ℕ) (d : Move) (same : kept ≡ f) (within : i < length ms) where
  abbrev tried_then : ℕ
  tried_then = sum_by (lines_after (seen_in f) n p) (take i ms) + lines_after (seen_in kept) n p (get_or ms i d)

  pub turn-more : tried_then ≤ sum_by (lines_after (seen_in f) n p) (take (i + 1) ms)
  turn-more = part-more (seen_in f) p n ms i (get_or ms i d) _ (read-at ms i d within) (ap (λ (h : Frame). lines_after (seen_in h) n p (get_or ms i d)) same)

  pub turn-last : Lists (λ m. Member m ((seen_in f).legal p)) ms → tried_then ≤ lines_of_moves f n p
  turn-last all =
      let tried = turn-more in
      let whole = part-whole (lines_after (seen_in f) n p) ((seen_in f).legal p) ms all (i + 1) in
      omega arith

-- the first moves of a turn have no more lines than the turn
pub turn-whole : (f : Frame) (p : Position) (ms : List Move) (a : Bool) (left n i : ℕ) → same_side p.side f.attacker ≡ a → left ≡ left_after a n → Lists (λ m. Member m ((seen_in f).legal p)) ms → sum_by (lines_after (seen_in f) left p) (take i ms) ≤ lines_of_turn f n p
turn-whole f p ms a left n i turn is all =
    let whole = part-whole (lines_after (seen_in f) left p) ((seen_in f).legal p) ms all i in
    let same : left ≡ left_after (same_side p.side f.attacker) n = is ∙ ap (λ b. left_after b n) (sym turn) in
    subst (λ k. sum_by (lines_after (seen_in f) left p) (take i ms) ≤ lines_of_moves f k p) same whole

-- and these are lines of the position, which is one itself
pub lines-of-turn : (f : Frame) (p : Position) (n : ℕ) → (same_side p.side f.attacker ≡ true → 0 < n) → 1 + lines_of_turn f n p ≤ lines_within (seen_in f) n p
lines-of-turn f p n some =
    let whole = lines-after (seen_in f) (laws f.rules f.attacker) (same_side p.side f.attacker) p n refl some in
    omega arith
