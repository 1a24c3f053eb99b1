-- The second walk: what it asks of the moves, what it makes of their nodes, and how many nodes it enters.
use Rattle.std.proofs.Common.{◌≡◌, ◌⊎◌, inl, inr, ℕ, zero, suc, ◌+◌, ◌-◌, ◌*◌, ◌<◌, ◌≤◌, List, [], ◌∷◌, ◌++◌, map, take, length, slice_get, Bool, true, false, ◌||◌, Option, Some, None, refl, ap, sym, ◌∙◌, subst, arith}
use Rattle.std.specs.List.{list_any, list_all, sum_by}
use Rattle.std.proofs.lemmas.List.Sums.{sum_by-take-le}
use Rattle.rules_model.specs.declared.board.Position.{Position}
use Rattle.rules_model.specs.declared.board.Repeat.{Repeat}
use Rattle.rules_model.specs.declared.moves.Move.{Move}
use Rattle.foundation.specs.Member.{Member}
use Rattle.forced_wins.specs.Lines.{moves_left, IsWonAlong}
use Rattle.forced_wins.specs.Lines.{behind}
use Rattle.forced_wins.specs.Games.{Game, GameLaws, run_out, lost_if, or_end, of_positions, near}
use Rattle.forced_wins.proofs.Counts.{by_cases, not_true}
use Rattle.forced_wins.proofs.ClaimLaws.{forced-ended, forced-zero, forced-attack, forced-defence, forced-mono}
use Rattle.strategy.specs.declared.nodes.Node.{Node}
use Rattle.strategy.specs.declared.nodes.Edge.{Edge}
use Rattle.mate_showing.specs.declared.plan.StrategyPlan.{StrategyPlan}
use Rattle.mate_settle.specs.Lines.{plies, lines_within, lines_after}
use Rattle.mate_showing.specs.Reached.{left_along, IsReached}
use Rattle.mate_fact.specs.InFrame.{left_after}
use Rattle.mate_showing.specs.Tables.{most, GoesOnAt, GoesOn, IsNext, Stands, IsLedTo, AreEdges, Grows}
use Rattle.mate_settle.proofs.Lines.{lines-some, lines-after, plies-up, plies-fall, plies-after, within-mono, member-sum, sum-more}
use Rattle.mate_showing.proofs.Growth.{stands-grows}

none_lost : (o : Option Bool) (y z : Bool) → o ≡ None → (y || z) ≡ true → or_end o (lost_if (y || z)) ≡ Some false
none_lost None true z e h = refl
none_lost None false true e h = refl
none_lost None false false e h = cc
none_lost (Some w) y z e h = cc

none_open : (o : Option Bool) (y z : Bool) → o ≡ None → y ≡ false → z ≡ false → or_end o (lost_if (y || z)) ≡ None
none_open None y z e f g = rw (f, g)
none_open (Some w) y z e f g = cc

or_true : (y z : Bool) → y ≡ true → (y || z) ≡ true
or_true y z e = rw e

or_right : (y z : Bool) → z ≡ true → (y || z) ≡ true
or_right true z e = refl
or_right false z e = e

module _ (r : Game Position Repeat Move) (l : GameLaws Position Repeat Move r) (b : Repeat → Bool) where
  abbrev end : Position → Option Bool
  end p = (of_positions r b).end p

  -- ---- what is won goes on

  live : (n : ℕ) (p : Position) → near r b n p ≡ true → r.own p ≡ None → (b (r.repeat p) ≡ false) × (run_out r (r.counter p) ≡ false)
  live n p h e = (
    not_true (b (r.repeat p)) (λ t. let k = forced-ended (of_positions r b) n p false (none_lost (r.own p) (b (r.repeat p)) (run_out r (r.counter p)) e (or_true (b (r.repeat p)) (run_out r (r.counter p)) t)) in cc),
    not_true (run_out r (r.counter p)) (λ t. let k = forced-ended (of_positions r b) n p false (none_lost (r.own p) (b (r.repeat p)) (run_out r (r.counter p)) e (or_right (b (r.repeat p)) (run_out r (r.counter p)) t)) in cc),
  )

  goes_attack : (n : ℕ) (p : Position) → near r b n p ≡ true → end p ≡ None → r.attacking p ≡ true → (0 < n) × (list_any (λ m. near r b (n - 1) (r.next p m)) (r.legal p) ≡ true)
  goes_attack zero p h e a = let z = forced-zero (of_positions r b) p e a in cc
  goes_attack (suc n) p h e a =
      let k : suc n - 1 ≡ n = omega arith in
      (omega arith, subst (λ z. list_any (λ m. near r b z (r.next p m)) (r.legal p) ≡ true) (sym k) (sym (forced-attack (of_positions r b) l.turns n p e a) ∙ h))

  at_turn : (n : ℕ) (p : Position) (a : Bool) → r.attacking p ≡ a → near r b n p ≡ true → end p ≡ None → GoesOnAt r b n p None a
  at_turn n p true t h e = goes_attack n p h e t
  at_turn n p false t h e = sym (forced-defence (of_positions r b) l.turns n p e t) ∙ h

  at_end : (n : ℕ) (p : Position) (o : Option Bool) → r.own p ≡ o → near r b n p ≡ true → GoesOnAt r b n p o (r.attacking p)
  at_end n p (Some w) e h = sym (forced-ended (of_positions r b) n p w (rw e)) ∙ h
  at_end n p None e h = let k = live n p h e in at_turn n p (r.attacking p) refl h (none_open (r.own p) (b (r.repeat p)) (run_out r (r.counter p)) e k.0 k.1)

  pub near-goes : (n : ℕ) (p : Position) → near r b n p ≡ true → GoesOn r b n p
  near-goes n p h = record { on = at_end n p (r.own p) refl h; counted = λ e. (live n p h e).1 }

  pub near-free : (n : ℕ) (p : Position) → near r b n p ≡ true → r.own p ≡ None → b (r.repeat p) ≡ false
  near-free n p h e = (live n p h e).0

  -- ---- the position behind a move

  left_is : (n : ℕ) (p : Position) → moves_left r n p ≡ left_after (r.attacking p) n
  left_is n p = by_cases (r.attacking p) (λ e. rw e) (λ e. rw e)

  won-snoc : (n : ℕ) (p : Position) (ms : List Move) (m : Move) → IsWonAlong r b n p ms → Member m (r.legal (behind r p ms)) → (r.attacking (behind r p ms) ≡ true → 0 < left_along r n p ms) → near r b (moves_left r (left_along r n p ms) (behind r p ms)) (r.next (behind r p ms) m) ≡ true → IsWonAlong r b n p (ms ++ m ∷ [])
  won-snoc n p [] m w is f h = (is, f, h, tt)
  won-snoc n p (x ∷ ms) m w is f h = (w.0, w.1, w.2, won-snoc (moves_left r n p) (r.next p x) ms m w.3 is f h)

  behind-snoc : (p : Position) (ms : List Move) (m : Move) → behind r p (ms ++ m ∷ []) ≡ r.next (behind r p ms) m
  behind-snoc p [] m = refl
  behind-snoc p (x ∷ ms) m = behind-snoc (r.next p x) ms m

  left-snoc : (n : ℕ) (p : Position) (ms : List Move) (m : Move) → left_along r n p (ms ++ m ∷ []) ≡ moves_left r (left_along r n p ms) (behind r p ms)
  left-snoc n p [] m = refl
  left-snoc n p (x ∷ ms) m = left-snoc (moves_left r n p) (r.next p x) ms m

  length-snoc : (ms : List Move) (m : Move) → length (ms ++ m ∷ []) ≡ length ms + 1
  length-snoc [] m = refl
  length-snoc (x ∷ ms) m = let h = length-snoc ms m in omega arith

  behind_up : (a : Bool) (n k : ℕ) → n ≤ k → left_after a n ≤ left_after a k
  behind_up true n k h = omega arith
  behind_up false n k h = h

  reached-after : (whole : ℕ) (root : Position) (n k : ℕ) (p : Position) (m : Move) → IsReached r b whole root n p → Member m (r.legal p) → (r.attacking p ≡ true → 0 < n) → k ≤ left_after (r.attacking p) n → near r b k (r.next p m) ≡ true → IsReached r b whole root k (r.next p m)
  reached-after whole root n k p m x is some low h =
      let left = left_along r whole root x.line in
      let more = x.enough in
      let up = behind_up (r.attacking p) n left more in
      let e : behind r root x.line ≡ p = x.leads in
      let t : moves_left r left p ≡ left_after (r.attacking p) left = left_is left p in
      let g : moves_left r left (behind r root x.line) ≡ left_after (r.attacking p) left = ap (moves_left r left) e ∙ t in
      let won : near r b (left_after (r.attacking p) left) (r.next p m) ≡ true = forced-mono (of_positions r b) l.turns k (left_after (r.attacking p) left) (r.next p m) (omega arith) h in
      let won2 : near r b (moves_left r left (behind r root x.line)) (r.next (behind r root x.line) m) ≡ true = subst (λ z. near r b z (r.next (behind r root x.line) m) ≡ true) (sym g) (subst (λ z. near r b (left_after (r.attacking p) left) (r.next z m) ≡ true) (sym e) won) in
      let ls : left_along r whole root (x.line ++ m ∷ []) ≡ left_after (r.attacking p) left = left-snoc whole root x.line m ∙ g in
      let len = length-snoc x.line m in
      let fall = plies-after r l (r.attacking p) p m left refl (λ z. let s = some z in omega arith) in
      let short = x.short in
      record {
        line = x.line ++ m ∷ [];
        won = won-snoc whole root x.line m x.won (subst (λ z. Member m (r.legal z)) (sym e) is) (λ z. let s = some (sym (ap r.attacking e) ∙ z) in omega arith) won2;
        leads = behind-snoc root x.line m ∙ ap (λ z. r.next z m) e;
        enough = subst (λ z. k ≤ z) (sym ls) (omega arith);
        short = subst (λ z. length (x.line ++ m ∷ []) + plies r z (r.next p m) ≤ 2 * whole + 1) (sym ls) (omega arith);
      }

  pub next-after : (plan : StrategyPlan) (n k : ℕ) (p : Position) (m : Move) → IsNext r b plan n p → r.own p ≡ None → Member m (r.legal p) → (r.attacking p ≡ true → 0 < n) → k ≤ left_after (r.attacking p) n → near r b k (r.next p m) ≡ true → plies r k (r.next p m) ≤ plies r n p → IsNext r b plan k (r.next p m)
  next-after plan n k p m x own is some low h f = record {
    goes_on = near-goes k (r.next p m) h;
    free = inl (near-free k (r.next p m) h, open_root x.free);
    room = λ e. (let a = x.room e in omega arith);
    reached = reached-after plan.whole plan.root n k p m x.reached is some low h;
  }
    where
      open_root : ((r.own p ≡ None → b (r.repeat p) ≡ false) × (r.own plan.root ≡ None)) ⊎ (p ≡ plan.root) → r.own plan.root ≡ None
      open_root (inl y) = y.1
      open_root (inr e) = sym (ap r.own e) ∙ own

  pub goes-attack : (n : ℕ) (p : Position) → GoesOn r b n p → r.own p ≡ None → r.attacking p ≡ true → (0 < n) × (list_any (λ m. near r b (n - 1) (r.next p m)) (r.legal p) ≡ true)
  goes-attack n p x e a = subst (λ o. GoesOnAt r b n p o true) e (subst (λ z. GoesOnAt r b n p (r.own p) z) a x.on)

  pub goes-defence : (n : ℕ) (p : Position) → GoesOn r b n p → r.own p ≡ None → r.attacking p ≡ false → list_all (λ m. near r b n (r.next p m)) (r.legal p) ≡ true
  goes-defence n p x e a = subst (λ o. GoesOnAt r b n p o false) e (subst (λ z. GoesOnAt r b n p (r.own p) z) a x.on)

  -- ---- edges

  pub edges_defence : (exact : Bool) (s : List Node) (p : Position) (n : ℕ) (es : List Edge) → r.own p ≡ None → r.attacking p ≡ false → map (λ (e : Edge). e.chosen) es ≡ r.legal p → ((e : Edge) → Member e es → IsLedTo r exact s p n e) → AreEdges r exact s p n es (r.own p) (r.attacking p)
  edges_defence exact s p n es own turn is f =
      subst (λ o. AreEdges r exact s p n es o (r.attacking p)) (sym own) (subst (λ a. AreEdges r exact s p n es None a) (sym turn) (
        is,
        λ e k.
            let x = f e k in record { legal = x.legal; stands = subst (λ a. Stands r exact s (r.next p e.chosen) (left_after a n) e.to) (sym turn) x.stands },
      ))

  pub led-to-grows : (exact : Bool) (s t : List Node) (p : Position) (n : ℕ) (e : Edge) → n ≤ most → Grows r exact s t → IsLedTo r exact s p n e → IsLedTo r exact t p n e
  led-to-grows exact s t p n e h f x = record { legal = x.legal; stands = stands-grows r l exact s t (r.next p e.chosen) n e.to h f x.stands }

in_push : {X : Type 0} (x y : X) (xs : List X) → Member x (xs ++ y ∷ []) → Member x xs ⊎ (y ≡ x)
in_push x y [] (inl e) = inr e
in_push x y [] (inr k) = absurd k
in_push x y (z ∷ xs) (inl e) = inl (inl e)
in_push x y (z ∷ xs) (inr k) = widen (in_push x y xs k)
  where
    widen : Member x xs ⊎ (y ≡ x) → Member x (z ∷ xs) ⊎ (y ≡ x)
    widen (inl k) = inl (inr k)
    widen (inr e) = inr e

pub each_more : {X : Type 0} {Q : X → Type 0} (xs : List X) (y : X) → ((x : X) → Member x xs → Q x) → Q y → (x : X) → Member x (xs ++ y ∷ []) → Q x
each_more {Q = Q} xs y f q x k = cases (in_push x y xs k)
  where
    cases : Member x xs ⊎ (y ≡ x) → Q x
    cases (inl m) = f x m
    cases (inr e) = subst Q e q

pub chosen_more : (es : List Edge) (ms : List Move) (i : ℕ) (e : Edge) → slice_get ms i ≡ Some e.chosen → map (λ (e : Edge). e.chosen) es ≡ take i ms → map (λ (e : Edge). e.chosen) (es ++ e ∷ []) ≡ take (i + 1) ms
chosen_more es ms i e h f = map-snoc es e ∙ ap (λ l. l ++ e.chosen ∷ []) f ∙ sym (take-snoc ms i e.chosen h)
  where
    map-snoc : (es : List Edge) (e : Edge) → map (λ (e : Edge). e.chosen) (es ++ e ∷ []) ≡ map (λ (e : Edge). e.chosen) es ++ e.chosen ∷ []
    map-snoc [] e = refl
    map-snoc (x ∷ es) e = ap (λ l. x.chosen ∷ l) (map-snoc es e)

    none : (ms : List Move) → take 0 ms ≡ []
    none [] = refl
    none (m ∷ ms) = refl

    take-suc : (ms : List Move) (i : ℕ) (m : Move) → slice_get ms i ≡ Some m → take (suc i) ms ≡ take i ms ++ m ∷ []
    take-suc [] i m h = cc
    take-suc (x ∷ ms) zero m h = (λ k. (let u : x ≡ m = cc in u) k ∷ none ms k)
    take-suc (x ∷ ms) (suc i) m h = ap (λ l. x ∷ l) (take-suc ms i m h)

    take-snoc : (ms : List Move) (i : ℕ) (m : Move) → slice_get ms i ≡ Some m → take (i + 1) ms ≡ take i ms ++ m ∷ []
    take-snoc ms i m h = let one : i + 1 ≡ suc i = omega arith in ap (λ k. take k ms) one ∙ take-suc ms i m h

-- ---- counts

mul_le : (a b x y : ℕ) → a ≤ b → x ≤ y → a * x ≤ b * y
mul_le a b x y h k = grind arith

module _ (r : Game Position Repeat Move) (l : GameLaws Position Repeat Move r) where
  pub some_lines : (n : ℕ) (p : Position) → 1 ≤ (n + 1) * lines_within r n p
  some_lines n p = let h = lines-some r (plies r n p) p in let k = mul_le 1 (n + 1) 1 (lines_within r n p) (omega arith) h in omega arith

  pub rest_lines : (n : ℕ) (p : Position) → 1 + ((n + 1) * lines_within r n p - 1) ≤ (n + 1) * lines_within r n p
  rest_lines n p = let least = some_lines n p in omega arith

  spread : (k x y z : ℕ) → x ≡ y + z → k * x ≡ k * y + k * z
  spread k x y z e = let u : k * x ≡ k * (y + z) = ap (λ w. k * w) e in omega arith

  -- an attack: the moves that are asked, then the one that is built on
  pub attack_lines : (n k : ℕ) (p : Position) (m : Move) → r.attacking p ≡ true → 0 < n → k < n → Member m (r.legal p) → 1 + (sum_by (lines_after r (n - 1) p) (r.legal p) + (k + 1) * lines_within r k (r.next p m)) ≤ (n + 1) * lines_within r n p
  attack_lines n k p m turn some less is =
      let whole = lines-after r l true p n turn (λ e. some) in
      let one = member-sum (lines_after r (n - 1) p) (r.legal p) m is in
      let up = within-mono r k (n - 1) (r.next p m) (omega arith) in
      let f = mul_le (k + 1) n (lines_within r k (r.next p m)) (sum_by (lines_after r (n - 1) p) (r.legal p)) (omega arith) (omega arith) in
      let e : (n + 1) * lines_within r n p ≡ (n + 1) * (1 + sum_by (lines_after r (n - 1) p) (r.legal p)) = ap (λ z. (n + 1) * z) whole in
      total n (sum_by (lines_after r (n - 1) p) (r.legal p)) _ _ f e
    where
      total : (n s x y : ℕ) → x ≤ n * s → y ≡ (n + 1) * (1 + s) → 1 + (s + x) ≤ y
      total n s x y f e = let c : (n + 1) * (1 + s) ≡ n + 1 + n * s + s = omega arith in omega arith

  pub asked_lines : (n : ℕ) (p : Position) → r.attacking p ≡ true → 0 < n → 1 + sum_by (lines_after r (n - 1) p) (r.legal p) ≤ (n + 1) * lines_within r n p
  asked_lines n p turn some =
      let whole = lines-after r l true p n turn (λ e. some) in
      let f = mul_le 1 (n + 1) (lines_within r n p) (lines_within r n p) (omega arith) (omega arith) in omega arith

  -- a defence
  pub defence_more : (n : ℕ) (p : Position) (ms : List Move) (i : ℕ) (m : Move) → slice_get ms i ≡ Some m → (n + 1) * sum_by (lines_after r n p) (take i ms) + (n + 1) * lines_within r n (r.next p m) ≡ (n + 1) * sum_by (lines_after r n p) (take (i + 1) ms)
  defence_more n p ms i m h =
      let e = sum-more (lines_after r n p) ms i m h in
      let d = spread (n + 1) (sum_by (lines_after r n p) (take (i + 1) ms)) (sum_by (lines_after r n p) (take i ms)) (lines_within r n (r.next p m)) e in
      omega arith

  pub defence_lines : (n : ℕ) (p : Position) (ms : List Move) (i : ℕ) → r.attacking p ≡ false → ms ≡ r.legal p → (n + 1) * sum_by (lines_after r n p) (take i ms) ≤ (n + 1) * lines_within r n p - 1
  defence_lines n p ms i turn is =
      let whole = lines-after r l false p n turn (λ e. cc) in
      let part = sum_by-take-le (lines_after r n p) ms i in
      let e : sum_by (lines_after r n p) ms ≡ sum_by (lines_after r n p) (r.legal p) = ap (sum_by (lines_after r n p)) is in
      let f = mul_le (n + 1) (n + 1) (sum_by (lines_after r n p) (take i ms)) (sum_by (lines_after r n p) (r.legal p)) (omega arith) (omega arith) in
      let d : (n + 1) * lines_within r n p ≡ (n + 1) * (1 + sum_by (lines_after r n p) (r.legal p)) = ap (λ z. (n + 1) * z) whole in
      total n (sum_by (lines_after r n p) (r.legal p)) _ _ f d
    where
      total : (n s x y : ℕ) → x ≤ (n + 1) * s → y ≡ (n + 1) * (1 + s) → x ≤ y - 1
      total n s x y f e = let c : (n + 1) * (1 + s) ≡ (n + 1) * s + (n + 1) = omega arith in omega arith

  pub plies_less : (n k : ℕ) (p : Position) (m : Move) → r.attacking p ≡ true → 0 < n → k < n → plies r k (r.next p m) < plies r n p
  plies_less n k p m turn some less = let h = plies-fall r l true p m n turn (λ e. some) in let u = plies-up r k (n - 1) (r.next p m) (omega arith) in omega arith

  pub plies_next : (n : ℕ) (p : Position) (m : Move) → r.attacking p ≡ false → plies r n (r.next p m) < plies r n p
  plies_next n p m turn = plies-fall r l false p m n turn (λ e. cc)
