-- What the tests of a strategy say.
use Rattle.std.proofs.Common.{◌≡◌, inl, inr, ℕ, ◌+◌, ◌<◌, ◌≤◌, List, [], ◌∷◌, length, Bool, true, false, Option, Some, None, not, nat_le, nat_lt, ◌==◌, ◌&&◌, ◌||◌, if◌then◌else◌, slice_get, refl, ap, sym, ◌∙◌, subst, arith}
use Rattle.std.specs.List.{list_any, list_all}
use Rattle.std.proofs.lemmas.Bool.Decides.{nat_tests}
use Rattle.foundation.specs.Member.{Member}
use Rattle.forced_wins.specs.Games.{Game, GameLaws, Story, history, times, run_out, repeated, lost_if, or_end}
use Rattle.forced_wins.specs.Tables.{Accessors, nodes_of, node_end, ends_lost, leads, fits_edge, fits_number, wrong_move, has_edge, first_missing, missing_at, missing_reply, fits_rank, bad_rank, bad_counter, repeats_at, not_won, is_cut, IsFaultless}

pub both : (a b : Bool) → (a && b) ≡ true → (a ≡ true) × (b ≡ true)
both true b h = (refl, h)
both false b h = cc

pub neither : (a b : Bool) → (a || b) ≡ false → (a ≡ false) × (b ≡ false)
neither true b h = cc
neither false b h = (refl, h)

pub holds : (b : Bool) → not b ≡ false → b ≡ true
holds true h = refl
holds false h = cc

pub all_member : {X : Type 0} (f : X → Bool) (xs : List X) → list_all f xs ≡ true → (x : X) → Member x xs → f x ≡ true
all_member f [] h x k = absurd k
all_member f (y ∷ ys) h x (inl e) = sym (ap f e) ∙ (both (f y) (list_all f ys) h).0
all_member f (y ∷ ys) h x (inr k) = all_member f ys (both (f y) (list_all f ys) h).1 x k

any_head : {X : Type 0} (f : X → Bool) (y : X) (ys : List X) (b : Bool) → f y ≡ b → (b || list_any f ys) ≡ true → (list_any f ys ≡ true → (x : X) × Member x ys × (f x ≡ true)) → (x : X) × Member x (y ∷ ys) × (f x ≡ true)
any_head f y ys true e h k = (y, inl refl, e)
any_head f y ys false e h k = let u = k h in (u.0, inr u.1, u.2)

pub any_member : {X : Type 0} (f : X → Bool) (xs : List X) → list_any f xs ≡ true → (x : X) × Member x xs × (f x ≡ true)
any_member f [] h = cc
any_member f (y ∷ ys) h = any_head f y ys (f y) refl h (any_member f ys)

pub led : {N : Type 0} (o : Option (N)) (f : N → Bool) → leads o f ≡ true → (w : N) × (o ≡ Some w) × (f w ≡ true)
led None f h = cc
led (Some w) f h = (w, refl, h)

pub lt_from : (m n : ℕ) → nat_lt m n ≡ true → m < n
lt_from m n h = grind (arith, nat_tests)

pub le_from : (m n : ℕ) → nat_le m n ≡ true → m ≤ n
le_from m n h = grind (arith, nat_tests)

rest_holds : (a b : Bool) → (a && b) ≡ false → a ≡ true → b ≡ false
rest_holds true b h e = h
rest_holds false b h e = cc

won_of : (o : Option Bool) (b w : Bool) → ends_lost (or_end o (lost_if b)) ≡ false → o ≡ Some w → w ≡ true
won_of None b w h e = cc
won_of (Some u) b w h e = let k = holds u h in cc

live_of : (o : Option Bool) (b : Bool) → ends_lost (or_end o (lost_if b)) ≡ false → o ≡ None → b ≡ false
live_of None true h e = cc
live_of None false h e = refl
live_of (Some u) b h e = cc

below_fold : (a x : ℕ) → (nat_lt 0 a && nat_le a x) ≡ false → 0 < a → x < a
below_fold a x h k = grind (arith, nat_tests)

module _ {P R M N E : Type 0} (r : Game P R M) (tb : Accessors P M N E) (l : GameLaws P R M r) (s : List N) (g : Story P) where
  -- a move with the node that it leads to
  pub record Edged (v : N) (m : M) : Type 0 where
    pub to : ℕ
    pub node : N
    pub stands : slice_get s to ≡ Some node
    pub legal : Member m (r.legal (tb.position v))
    pub same : r.repeat (tb.position node) ≡ r.repeat (r.next (tb.position v) m)
    pub covers : r.counter (r.next (tb.position v) m) ≤ r.counter (tb.position node)
    pub falls : fits_rank (r.attacking (tb.position v)) (tb.rank v) (tb.rank node) ≡ true

  only : (es : List E) → (length es == 1) ≡ true → (e : E) × Member e es
  only [] h = cc
  only (e ∷ es) h = (e, inl refl)

  missing_more : (v : N) (m : M) (ms : List M) (b : Bool) → (if b then first_missing r tb v ms else Some m) ≡ None → (b ≡ true) × (first_missing r tb v ms ≡ None)
  missing_more v m ms true h = (refl, h)
  missing_more v m ms false h = cc

  none_missing : (v : N) (ms : List M) → first_missing r tb v ms ≡ None → (m : M) → Member m ms → has_edge r tb v m ≡ true
  none_missing v [] h m k = absurd k
  none_missing v (x ∷ ms) h m (inl e) = sym (ap (has_edge r tb v) e) ∙ (missing_more v x ms (has_edge r tb v x) h).0
  none_missing v (x ∷ ms) h m (inr k) = none_missing v ms (missing_more v x ms (has_edge r tb v x) h).1 m k

  module _ (i : ℕ) (v : N) (f : IsFaultless P R M N E r tb s g i v) where
    pub won-at : (w : Bool) → r.own (tb.position v) ≡ Some w → w ≡ true
    unfolding not_won
    won-at w = won_of (r.own (tb.position v)) (run_out r (r.counter (tb.position v))) w (neither _ _ f.not_won).0

    pub not_counted-at : r.own (tb.position v) ≡ None → run_out r (r.counter (tb.position v)) ≡ false
    unfolding not_won
    not_counted-at = live_of (r.own (tb.position v)) (run_out r (r.counter (tb.position v))) (neither _ _ f.not_won).0

    pub live-at : r.own (tb.position v) ≡ None → node_end r tb v ≡ None
    live-at e = let k = not_counted-at e in rw (e, k)

    fits_all : (list_all (fits_edge r tb s v) (tb.edges v) ≡ true) × (fits_number (node_end r tb v) (r.attacking (tb.position v)) (length (tb.edges v)) ≡ true)
    unfolding wrong_move
    fits_all = let a = both _ _ (holds _ f.wrong_move) in (a.0, (both _ _ a.1).1)

    pub edge-at : (e : E) → Member e (tb.edges v) → Edged v (tb.chosen e)
    unfolding bad_rank bad_counter
    edge-at e k =
        let a = both _ _ (all_member (fits_edge r tb s v) (tb.edges v) fits_all.0 e k) in
        let b = any_member (r.same_move (tb.chosen e)) (r.legal (tb.position v)) a.0 in
        let w = led (slice_get s (tb.to e)) (λ w. r.same (r.repeat (tb.position w)) (r.repeat (r.next (tb.position v) (tb.chosen e)))) a.1 in
        let c = led (slice_get s (tb.to e)) _ (all_member _ (tb.edges v) (holds _ f.bad_rank) e k) in
        let d = led (slice_get s (tb.to e)) _ (all_member _ (tb.edges v) (holds _ f.bad_counter) e k) in
        let x : c.0 ≡ w.0 = let p = c.1 in let q = w.1 in cc in
        let y : d.0 ≡ w.0 = let p = d.1 in let q = w.1 in cc in
        record {
          to = (tb.to e);
          node = w.0;
          stands = w.1;
          legal = subst (λ m. Member m (r.legal (tb.position v))) (sym ((l.decides_move (tb.chosen e) b.0).0 b.2)) b.1;
          same = (l.decides (r.repeat (tb.position w.0)) (r.repeat (r.next (tb.position v) (tb.chosen e)))).0 w.2;
          covers = le_from _ _ (sym (ap (λ u. nat_le (r.counter (r.next (tb.position v) (tb.chosen e))) (r.counter (tb.position u))) y) ∙ d.2);
          falls = sym (ap (λ u. fits_rank (r.attacking (tb.position v)) (tb.rank v) (tb.rank u)) x) ∙ c.2;
        }

    -- an ongoing node of the attacker has an edge
    pub attack-at : r.own (tb.position v) ≡ None → r.attacking (tb.position v) ≡ true → (m : M) × Edged v m
    attack-at e k = let n : (length (tb.edges v) == 1) ≡ true = sym (ap (λ o. fits_number o (r.attacking (tb.position v)) (length (tb.edges v))) (live-at e) ∙ ap (λ b. fits_number None b (length (tb.edges v))) k) ∙ fits_all.1 in
        let c = only (tb.edges v) n in ((tb.chosen c.0), edge-at c.0 c.1)

    -- one of the other side has an edge for each move
    pub defence-at : r.own (tb.position v) ≡ None → r.attacking (tb.position v) ≡ false → (m : M) → Member m (r.legal (tb.position v)) → Edged v m
    unfolding missing_reply
    defence-at e k m is =
        let n : first_missing r tb v (r.legal (tb.position v)) ≡ None = sym (ap (λ o. missing_at r tb v o (r.attacking (tb.position v))) (live-at e) ∙ ap (λ b. missing_at r tb v None b) k) ∙ f.missing_reply in
        let c = any_member _ (tb.edges v) (none_missing v (r.legal (tb.position v)) n m is) in
        subst (λ x. Edged v x) ((l.decides_move (tb.chosen c.0) m).0 c.2) (edge-at c.0 c.1)

    pub few-at : nat_lt 0 i ≡ true → 0 < r.fold → times r (r.repeat (tb.position v)) (history g) + nodes_of r tb (r.repeat (tb.position v)) s < r.fold
    unfolding repeats_at
    few-at behind = below_fold r.fold _ (neither _ _ (rest_holds _ _ (neither _ _ f.repeats).1 behind)).1

  -- the game is not ended by repetition
  pub start-at : (v : N) → IsFaultless P R M N E r tb s g 0 v → r.own g.last ≡ None → repeated r g ≡ false
  unfolding not_won
  start-at v f e = let a : is_cut r (r.own g.last) g ≡ false = (neither _ _ f.not_won).1 in (neither _ _ (sym (ap (λ o. is_cut r o g) e) ∙ a)).0
