-- The sentences on forced wins, and the derivations of facts.
use Rattle.std.proofs.Common.{◌≡◌, ◌⊎◌, inl, inr, ℕ, zero, suc, ◌≤◌, List, [], ◌∷◌, Bool, true, false, Option, Some, None, not, refl, ap, sym, ◌∙◌, arith}
use Rattle.std.specs.List.{list_any, list_all}
use Rattle.foundation.specs.Member.{Member}
use Rattle.forced_wins.specs.Contests.{Contest, replies, attacks_by, forced, within}
use Rattle.forced_wins.specs.Games.{Game, GameLaws, run_out, of_positions, near}
use Rattle.forced_wins.specs.Claims.{IsWon, IsRefuted}
use Rattle.forced_wins.proofs.ContestLaws.{any_intro, all_intro, if_mono, any_mono, all_mono, within-mono, double, forced-attacking, forced-other}
use Rattle.forced_wins.proofs.Counts.{by_cases, not_true, tests_more}
use Rattle.forced_wins.proofs.NearLaws.{end_mono}

module _ {X M : Type 0} (g : Contest X M) where
  -- an ended state has its result
  pub forced-ended : (n : ℕ) (x : X) (w : Bool) → g.end x ≡ Some w → forced g n x ≡ w
  unfolding forced attacks_by replies
  forced-ended zero x w e = by_cases (g.attacking x) (λ m. rw (m, e)) (λ m. rw (m, e))
  forced-ended (suc n) x w e = by_cases (g.attacking x) (λ m. rw (m, e)) (λ m. rw (m, e))

  -- without a move of his own he does not win an ongoing state where he is to move
  pub forced-zero : (x : X) → g.end x ≡ None → g.attacking x ≡ true → forced g 0 x ≡ false
  unfolding forced attacks_by
  forced-zero x e m = rw (m, e)

  module _ (turns : (x : X) (m : M) → g.attacking (g.after x m) ≡ not (g.attacking x)) where
    at_other : (n : ℕ) (x : X) → g.attacking x ≡ false → replies g (attacks_by g n) x ≡ forced g n x
    unfolding forced
    at_other n x e = rw e

    at_mine : (n : ℕ) (x : X) → g.attacking x ≡ true → attacks_by g n x ≡ forced g n x
    unfolding forced
    at_mine n x e = rw e

    -- he needs some move
    pub forced-attack : (n : ℕ) (x : X) → g.end x ≡ None → g.attacking x ≡ true → forced g (suc n) x ≡ list_any (λ m. forced g n (g.after x m)) (g.moves x)
    unfolding attacks_by
    forced-attack n x e m =
        let same : ◌≡◌ {A = M → Bool} (λ c. replies g (attacks_by g n) (g.after x c)) (λ c. forced g n (g.after x c)) = λ i c. at_other n (g.after x c) (turns x c ∙ ap not m) i in
        sym (at_mine (suc n) x m) ∙ rw e (ap (λ h. list_any h (g.moves x)) same)

    -- each move of the other side must do
    pub forced-defence : (n : ℕ) (x : X) → g.end x ≡ None → g.attacking x ≡ false → forced g n x ≡ list_all (λ m. forced g n (g.after x m)) (g.moves x)
    unfolding replies
    forced-defence n x e m =
        let same : ◌≡◌ {A = M → Bool} (λ c. attacks_by g n (g.after x c)) (λ c. forced g n (g.after x c)) = λ i c. at_mine n (g.after x c) (turns x c ∙ ap not m) i in
        sym (at_other n x m) ∙ rw e (ap (λ h. list_all h (g.moves x)) same)

    -- more moves do no harm
    forced_more : (n : ℕ) (x : X) → forced g n x ≡ true → forced g (suc n) x ≡ true
    unfolding double
    forced_more n x h =
        by_cases (g.attacking x)
        (λ m. forced-attacking g turns (suc n) x m ∙ within-mono g (suc (double n)) x (within-mono g (double n) x (sym (forced-attacking g turns n x m) ∙ h)))
        (λ m. forced-other g turns (suc n) x m ∙ within-mono g (suc (suc (double n))) x (within-mono g (suc (double n)) x (sym (forced-other g turns n x m) ∙ h)))

    last_or : (k n : ℕ) (C : Type 0) → k ≤ suc n → (k ≡ suc n → C) → (k ≤ n → C) → C
    last_or k n C h f u = split (order k n h)
      where
        order : (k n : ℕ) → k ≤ suc n → (k ≡ suc n) ⊎ (k ≤ n)
        order k n h = grind arith

        split : (k ≡ suc n) ⊎ (k ≤ n) → C
        split (inl e) = f e
        split (inr e) = u e

    pub forced-mono : (k n : ℕ) (x : X) → k ≤ n → forced g k x ≡ true → forced g n x ≡ true
    forced-mono k zero x h f = let e : k ≡ zero = omega arith in sym (ap (λ i. forced g i x) e) ∙ f
    forced-mono k (suc n) x h f =
        last_or k n (forced g (suc n) x ≡ true) h (λ e. sym (ap (λ i. forced g i x) e) ∙ f) (λ low. forced_more n x (forced-mono k n x low f))

module _ {P R M : Type 0} (r : Game P R M) (l : GameLaws P R M r) where
  pub within-lower : (barred : R → Bool) (t : ℕ) (p q : P) → r.repeat q ≡ r.repeat p → r.counter q ≤ r.counter p → within (of_positions r barred) t p ≡ true → within (of_positions r barred) t q ≡ true
  unfolding within run_out
  within-lower barred zero p q e h =
      rw (l.same_own q p e, e) (end_mono (r.own p) (barred (r.repeat p)) (run_out r (r.counter p)) (barred (r.repeat p)) (run_out r (r.counter q)) _ _ (λ k. k) (tests_more r.limit _ _ h) (λ k. k))
  within-lower barred (suc t) p q e h =
      rw (l.same_own q p e, e, l.same_turn q p e, l.same_legal q p e)
      (end_mono (r.own p) (barred (r.repeat p)) (run_out r (r.counter p)) (barred (r.repeat p)) (run_out r (r.counter q)) _ _ (λ k. k) (tests_more r.limit _ _ h)
      (if_mono (r.attacking p) _ _ _ _
      (any_mono _ _ (r.legal p) (λ m. within-lower barred t (r.next p m) (r.next q m) (l.same_next q p m e) (l.lower q p m e h)))
      (all_mono _ _ (r.legal p) (λ m. within-lower barred t (r.next p m) (r.next q m) (l.same_next q p m e) (l.lower q p m e h)))))

  within-barred : (b c : R → Bool) → ((x : R) → c x ≡ true → b x ≡ true) → (t : ℕ) (p : P) → within (of_positions r b) t p ≡ true → within (of_positions r c) t p ≡ true
  unfolding within
  within-barred b c f zero p = end_mono (r.own p) (b (r.repeat p)) (run_out r (r.counter p)) (c (r.repeat p)) (run_out r (r.counter p)) _ _ (f (r.repeat p)) (λ k. k) (λ k. k)
  within-barred b c f (suc t) p =
      end_mono (r.own p) (b (r.repeat p)) (run_out r (r.counter p)) (c (r.repeat p)) (run_out r (r.counter p)) _ _ (f (r.repeat p)) (λ k. k)
      (if_mono (r.attacking p) _ _ _ _ (any_mono _ _ (r.legal p) (λ m. within-barred b c f t (r.next p m))) (all_mono _ _ (r.legal p) (λ m. within-barred b c f t (r.next p m))))

  -- a win at a counter is one at each lower counter
  pub near-lower : (barred : R → Bool) (n : ℕ) (p q : P) → r.repeat q ≡ r.repeat p → r.counter q ≤ r.counter p → near r barred n p ≡ true → near r barred n q ≡ true
  near-lower barred n p q e h f =
      by_cases (r.attacking p)
      (λ m. forced-attacking (of_positions r barred) l.turns n q (l.same_turn q p e ∙ m) ∙ within-lower barred (double n) p q e h (sym (forced-attacking (of_positions r barred) l.turns n p m) ∙ f))
      (λ m. forced-other (of_positions r barred) l.turns n q (l.same_turn q p e ∙ m) ∙ within-lower barred (suc (double n)) p q e h (sym (forced-other (of_positions r barred) l.turns n p m) ∙ f))

  -- and where fewer repeats are barred
  pub near-barred : (b c : R → Bool) → ((x : R) → c x ≡ true → b x ≡ true) → (n : ℕ) (p : P) → near r b n p ≡ true → near r c n p ≡ true
  near-barred b c k n p f =
      by_cases (r.attacking p)
      (λ m. forced-attacking (of_positions r c) l.turns n p m ∙ within-barred b c k (double n) p (sym (forced-attacking (of_positions r b) l.turns n p m) ∙ f))
      (λ m. forced-other (of_positions r c) l.turns n p m ∙ within-barred b c k (suc (double n)) p (sym (forced-other (of_positions r b) l.turns n p m) ∙ f))

  module _ (barred : R → Bool) where
    abbrev end_of : P → Option Bool
    end_of p = (of_positions r barred).end p

    pub won_at : (n : ℕ) (p : P) → near r barred n p ≡ true → IsWon r barred (r.repeat p) n (r.counter p)
    won_at n p f q e h = near-lower barred n p q e h f

    pub refuted_at : (n : ℕ) (p : P) → near r barred n p ≡ false → IsRefuted r barred (r.repeat p) n (r.counter p)
    refuted_at n p f q e h = not_true (near r barred n q) (λ k. let u = near-lower barred n q p (sym e) h k in cc)

    pub won_now : (p : P) (c : ℕ) → r.own p ≡ Some true → IsWon r barred (r.repeat p) 0 c
    won_now p c e q s h = forced-ended (of_positions r barred) 0 q true (rw (l.same_own q p s ∙ e))

    pub by_move : (p : P) (m : M) (k c : ℕ) → end_of p ≡ None → r.attacking p ≡ true → Member m (r.legal p) → r.counter (r.next p m) ≤ c → IsWon r barred (r.repeat (r.next p m)) k c → IsWon r barred (r.repeat p) (suc k) (r.counter p)
    by_move p m k c e t is h f = won_at (suc k) p (forced-attack (of_positions r barred) l.turns k p e t ∙ any_intro (λ m. near r barred k (r.next p m)) m (r.legal p) is (f (r.next p m) refl h))

    pub by_all : (p : P) (n : ℕ) → end_of p ≡ None → r.attacking p ≡ false → ((m : M) → Member m (r.legal p) → (k : ℕ) × (c : ℕ) × (k ≤ n) × (r.counter (r.next p m) ≤ c) × IsWon r barred (r.repeat (r.next p m)) k c) → IsWon r barred (r.repeat p) n (r.counter p)
    by_all p n e t f = won_at n p (forced-defence (of_positions r barred) l.turns n p e t ∙ all_intro (λ m. near r barred n (r.next p m)) (r.legal p) (λ m is.
        let (k, c, small, low, won) = f m is in forced-mono (of_positions r barred) l.turns k n (r.next p m) small (won (r.next p m) refl low)))

    pub refuted_now : (p : P) (n : ℕ) → end_of p ≡ Some false → IsRefuted r barred (r.repeat p) n (r.counter p)
    refuted_now p n e = refuted_at n p (forced-ended (of_positions r barred) n p false e)

    pub refuted_zero : (p : P) → end_of p ≡ None → r.attacking p ≡ true → IsRefuted r barred (r.repeat p) 0 (r.counter p)
    refuted_zero p e t = refuted_at 0 p (forced-zero (of_positions r barred) p e t)

    none_of : (f : M → Bool) (ms : List M) → ((m : M) → Member m ms → f m ≡ false) → list_any f ms ≡ false
    none_of f [] h = refl
    none_of f (m ∷ ms) h = let e = h m (inl refl) in rw (e, none_of f ms (λ x k. h x (inr k)))

    one_fails : (f : M → Bool) (m : M) (ms : List M) → Member m ms → f m ≡ false → list_all f ms ≡ false
    one_fails f m [] k e = absurd k
    one_fails f m (x ∷ ms) (inl s) e = let g : f x ≡ false = ap f s ∙ e in rw g
    one_fails f m (x ∷ ms) (inr k) e = let g = one_fails f m ms k e in by_cases (f x) (λ t. rw (t, g)) (λ t. rw t)

    pub refuted_by_all : (p : P) (n : ℕ) → end_of p ≡ None → r.attacking p ≡ true → ((m : M) → Member m (r.legal p) → (k : ℕ) × (c : ℕ) × (n ≤ k) × (c ≤ r.counter (r.next p m)) × IsRefuted r barred (r.repeat (r.next p m)) k c) → IsRefuted r barred (r.repeat p) (suc n) (r.counter p)
    refuted_by_all p n e t f = refuted_at (suc n) p (forced-attack (of_positions r barred) l.turns n p e t ∙ none_of (λ m. near r barred n (r.next p m)) (r.legal p) (λ m is.
        let (k, c, small, low, lost) = f m is in not_true (near r barred n (r.next p m)) (λ h. let u = forced-mono (of_positions r barred) l.turns n k (r.next p m) small h in let v = lost (r.next p m) refl low in cc)))

    pub refuted_by_move : (p : P) (m : M) (n c : ℕ) → end_of p ≡ None → r.attacking p ≡ false → Member m (r.legal p) → c ≤ r.counter (r.next p m) → IsRefuted r barred (r.repeat (r.next p m)) n c → IsRefuted r barred (r.repeat p) n (r.counter p)
    refuted_by_move p m n c e t is low lost = refuted_at n p (forced-defence (of_positions r barred) l.turns n p e t ∙ one_fails (λ m. near r barred n (r.next p m)) m (r.legal p) is (lost (r.next p m) refl low))
