-- Wins with the history, and without.
use Rattle.std.proofs.Common.{◌≡◌, ◌⊎◌, inl, inr, ℕ, zero, suc, ◌+◌, ◌<◌, ◌≤◌, Bool, true, false, Option, Some, None, not, ◌||◌, refl, ap, sym, ◌∙◌, arith}
use Rattle.forced_wins.specs.Contests.{decided, within}
use Rattle.forced_wins.specs.Games.{Game, GameLaws, Story, IsInLimit, history, times, run_out, repeated, plus, lost_if, or_end, of_games, of_positions, wins, near, blocked, near_root}
use Rattle.forced_wins.proofs.ContestLaws.{decided-mono, if_mono, any_mono, all_mono, within-mono, double, double-is, forced-attacking, forced-other}
use Rattle.forced_wins.proofs.Counts.{by_cases, tests_more, tests_none, tests_less, times_here, times_other, times_more}

-- ends that fall away
pub end_mono : (o : Option Bool) (y z y1 z1 s t : Bool) → (y1 ≡ true → y ≡ true) → (z1 ≡ true → z ≡ true) → (s ≡ true → t ≡ true) → decided (or_end o (lost_if (y || z))) s ≡ true → decided (or_end o (lost_if (y1 || z1))) t ≡ true
end_mono (Some w) y z y1 z1 s t f g h k = k
end_mono None true z y1 z1 s t f g h k = cc
end_mono None false true y1 z1 s t f g h k = cc
end_mono None false false true z1 s t f g h k = let e = f refl in cc
end_mono None false false false true s t f g h k = let e = g refl in cc
end_mono None false false false false s t f g h k = h k

-- ends that come in, but not here
end_back : (o : Option Bool) (y y1 z1 s t : Bool) → (y ≡ false → y1 ≡ false) → z1 ≡ false → (s ≡ true → t ≡ true) → decided (or_end o (lost_if (y || false))) s ≡ true → decided (or_end o (lost_if (y1 || z1))) t ≡ true
end_back (Some w) y y1 z1 s t f e h k = k
end_back None true y1 z1 s t f e h k = cc
end_back None false y1 z1 s t f e h k = end_mono None false false y1 z1 s t (λ u. let v = f refl in cc) (λ u. cc) h k

-- where no move is left only the own end counts
own_first : (o : Option Bool) (y y1 z1 : Bool) → decided (or_end o (lost_if (y || false))) false ≡ true → decided (or_end o (lost_if (y1 || z1))) false ≡ true
own_first (Some w) y y1 z1 k = k
own_first None true y1 z1 k = cc
own_first None false y1 z1 k = cc

module _ {P R M : Type 0} (r : Game P R M) (l : GameLaws P R M r) where
  blocked-repeated : (g h : Story P) → ((x : R) → times r x (history g) ≤ times r x h.earlier) → blocked r g (r.repeat h.last) ≡ true → repeated r h ≡ true
  unfolding blocked repeated
  blocked-repeated g h more =
      let e = times_here r l (r.repeat h.last) h.last h.earlier refl in
      let f = more (r.repeat h.last) in
      tests_more r.fold _ _ (omega arith)

  repeated-blocked : (g h : Story P) → times r (r.repeat h.last) h.earlier ≤ times r (r.repeat h.last) (history g) → blocked r g (r.repeat h.last) ≡ false → repeated r h ≡ false
  unfolding blocked repeated
  repeated-blocked g h few =
      let e = times_here r l (r.repeat h.last) h.last h.earlier refl in
      tests_less r.fold _ _ (omega arith)

  -- a win of a longer game is one from its last position
  pub within-positions : (g : Story P) (t : ℕ) (h : Story P) → ((x : R) → times r x (history g) ≤ times r x h.earlier) → within (of_games r) t h ≡ true → within (of_positions r (blocked r g)) t h.last ≡ true
  unfolding within
  within-positions g zero h more =
      end_mono (r.own h.last) (repeated r h) (run_out r (r.counter h.last)) (blocked r g (r.repeat h.last)) (run_out r (r.counter h.last)) false false (blocked-repeated g h more) (λ e. e) (λ e. e)
  within-positions g (suc t) h more =
      let longer : (x : R) → times r x (history g) ≤ times r x (history h) = λ x. let u = more x in let v = times_more r l x h.last h.earlier in omega arith in
      end_mono (r.own h.last) (repeated r h) (run_out r (r.counter h.last)) (blocked r g (r.repeat h.last)) (run_out r (r.counter h.last)) _ _ (blocked-repeated g h more) (λ e. e)
      (if_mono (r.attacking h.last) _ _ _ _
      (any_mono _ _ (r.legal h.last) (λ m. within-positions g t (plus r h m) longer))
      (all_mono _ _ (r.legal h.last) (λ m. within-positions g t (plus r h m) longer)))

  -- the same rules with no move-count rule
  abbrev pub uncounted : Game P R M
  uncounted = record r { limit = 0 }

  abbrev pub free : (R → Bool) → ℕ → P → Bool
  free barred t p = within (of_positions uncounted barred) t p

  -- to drop the move-count rule takes no win away
  pub within-free : (barred : R → Bool) (t : ℕ) (p : P) → within (of_positions r barred) t p ≡ true → free barred t p ≡ true
  unfolding within run_out
  within-free barred zero p =
      end_mono (r.own p) (barred (r.repeat p)) (run_out r (r.counter p)) (barred (r.repeat p)) false false false (λ e. e) (λ e. cc) (λ e. e)
  within-free barred (suc t) p =
      end_mono (r.own p) (barred (r.repeat p)) (run_out r (r.counter p)) (barred (r.repeat p)) false _ _ (λ e. e) (λ e. cc)
      (if_mono (r.attacking p) _ _ _ _ (any_mono _ _ (r.legal p) (λ m. within-free barred t (r.next p m))) (all_mono _ _ (r.legal p) (λ m. within-free barred t (r.next p m))))

  same_after : (barred : R → Bool) (t : ℕ) (p q : P) → r.repeat p ≡ r.repeat q → ((p q : P) → r.repeat p ≡ r.repeat q → free barred t p ≡ free barred t q) → ◌≡◌ {A = M → Bool} (λ m. free barred t (r.next p m)) (λ m. free barred t (r.next q m))
  same_after barred t p q e f i m = f (r.next p m) (r.next q m) (l.same_next p q m e) i

  -- then the repeat decides
  pub free-same : (barred : R → Bool) (t : ℕ) (p q : P) → r.repeat p ≡ r.repeat q → free barred t p ≡ free barred t q
  unfolding within run_out
  free-same barred zero p q e = cc (l.same_own p q e)
  free-same barred (suc t) p q e =
      let f = same_after barred t p q e (free-same barred t) in
      cc (l.same_own p q e, l.same_turn p q e, l.same_legal p q e, f)

  fewer : (c t : ℕ) → (r.limit ≡ 0) ⊎ (c + suc t ≤ r.limit) → (r.limit ≡ 0) ⊎ (c + t ≤ r.limit)
  fewer c t (inl e) = inl e
  fewer c t (inr h) = inr (omega arith)

  below : (c t : ℕ) → (r.limit ≡ 0) ⊎ (c + suc t ≤ r.limit) → (r.limit ≡ 0) ⊎ (c < r.limit)
  below c t (inl e) = inl e
  below c t (inr h) = inr (omega arith)

  rising : (c d t : ℕ) → (r.limit ≡ 0) ⊎ (c + suc t ≤ r.limit) → d ≤ c + 1 → (r.limit ≡ 0) ⊎ (d + t ≤ r.limit)
  rising c d t (inl e) f = inl e
  rising c d t (inr h) f = inr (omega arith)

  -- what is won by less than this position stands no more often than in the game
  not_here : (g : Story P) (t : ℕ) (h : Story P) →
      ((p : P) → free (blocked r g) (suc t) p ≡ true → times r (r.repeat p) h.earlier ≤ times r (r.repeat p) (history g)) →
      free (blocked r g) t h.last ≡ false →
      (p : P) → free (blocked r g) t p ≡ true → times r (r.repeat p) (history h) ≤ times r (r.repeat p) (history g)
  not_here g t h few e p f =
      let u = few p (within-mono (of_positions uncounted (blocked r g)) t p f) in
      let v = times_other r l (r.repeat p) h.last h.earlier (λ s. let w = free-same (blocked r g) t h.last p s in cc) in
      omega arith

  -- a win without history is one with it, for a choice of least numbers never returns
  pub free-within : (g : Story P) (t : ℕ) (h : Story P) →
      ((p : P) → free (blocked r g) t p ≡ true → times r (r.repeat p) h.earlier ≤ times r (r.repeat p) (history g)) →
      (r.limit ≡ 0) ⊎ (r.counter h.last + t ≤ r.limit) → free (blocked r g) t h.last ≡ true → within (of_games r) t h ≡ true
  unfolding within run_out
  free-within g zero h few low k = own_first (r.own h.last) (blocked r g (r.repeat h.last)) (repeated r h) (run_out r (r.counter h.last)) k
  free-within g (suc t) h few low k =
      by_cases (free (blocked r g) t h.last)
      (λ e. within-mono (of_games r) t h (free-within g t h (λ p f. few p (within-mono (of_positions uncounted (blocked r g)) t p f)) (fewer (r.counter h.last) t low) e))
      (λ e.
      let here = few h.last k in
      let again : (m : M) → free (blocked r g) t (r.next h.last m) ≡ true → within (of_games r) t (plus r h m) ≡ true =
      λ m. free-within g t (plus r h m) (not_here g t h few e) (rising (r.counter h.last) (r.counter (r.next h.last m)) t low (l.rises h.last m)) in
      end_back (r.own h.last) (blocked r g (r.repeat h.last)) (repeated r h) (run_out r (r.counter h.last)) _ _
      (repeated-blocked g h here) (tests_none r.limit (r.counter h.last) (below (r.counter h.last) t low))
      (if_mono (r.attacking h.last) _ _ _ _ (any_mono _ _ (r.legal h.last) again) (all_mono _ _ (r.legal h.last) again)) k)

  -- ---- by moves of the attacker

  pub of_games-turns : (g : Story P) (m : M) → (of_games r).attacking ((of_games r).after g m) ≡ not ((of_games r).attacking g)
  of_games-turns g m = l.turns g.last m

  pub near-attack : (barred : R → Bool) (n : ℕ) (p : P) → r.attacking p ≡ true → ((m : M) → near r barred n (r.next p m) ≡ within (of_positions r barred) (suc (double n)) (r.next p m))
  near-attack barred n p e m = forced-other (of_positions r barred) l.turns n (r.next p m) (l.turns p m ∙ ap not e)

  pub near-defence : (barred : R → Bool) (n : ℕ) (p : P) → r.attacking p ≡ false → ((m : M) → near r barred n (r.next p m) ≡ within (of_positions r barred) (double n) (r.next p m))
  near-defence barred n p e m = forced-attacking (of_positions r barred) l.turns n (r.next p m) (l.turns p m ∙ ap not e)

  same_times : (g : Story P) (x : R) → times r x (history g) ≤ times r x (history g)
  same_times g x = omega arith

  attack_root : (g : Story P) (n : ℕ) → r.attacking g.last ≡ true → wins r n g ≡ true → near_root r n g ≡ true
  unfolding near_root within double
  attack_root g zero e h = let k = sym (forced-attacking (of_games r) of_games-turns zero g e) ∙ h in rw e k
  attack_root g (suc n) e h = let k = sym (forced-attacking (of_games r) of_games-turns (suc n) g e) ∙ h in
      rw e (decided-mono ((of_games r).end g) _ _ (any_mono _ _ (r.legal g.last) (λ m f. near-attack (blocked r g) n g.last e m ∙ within-positions g (suc (double n)) (plus r g m) (same_times g) f)) (rw e at k))

  defence_root : (g : Story P) (n : ℕ) → r.attacking g.last ≡ false → wins r n g ≡ true → near_root r n g ≡ true
  unfolding near_root within
  defence_root g n e h = let k = sym (forced-other (of_games r) of_games-turns n g e) ∙ h in
      rw e (decided-mono ((of_games r).end g) _ _ (all_mono _ _ (r.legal g.last) (λ m f. near-defence (blocked r g) n g.last e m ∙ within-positions g (double n) (plus r g m) (same_times g) f)) (rw e at k))

  -- a win by n moves is one without the history after the root
  pub wins-near_root : (n : ℕ) (g : Story P) → wins r n g ≡ true → near_root r n g ≡ true
  wins-near_root n g = by_cases (r.attacking g.last) (attack_root g n) (defence_root g n)

  -- a win without history after the first move
  from_first : (g : Story P) (t : ℕ) (m : M) → (r.limit ≡ 0) ⊎ (r.counter g.last + suc t ≤ r.limit) → within (of_positions r (blocked r g)) t (r.next g.last m) ≡ true → within (of_games r) t (plus r g m) ≡ true
  from_first g t m low f = free-within g t (plus r g m) (λ p _. same_times g (r.repeat p)) (rising (r.counter g.last) (r.counter (r.next g.last m)) t low (l.rises g.last m)) (within-free (blocked r g) t (r.next g.last m) f)

  enough : (c n t : ℕ) → suc t ≤ n + n + 1 → (r.limit ≡ 0) ⊎ (c + (n + n) < r.limit) → (r.limit ≡ 0) ⊎ (c + suc t ≤ r.limit)
  enough c n t h (inl e) = inl e
  enough c n t h (inr f) = inr (omega arith)

  attack_back : (g : Story P) (n : ℕ) → (r.limit ≡ 0) ⊎ (r.counter g.last + (n + n) < r.limit) → r.attacking g.last ≡ true → near_root r n g ≡ true → wins r n g ≡ true
  unfolding near_root within double
  attack_back g zero low e h = forced-attacking (of_games r) of_games-turns zero g e ∙ (rw e at h)
  attack_back g (suc n) low e h =
      let size = double-is n in
      let room = enough (r.counter g.last) (suc n) (suc (double n)) (omega arith) low in
      forced-attacking (of_games r) of_games-turns (suc n) g e
      ∙ rw e (decided-mono ((of_games r).end g) _ _ (any_mono _ _ (r.legal g.last) (λ m f. from_first g (suc (double n)) m room (sym (near-attack (blocked r g) n g.last e m) ∙ f))) (rw e at h))

  defence_back : (g : Story P) (n : ℕ) → (r.limit ≡ 0) ⊎ (r.counter g.last + (n + n) < r.limit) → r.attacking g.last ≡ false → near_root r n g ≡ true → wins r n g ≡ true
  unfolding near_root within
  defence_back g n low e h =
      let size = double-is n in
      let room = enough (r.counter g.last) n (double n) (omega arith) low in
      forced-other (of_games r) of_games-turns n g e
      ∙ rw e (decided-mono ((of_games r).end g) _ _ (all_mono _ _ (r.legal g.last) (λ m f. from_first g (double n) m room (sym (near-defence (blocked r g) n g.last e m) ∙ f))) (rw e at h))

  -- and the other way round, where the counter does not run out
  pub near_root-wins : (n : ℕ) (g : Story P) → (r.limit ≡ 0) ⊎ (r.counter g.last + (n + n) < r.limit) → near_root r n g ≡ true → wins r n g ≡ true
  near_root-wins n g low = by_cases (r.attacking g.last) (attack_back g n low) (defence_back g n low)

  same_from : (a b : Bool) → (a ≡ true → b ≡ true) → (b ≡ true → a ≡ true) → a ≡ b
  same_from true true f g = refl
  same_from true false f g = sym (f refl)
  same_from false true f g = g refl
  same_from false false f g = refl

  -- where the counter cannot run out the two are one
  pub wins-is-near_root : (n : ℕ) (g : Story P) → IsInLimit r n g → wins r n g ≡ near_root r n g
  wins-is-near_root n g low = same_from _ _ (wins-near_root n g) (near_root-wins n g low)
