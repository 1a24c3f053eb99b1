-- Near wins of a game: with more moves, and where the repeat of its root is not barred.
use Rattle.std.proofs.Common.{◌≡◌, ℕ, zero, suc, ◌+◌, ◌≤◌, Bool, true, false, Some, None, ◌||◌, sym, ◌∙◌, arith}
use Rattle.forced_wins.specs.Games.{Game, GameLaws, Story, history, times, run_out, repeated, lost_if, or_end, of_games, of_positions, blocked, near, near_attack, near_defence, near_root}
use Rattle.forced_wins.proofs.ContestLaws.{decided-mono, if_mono, any_mono, all_mono}
use Rattle.forced_wins.proofs.Counts.{by_cases, own_cases, tests_less}
use Rattle.forced_wins.proofs.ClaimLaws.{forced-ended, forced-zero, forced-attack, forced-defence, forced-mono}

module _ {P R M : Type 0} (r : Game P R M) (l : GameLaws P R M r) (g : Story P) where
  -- ---- more moves

  attack-more : (k n : ℕ) → k ≤ n → near_attack r (blocked r g) k g.last ≡ true → near_attack r (blocked r g) n g.last ≡ true
  attack-more zero n low h = cc
  attack-more (suc k) zero low h = absurd (omega arith)
  attack-more (suc k) (suc n) low h =
      any_mono _ _ (r.legal g.last) (λ m. forced-mono (of_positions r (blocked r g)) l.turns k n (r.next g.last m) (omega arith)) h

  defence-more : (k n : ℕ) → k ≤ n → near_defence r (blocked r g) k g.last ≡ true → near_defence r (blocked r g) n g.last ≡ true
  defence-more k n low = all_mono _ _ (r.legal g.last) (λ m. forced-mono (of_positions r (blocked r g)) l.turns k n (r.next g.last m) low)

  -- more moves do a near win of a game no harm
  pub near_root-more : (k n : ℕ) → k ≤ n → near_root r k g ≡ true → near_root r n g ≡ true
  unfolding near_root
  near_root-more k n low =
      decided-mono ((of_games r).end g) _ _ (if_mono (r.attacking g.last) _ _ _ _ (attack-more k n low) (defence-more k n low))

  -- ---- a root that is not barred

  unrepeated : blocked r g (r.repeat g.last) ≡ false → repeated r g ≡ false
  unfolding blocked repeated
  unrepeated free = tests_less r.fold (times r (r.repeat g.last) (history g)) (times r (r.repeat g.last) (history g) + 1) (omega arith) free

  same_end : blocked r g (r.repeat g.last) ≡ false → (of_games r).end g ≡ (of_positions r (blocked r g)).end g.last
  same_end free i = or_end (r.own g.last) (lost_if ((unrepeated free ∙ sym free) i || run_out r (r.counter g.last)))

  near_root-ended : (n : ℕ) (w : Bool) → (of_games r).end g ≡ Some w → near_root r n g ≡ w
  unfolding near_root
  near_root-ended n w e = rw e

  near_root-attack : (n : ℕ) → (of_games r).end g ≡ None → r.attacking g.last ≡ true → near_root r n g ≡ near_attack r (blocked r g) n g.last
  unfolding near_root
  near_root-attack n e t = rw (e, t)

  near_root-defence : (n : ℕ) → (of_games r).end g ≡ None → r.attacking g.last ≡ false → near_root r n g ≡ near_defence r (blocked r g) n g.last
  unfolding near_root
  near_root-defence n e t = rw (e, t)

  near-attack : (n : ℕ) → (of_positions r (blocked r g)).end g.last ≡ None → r.attacking g.last ≡ true → near r (blocked r g) n g.last ≡ near_attack r (blocked r g) n g.last
  near-attack zero e t = forced-zero (of_positions r (blocked r g)) g.last e t
  near-attack (suc n) e t = forced-attack (of_positions r (blocked r g)) l.turns n g.last e t

  near-defence : (n : ℕ) → (of_positions r (blocked r g)).end g.last ≡ None → r.attacking g.last ≡ false → near r (blocked r g) n g.last ≡ near_defence r (blocked r g) n g.last
  near-defence n e t = forced-defence (of_positions r (blocked r g)) l.turns n g.last e t

  -- where the repeat of the root is not barred, the root is looked at as any other position, whether the game has ended or not
  pub near_root-unbarred : (n : ℕ) → blocked r g (r.repeat g.last) ≡ false → near_root r n g ≡ near r (blocked r g) n g.last
  near_root-unbarred n free =
      let same = same_end free in
      own_cases ((of_games r).end g)
      (λ w e. near_root-ended n w e ∙ sym (forced-ended (of_positions r (blocked r g)) n g.last w (sym same ∙ e)))
      (λ e. by_cases (r.attacking g.last)
      (λ t. near_root-attack n e t ∙ sym (near-attack n (sym same ∙ e) t))
      (λ t. near_root-defence n e t ∙ sym (near-defence n (sym same ∙ e) t)))
