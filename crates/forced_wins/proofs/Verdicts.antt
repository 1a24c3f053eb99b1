-- The verdict Wins says that no fault stands in the table.
use Rattle.std.proofs.Common.{◌≡◌, ℕ, zero, suc, ◌+◌, List, [], ◌∷◌, Bool, true, false, Option, Some, None, not, ◌&&◌, slice_get, refl, subst, arith}
use Rattle.forced_wins.specs.Games.{Game, Story}
use Rattle.forced_wins.specs.Tables.{Accessors, Verdict, Wins, Root, WrongMove, MissingReply, BadRank, BadCounter, Repeats, NotWon, or_verdict, fault_if, missing, node_verdict, nodes_verdict, verdict, IsGood, IsFaultless, AreFaultless}

or_wins : {M : Type 0} (u v : Verdict M) → or_verdict u v ≡ Wins → (u ≡ Wins) × (v ≡ Wins)
or_wins Wins v h = (refl, h)
or_wins Root v h = cc
or_wins (WrongMove i) v h = cc
or_wins (MissingReply i m) v h = cc
or_wins (BadRank i) v h = cc
or_wins (BadCounter i) v h = cc
or_wins (Repeats i) v h = cc
or_wins (NotWon i) v h = cc

no_fault : {M : Type 0} (b : Bool) (v : Verdict M) → (v ≡ Wins → ⊥) → fault_if b v ≡ Wins → b ≡ false
no_fault true v f h = absurd (f h)
no_fault false v f h = refl

none_missing : {M : Type 0} (i : ℕ) (o : Option M) → missing i o ≡ Wins → o ≡ None
none_missing i None h = refl
none_missing i (Some m) h = cc

both : (a b : Bool) → not (a && b) ≡ false → (a ≡ true) × (b ≡ true)
both true true h = (refl, refl)
both true false h = cc
both false b h = cc

root_faults : {M : Type 0} → ◌≡◌ {A = Verdict M} Root Wins → ⊥
root_faults e = cc

none_added : (i : ℕ) → 0 + i ≡ i
none_added i = omega arith

module _ {P R M N E : Type 0} (r : Game P R M) (tb : Accessors P M N E) (s : List N) (g : Story P) where
  faultless : (i : ℕ) (v : N) → node_verdict r tb s g i v ≡ Wins → IsFaultless P R M N E r tb s g i v
  unfolding node_verdict
  faultless i v h =
      let a = or_wins _ _ h in
      let b = or_wins _ _ a.1 in
      let c = or_wins _ _ b.1 in
      let d = or_wins _ _ c.1 in
      let e = or_wins _ _ d.1 in
      record {
        wrong_move = no_fault _ (WrongMove i) (λ x. cc) a.0;
        missing_reply = none_missing i _ b.0;
        bad_rank = no_fault _ (BadRank i) (λ x. cc) c.0;
        bad_counter = no_fault _ (BadCounter i) (λ x. cc) d.0;
        repeats = no_fault _ (Repeats i) (λ x. cc) e.0;
        not_won = no_fault _ (NotWon i) (λ x. cc) e.1;
      }

  faultless-node : (i : ℕ) (v : N) → IsFaultless P R M N E r tb s g i v → node_verdict r tb s g i v ≡ Wins
  unfolding node_verdict
  faultless-node i v f = rw (f.wrong_move, f.missing_reply, f.bad_rank, f.bad_counter, f.repeats, f.not_won)

  all_faultless : (k : ℕ) (vs : List N) → nodes_verdict r tb s g k vs ≡ Wins → (i : ℕ) (v : N) → slice_get vs i ≡ Some v → IsFaultless P R M N E r tb s g (k + i) v
  unfolding nodes_verdict
  all_faultless k [] h i v at = cc
  all_faultless k (w ∷ vs) h zero v at =
      let e : w ≡ v = cc in
      let z : k ≡ k + zero = omega arith in
      subst (λ j. IsFaultless P R M N E r tb s g j v) z (subst (IsFaultless P R M N E r tb s g k) e (faultless k w (or_wins _ _ h).0))
  all_faultless k (w ∷ vs) h (suc i) v at =
      let z : suc k + i ≡ k + suc i = omega arith in
      subst (λ j. IsFaultless P R M N E r tb s g j v) z (all_faultless (suc k) vs (or_wins _ _ h).1 i v at)

  none_at_all : (k : ℕ) (vs : List N) → ((i : ℕ) (v : N) → slice_get vs i ≡ Some v → IsFaultless P R M N E r tb s g (k + i) v) → nodes_verdict r tb s g k vs ≡ Wins
  unfolding nodes_verdict
  none_at_all k [] f = refl
  none_at_all k (w ∷ vs) f =
      let z : k + zero ≡ k = omega arith in
      let first : node_verdict r tb s g k w ≡ Wins = faultless-node k w (subst (λ j. IsFaultless P R M N E r tb s g j w) z (f zero w refl)) in
      let rest = none_at_all (suc k) vs (λ i v at. let e : k + suc i ≡ suc k + i = omega arith in subst (λ j. IsFaultless P R M N E r tb s g j v) e (f (suc i) v at)) in
      rw (first, rest)

  pub verdict-faultless : (is_for : Bool) (n : ℕ) → IsGood r tb is_for s g n → (is_for ≡ true) × AreFaultless P R M N E r tb s g n
  unfolding verdict
  verdict-faultless is_for n h =
      let k = or_wins _ _ h in
      let root = both is_for _ (no_fault _ Root root_faults k.0) in
      (root.0, record { root = root.1; nodes = λ i v at. subst (λ j. IsFaultless P R M N E r tb s g j v) (none_added i) (all_faultless 0 s k.1 i v at) })

  pub faultless-verdict : (n : ℕ) → AreFaultless P R M N E r tb s g n → IsGood r tb true s g n
  unfolding verdict
  faultless-verdict n f =
      let root = f.root in
      let rest = none_at_all 0 s (λ i v at. subst (λ j. IsFaultless P R M N E r tb s g j v) (let e : i ≡ 0 + i = omega arith in e) (f.nodes i v at)) in
      rw (root, rest)
