-- Facts that derive from true ones are true, and so are those that a change of the barred repeats keeps.
use Rattle.std.proofs.Common.{◌≡◌, ◌⊎◌, inl, inr, ℕ, suc, ◌+◌, ◌≤◌, List, [], ◌∷◌, ◌++◌, Bool, true, false, Option, Some, None, not, add-one, refl, ap, sym, ◌∙◌, subst, arith}
use Rattle.std.specs.List.{list_any, list_all}
use Rattle.std.proofs.lemmas.Bool.Decides.{nat_tests}
use Rattle.foundation.specs.Member.{Member}
use Rattle.foundation.proofs.Members.{member-append}
use Rattle.rules_model.specs.declared.board.Position.{Position}
use Rattle.rules_model.specs.declared.board.Repeat.{Repeat}
use Rattle.rules_model.specs.declared.board.Side.{Side}
use Rattle.rules_model.specs.declared.moves.Move.{Move}
use Rattle.rules_model.specs.declared.rules.Rules.{Rules}
use Rattle.rules_model.specs.Repeats.{repeat_of}
use Rattle.rules_model.specs.Next.{next}
use Rattle.rules_model.specs.Legal.{legal, own_end}
use Rattle.rules_model.proofs.EqualLaws.{repeat-decides}
use Rattle.forced_wins.specs.declared.fact.Fact.{Fact}
use Rattle.forced_wins.specs.Contests.{Contest}
use Rattle.forced_wins.specs.Games as AnyGame
use Rattle.forced_wins.specs.Views.{won_by, seen_by}
use Rattle.forced_wins.specs.Wins.{near, near_end, is_in, positions}
use Rattle.forced_wins.specs.Facts.{Says, IsTrueFact, covers, serves, ServesMove, Each, larger, smaller, greatest, least, fact_of, EndedLost, OutOfMoves, Derives, won_now, by_move, by_all, refuted_now, refuted_by_all, refuted_by_move, AreDerived, IsGrounded}
use Rattle.forced_wins.proofs.ContestLaws.{any_intro, all_intro}
use Rattle.forced_wins.proofs.Counts.{by_cases, not_true, true_false}
use Rattle.forced_wins.proofs.TableLaws.{both, le_from}
use Rattle.forced_wins.proofs.ClaimLaws as C
use Rattle.forced_wins.proofs.Rules.{laws, near-is, near_end-is}

larger-left : (m n : ℕ) → m ≤ larger m n
larger-left m n = grind (arith, nat_tests)

larger-right : (m n : ℕ) → n ≤ larger m n
larger-right m n = grind (arith, nat_tests)

pub smaller-left : (m n : ℕ) → smaller m n ≤ m
smaller-left m n = grind (arith, nat_tests)

pub smaller-right : (m n : ℕ) → smaller m n ≤ n
smaller-right m n = grind (arith, nat_tests)

capped : (n : ℕ) → smaller (n + 1) 65535 ≡ suc (smaller n 65534)
capped n = grind (arith, nat_tests)

or_own : (o : Option Bool) (b : Bool) → AnyGame.or_end o (AnyGame.lost_if b) ≡ Some true → o ≡ Some true
or_own (Some w) b h = h
or_own None true h = cc
or_own None false h = cc

none_of : {X : Type 0} (f : X → Bool) (xs : List X) → ((x : X) → Member x xs → f x ≡ false) → list_any f xs ≡ false
none_of f [] h = refl
none_of f (x ∷ xs) h = let e = h x (inl refl) in rw (e, none_of f xs (λ y k. h y (inr k)))

one_fails : {X : Type 0} (f : X → Bool) (x : X) (xs : List X) → Member x xs → f x ≡ false → list_all f xs ≡ false
one_fails f x [] k e = absurd k
one_fails f x (y ∷ ys) (inl s) e = let g : f y ≡ false = ap f s ∙ e in rw g
one_fails f x (y ∷ ys) (inr k) e = let g = one_fails f x ys k e in by_cases (f y) (λ t. rw (t, g)) (λ t. rw t)

-- what a query that is served may count on
served_repeat : (k : Fact) (r : Repeat) (c n : ℕ) → serves k r c n ≡ true → k.repeat ≡ r
unfolding serves
served_repeat k r c n h = (repeat-decides k.repeat r).0 (both _ _ h).0

served_covers : (k : Fact) (r : Repeat) (c n : ℕ) → serves k r c n ≡ true → covers k k.wins c n ≡ true
unfolding serves
served_covers k r c n h = (both _ _ h).1

module _ (rules : Rules) (a : Side) where
  near-lower : (barred : List Repeat) (n : ℕ) (p q : Position) → repeat_of q ≡ repeat_of p → q.counter ≤ p.counter → near rules n p barred a ≡ true → near rules n q barred a ≡ true
  near-lower barred n p q e low h = near-is rules n q barred a ∙ C.near-lower (seen_by rules a) (laws rules a) (is_in barred) n p q e low (sym (near-is rules n p barred a) ∙ h)

  near-barred : (more fewer : List Repeat) → ((x : Repeat) → is_in fewer x ≡ true → is_in more x ≡ true) → (n : ℕ) (p : Position) → near rules n p more a ≡ true → near rules n p fewer a ≡ true
  near-barred more fewer f n p h = near-is rules n p fewer a ∙ C.near-barred (seen_by rules a) (laws rules a) (is_in more) (is_in fewer) f n p (sym (near-is rules n p more a) ∙ h)

  pub near-counter : (barred : List Repeat) (n : ℕ) (p q : Position) → repeat_of q ≡ repeat_of p → q.counter ≤ p.counter → near rules n p barred a ≡ true → near rules n q barred a ≡ true
  near-counter = near-lower

  pub near-more : (barred : List Repeat) (k n : ℕ) (p : Position) → k ≤ n → near rules k p barred a ≡ true → near rules n p barred a ≡ true
  near-more barred k n p h f = C.forced-mono (positions rules barred a) (laws rules a).turns k n p h f

  -- ---- facts that a change of the barred repeats keeps

  pub kept-won : (old new : List Repeat) (f : Fact) → f.wins ≡ true → ((x : Repeat) → is_in new x ≡ true → is_in old x ≡ true) → IsTrueFact rules old a f → IsTrueFact rules new a f
  kept-won old new f w sub h =
      subst (Says rules new a f) (sym w) (λ q e low. near-barred old new sub f.moves q ((subst (Says rules old a f) w h) q e low))

  pub kept-refuted : (old new : List Repeat) (f : Fact) → f.wins ≡ false → ((x : Repeat) → is_in old x ≡ true → is_in new x ≡ true) → IsTrueFact rules old a f → IsTrueFact rules new a f
  kept-refuted old new f w sub h =
      subst (Says rules new a f) (sym w) (λ q e low.
      not_true (near rules f.moves q new a) (λ t. true_false _ (near-barred new old sub f.moves q t) ((subst (Says rules old a f) w h) q e low)))

module _ (rules : Rules) (barred : List Repeat) (a : Side) (known : List Fact) (all_true : (k : Fact) → Member k known → IsTrueFact rules barred a k) (p : Position) where
  -- a fact about p, from what holds at p itself
  says_won : (n : ℕ) (best : Option Move) → near rules n p barred a ≡ true → IsTrueFact rules barred a (fact_of p a n best true)
  says_won n best h q e low = near-lower rules a barred n p q e low h

  says_lost : (n : ℕ) (best : Option Move) → near rules n p barred a ≡ false → IsTrueFact rules barred a (fact_of p a n best false)
  says_lost n best h q e low = not_true (near rules n q barred a) (λ k. true_false _ (near-lower rules a barred n q p (sym e) low k) h)

  served : (m : Move) (wins : Bool) (k : Fact) → ServesMove rules p m wins k → Member k known → near rules k.moves (next rules p m) barred a ≡ wins
  served m true k s is =
      let r = served_repeat k _ _ _ s.serves in
      let c = subst (λ w. covers k w (next rules p m).counter k.moves ≡ true) s.kind (served_covers k _ _ _ s.serves) in
      subst (Says rules barred a k) s.kind (all_true k is) (next rules p m) (sym r) (le_from _ _ (both _ _ c).1)
  served m false k s is =
      let r = served_repeat k _ _ _ s.serves in
      let c = subst (λ w. covers k w (next rules p m).counter k.moves ≡ true) s.kind (served_covers k _ _ _ s.serves) in
      subst (Says rules barred a k) s.kind (all_true k is) (next rules p m) (sym r) (le_from _ _ (both _ _ c).1)

  abbrev G : Contest Position Move
  G = positions rules barred a

  turns : (q : Position) (m : Move) → G.attacking (G.after q m) ≡ not (G.attacking q)
  turns = (laws rules a).turns

  -- the known fact for a move
  fact_for : (wins : Bool) (ms : List Move) (ks : List Fact) → Each rules p wins known ms ks → (m : Move) → Member m ms → (k : Fact) × Member k known × ServesMove rules p m wins k × (k.moves ≤ greatest ks) × (least ks ≤ k.moves)
  fact_for wins [] ks e m is = absurd is
  fact_for wins (x ∷ ms) [] e m is = absurd e
  fact_for wins (x ∷ ms) (k ∷ ks) e m (inl s) = (k, e.1, subst (λ y. ServesMove rules p y wins k) s e.0, larger-left k.moves (greatest ks), smaller-left k.moves (least ks))
  fact_for wins (x ∷ ms) (k ∷ ks) e m (inr is) =
      let u = fact_for wins ms ks e.2 m is in
      let high = u.3 in
      let low = u.4 in
      let g = larger-right k.moves (greatest ks) in
      let h = smaller-right k.moves (least ks) in
      (u.0, u.1, u.2, omega arith, omega arith)

  own_won : near_end rules barred a p ≡ Some true → won_by a (own_end rules (repeat_of p)) ≡ Some true
  own_won h = or_own _ _ (sym (near_end-is rules barred a p) ∙ h)

  pub derived-true : (f : Fact) → Derives rules barred a known p f → IsTrueFact rules barred a f
  derived-true f (won_now d) =
      subst (IsTrueFact rules barred a) (sym d.is) (λ q e low. near-is rules 0 q barred a ∙ C.won_now (seen_by rules a) (laws rules a) (is_in barred) p 9999 (own_won d.won) q e low)
  derived-true f (by_move d) =
      let won = served d.move true d.fact d.serves d.listed in
      let more = add-one d.fact.moves in
      subst (IsTrueFact rules barred a) (sym d.is) (says_won (d.fact.moves + 1) (Some d.move)
      (ap (λ n. near rules n p barred a) more ∙ C.forced-attack G turns d.fact.moves p d.ongoing d.turn ∙ any_intro (λ m. near rules d.fact.moves (next rules p m) barred a) d.move (legal rules (repeat_of p)) d.legal_move won))
  derived-true f (by_all d) =
      subst (IsTrueFact rules barred a) (sym d.is) (says_won (greatest d.facts) None
      (C.forced-defence G turns (greatest d.facts) p d.ongoing d.turn ∙ all_intro (λ m. near rules (greatest d.facts) (next rules p m) barred a) (legal rules (repeat_of p)) (λ m is.
      let u = fact_for true (legal rules (repeat_of p)) d.facts d.each m is in
      C.forced-mono G turns u.0.moves (greatest d.facts) (next rules p m) u.3 (served m true u.0 u.2 u.1))))
  derived-true f (refuted_now d) = now d.is
    where
      now : EndedLost rules barred a p f ⊎ OutOfMoves rules barred a p f → IsTrueFact rules barred a f
      now (inl e) = subst (IsTrueFact rules barred a) (sym e.1) (says_lost 65535 None (C.forced-ended G 65535 p false e.0))
      now (inr e) = subst (IsTrueFact rules barred a) (sym e.2) (says_lost 0 None (C.forced-zero G p e.0 e.1))
  derived-true f (refuted_by_all d) =
      let n = smaller (least d.facts) 65534 in
      let size : smaller (least d.facts + 1) 65535 ≡ suc n = capped (least d.facts) in
      subst (IsTrueFact rules barred a) (sym d.is) (says_lost (smaller (least d.facts + 1) 65535) None
      (ap (λ n. near rules n p barred a) size ∙ C.forced-attack G turns n p d.ongoing d.turn ∙ none_of (λ m. near rules n (next rules p m) barred a) (legal rules (repeat_of p)) (λ m is.
      let u = fact_for false (legal rules (repeat_of p)) d.facts d.each m is in
      let lost = served m false u.0 u.2 u.1 in
      let low = smaller-left (least d.facts) 65534 in
      let high = u.4 in
      not_true (near rules n (next rules p m) barred a) (λ h. let w = C.forced-mono G turns n u.0.moves (next rules p m) (omega arith) h in true_false _ w lost))))
  derived-true f (refuted_by_move d) =
      subst (IsTrueFact rules barred a) (sym d.is) (says_lost d.fact.moves (Some d.move)
      (C.forced-defence G turns d.fact.moves p d.ongoing d.turn ∙ one_fails (λ m. near rules d.fact.moves (next rules p m) barred a) d.move (legal rules (repeat_of p)) d.legal_move (served d.move false d.fact d.serves d.listed)))

-- ---- grounded facts

module _ (rules : Rules) (barred : List Repeat) (a : Side) (known : List Fact) (all_true : (k : Fact) → Member k known → IsTrueFact rules barred a k) where
  derived_all : (fs : List Fact) → AreDerived rules barred a known fs → (k : Fact) → Member k fs → IsTrueFact rules barred a k
  derived_all [] d k is = absurd is
  derived_all (f ∷ fs) d k (inl e) =
      subst (IsTrueFact rules barred a) e (derived-true rules barred a (fs ++ known) (λ j m.
      elim (member-append j fs known m) as (λ _. IsTrueFact rules barred a j) [ inl i ↦ derived_all fs d.1 j i | inr i ↦ all_true j i ]) d.0.0 f d.0.1)
  derived_all (f ∷ fs) d k (inr is) = derived_all fs d.1 k is

  pub grounded-true : (f : Fact) → IsGrounded rules barred a known f → IsTrueFact rules barred a f
  grounded-true f d = derived_all (f ∷ d.0) d.1 f (inl refl)
