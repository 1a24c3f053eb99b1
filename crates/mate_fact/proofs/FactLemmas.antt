-- That the facts which are made are true.
use Rattle.std.proofs.Common.{◌≡◌, inl, inr, ℕ, suc, ◌+◌, ◌≤◌, List, [], ◌∷◌, Bool, true, false, Option, Some, None, min, max, refl, ap, sym, ◌∙◌, subst, arith}
use Rattle.std.specs.List.{fold, list_all, list_any}
use Rattle.std.proofs.lemmas.Bool.Decides.{nat_tests}
use Rattle.foundation.specs.Member.{Member}
use Rattle.rules_model.specs.declared.board.Position.{Position}
use Rattle.rules_model.specs.declared.moves.Move.{Move}
use Rattle.rules_model.specs.Next.{next}
use Rattle.forced_wins.specs.declared.fact.Fact.{Fact}
use Rattle.forced_wins.specs.Contests.{Contest}
use Rattle.forced_wins.specs.Facts.{greatest, least, larger, smaller, fact_of}
use Rattle.forced_wins.specs.Wins.{positions}
use Rattle.forced_wins.proofs.ClaimLaws as C
use Rattle.forced_wins.proofs.ContestLaws.{all_intro, any_intro}
use Rattle.forced_wins.proofs.Counts.{not_true, true_false}
use Rattle.forced_wins.proofs.FactLaws.{derived-true, near-counter, smaller-left}
use Rattle.forced_wins.proofs.Rules.{laws}
use Rattle.forced_wins.proofs.TableLaws.{all_member}
use Rattle.mate_core.specs.declared.frame.Frame.{Frame}
use Rattle.mate_core.specs.Runs.{IsTrueIn}
use Rattle.mate_fact.specs.InFrame as In

-- ---- the most and the fewest moves

most_step : (a k g : ℕ) → max (max a k) g ≡ max a (larger k g)
most_step a k g = grind (arith, nat_tests)

most_all : (ks : List Fact) (a : ℕ) → fold (λ far k. max far k.moves) a ks ≡ max a (greatest ks)
most_all [] a = grind (arith, nat_tests)
most_all (k ∷ ks) a = most_all ks (max a k.moves) ∙ most_step a k.moves (greatest ks)

pub fold-greatest : (ks : List Fact) → fold (λ far k. max far k.moves) 0 ks ≡ greatest ks
fold-greatest ks = most_all ks 0 ∙ grind (arith, nat_tests)

fewest_step : (a k g : ℕ) → min (min a k) g ≡ min a (smaller k g)
fewest_step a k g = grind (arith, nat_tests)

fewest_all : (ks : List Fact) (a : ℕ) → a ≤ 65535 → fold (λ far k. min far k.moves) a ks ≡ min a (least ks)
fewest_all [] a h = grind (arith, nat_tests)
fewest_all (k ∷ ks) a h = fewest_all ks (min a k.moves) (omega arith) ∙ fewest_step a k.moves (least ks)

least_small : (ks : List Fact) → least ks ≤ 65535
least_small [] = omega arith
least_small (k ∷ ks) = let h = least_small ks in grind (arith, nat_tests, h)

pub fold-least : (ks : List Fact) → fold (λ far k. min far k.moves) 65535 ks ≡ least ks
fold-least ks = let h = least_small ks in fewest_all ks 65535 (omega arith) ∙ grind (arith, nat_tests, h)

module _ (f : Frame) (p : Position) where
  -- what derives from one true fact, or from a list of them
  pub truth-of : (k : Fact) (x : Fact) → In.DerivesIn f (k ∷ []) p x → IsTrueIn f k → IsTrueIn f x
  truth-of k x d t = derived-true f.rules f.blocked f.attacker (k ∷ []) all p x d
    where
      all : (j : Fact) → Member j (k ∷ []) → IsTrueIn f j
      all j (inl e) = subst (IsTrueIn f) e t
      all j (inr n) = absurd n

  pub truth-passes : (ks : List Fact) (x : Fact) → In.DerivesIn f ks p x → In.TruthPasses f ks x
  truth-passes ks x d all = derived-true f.rules f.blocked f.attacker ks all p x d

  -- an end says it alone
  pub truth-now : (x : Fact) → In.DerivesIn f [] p x → IsTrueIn f x
  truth-now x d = derived-true f.rules f.blocked f.attacker [] (λ j n. absurd n) p x d

  -- ---- from what is known of each move

  abbrev G : Contest Position Move
  G = positions f.rules f.blocked f.attacker

  none_of : (g : Move → Bool) (ms : List Move) → ((m : Move) → Member m ms → g m ≡ false) → list_any g ms ≡ false
  none_of g [] h = refl
  none_of g (m ∷ ms) h = let e = h m (inl refl) in rw (e, none_of g ms (λ y k. h y (inr k)))

  says_won : (n : ℕ) (best : Option Move) → In.near_in f n p ≡ true → IsTrueIn f (fact_of p f.attacker n best true)
  says_won n best h = λ q e low. near-counter f.rules f.attacker f.blocked n p q e low h

  says_lost : (n : ℕ) (best : Option Move) → In.near_in f n p ≡ false → IsTrueIn f (fact_of p f.attacker n best false)
  says_lost n best h = λ q e high.
      not_true (In.near_in f n q) (λ t. true_false _ (near-counter f.rules f.attacker f.blocked n q p (sym e) high t) h)

  pub won-within : (n : ℕ) → In.IsDefenceIn f p
      → ((m : Move) → Member m (In.legal_in f p) → In.near_in f n (next f.rules p m) ≡ true)
      → IsTrueIn f (fact_of p f.attacker n None true)
  won-within n d won =
      says_won n None
      (C.forced-defence G (laws f.rules f.attacker).turns n p d.ongoing d.turn
      ∙ all_intro (λ m. In.near_in f n (next f.rules p m)) (In.legal_in f p) won)

  capped : (n : ℕ) → smaller (n + 1) 65535 ≡ suc (smaller n 65534)
  capped n = grind (arith, nat_tests)

  pub refuted-within : (n : ℕ) → In.IsAttackIn f p
      → ((m : Move) → Member m (In.legal_in f p) → In.near_in f n (next f.rules p m) ≡ false)
      → IsTrueIn f (fact_of p f.attacker (smaller (n + 1) 65535) None false)
  refuted-within n d lost =
      let k = smaller n 65534 in
      let low = smaller-left n 65534 in
      says_lost (smaller (n + 1) 65535) None
      (ap (λ z. In.near_in f z p) (capped n)
      ∙ C.forced-attack G (laws f.rules f.attacker).turns k p d.ongoing d.turn
      ∙ none_of (λ m. In.near_in f k (next f.rules p m)) (In.legal_in f p) (λ m is.
      not_true (In.near_in f k (next f.rules p m)) (λ t.
      true_false _ (C.forced-mono G (laws f.rules f.attacker).turns k n (next f.rules p m) low t) (lost m is))))

  -- ---- from what is known of one move

  pub won-by : (n : ℕ) (m : Move) → In.IsAttackIn f p → Member m (In.legal_in f p) → In.near_in f n (next f.rules p m) ≡ true
      → IsTrueIn f (fact_of p f.attacker (n + 1) (Some m) true)
  won-by n m d is won =
      let more : n + 1 ≡ suc n = omega arith in
      says_won (n + 1) (Some m)
      (ap (λ z. In.near_in f z p) more
      ∙ C.forced-attack G (laws f.rules f.attacker).turns n p d.ongoing d.turn
      ∙ any_intro (λ x. In.near_in f n (next f.rules p x)) m (In.legal_in f p) is won)

  pub refuted-by : (n : ℕ) (m : Move) → In.IsDefenceIn f p → Member m (In.legal_in f p) → In.near_in f n (next f.rules p m) ≡ false
      → IsTrueIn f (fact_of p f.attacker n (Some m) false)
  refuted-by n m d is lost =
      let won : Move → Bool = λ x. In.near_in f n (next f.rules p x) in
      let fails : list_all won (In.legal_in f p) ≡ false = not_true (list_all won (In.legal_in f p)) (λ t. true_false _ (all_member won (In.legal_in f p) t m is) lost) in
      says_lost n (Some m) (C.forced-defence G (laws f.rules f.attacker).turns n p d.ongoing d.turn ∙ fails)
