-- All moves to the squares of a set, each as it is made of its square, as a list, and how many of them pass a test.
use Rattle.std.proofs.Common.{◌≡◌, ℕ, zero, suc, ◌+◌, ◌<◌, Bool, true, false, ◌&&◌, if◌then◌else◌, List, [], ◌∷◌, length, inl, inr, refl, sym, ap, ◌∙◌, subst, arith}
use Rattle.std.specs.List.{filter}
use Rattle.foundation.specs.Member.{Member, IsEachOnce, Lists}
use Rattle.rules_model.specs.declared.board.Square.{Square}
use Rattle.rules_model.specs.declared.moves.Move.{Move}
use Rattle.square_set.specs.declared.Set.{Set}
use Rattle.square_set.specs.Members.{has, count_below, size}
use Rattle.square_set.proofs.Cases.{by_equal}
use Rattle.square_set.proofs.CountLaws.{count_below-zero, count_below-suc}
use Rattle.piece_moves.specs.InTurn.{MadeTo, target_of}
use Rattle.legality.specs.Chosen.{AreTargetsOf}

module _ (make : Square → Move) (targets : Set) where
  abbrev pub made : ℕ → Move
  made to = make (record { 0 = to })

  -- those to the squares below n
  unfoldable pub made_below : ℕ → List Move
  made_below zero = []
  made_below (suc n) = if has targets n then made n ∷ made_below n else made_below n

  -- ---- which they are

  module _ (goes_there : (to : Square) → target_of (make to) ≡ to.0) where
    -- a move to a square of the set, below n
    abbrev MadeBelow : ℕ → Move → Type 0
    MadeBelow n m = MadeTo make targets m × (target_of m < n)

    later : (n : ℕ) (m : Move) → MadeBelow n m → MadeBelow (suc n) m
    later n m h = (h.0, omega (arith, h.1))

    made_there : (n : ℕ) → target_of (made n) ≡ n
    made_there n = goes_there (record { 0 = n })

    last_made : (n : ℕ) → has targets n ≡ true → MadeBelow (suc n) (made n)
    last_made n e =
        let there = made_there n in ((ap made there, ap (has targets) there ∙ e), omega (arith, there))

    one_sound : (n : ℕ) (m : Move) (xs : List Move) (b : Bool) → has targets n ≡ b → ((x : Move) → Member x xs → MadeBelow n x) → Member m (if b then made n ∷ xs else xs) → MadeBelow (suc n) m
    one_sound n m xs true e h (inl f) = subst (MadeBelow (suc n)) f (last_made n e)
    one_sound n m xs true e h (inr k) = later n m (h m k)
    one_sound n m xs false e h k = later n m (h m k)

    made-sound : (n : ℕ) (m : Move) → Member m (made_below n) → MadeBelow n m
    unfolding made_below
    made-sound zero m h = absurd h
    made-sound (suc n) m h = one_sound n m (made_below n) (has targets n) refl (made-sound n) h

    behind : (m x : Move) (xs : List Move) (b : Bool) → Member m xs → Member m (if b then x ∷ xs else xs)
    behind m x xs true h = inr h
    behind m x xs false h = h

    first : (m x : Move) (xs : List Move) (b : Bool) → b ≡ true → x ≡ m → Member m (if b then x ∷ xs else xs)
    first m x xs true e f = inl f
    first m x xs false e f = cc

    made-complete : (n : ℕ) (m : Move) → MadeBelow n m → Member m (made_below n)
    unfolding made_below
    made-complete zero m h = absurd (omega (arith, h.1))
    made-complete (suc n) m h =
        by_equal (target_of m) n (Member m (if has targets n then made n ∷ made_below n else made_below n))
        (λ q e. first m (made n) (made_below n) (has targets n) (ap (has targets) (sym e) ∙ h.0.1) (ap made (sym e) ∙ h.0.0))
        (λ q e. behind m (made n) (made_below n) (has targets n) (made-complete n m (h.0, omega (arith, h.1, e))))

    one_once : (n : ℕ) (xs : List Move) (b : Bool) → ((x : Move) → Member x xs → MadeBelow n x) → IsEachOnce xs → IsEachOnce (if b then made n ∷ xs else xs)
    one_once n xs true h o = ((λ k. let l = (h (made n) k).1 in let there = made_there n in absurd (omega (arith, l, there))), o)
    one_once n xs false h o = o

    made-once : (n : ℕ) → IsEachOnce (made_below n)
    unfolding made_below
    made-once zero = tt
    made-once (suc n) = one_once n (made_below n) (has targets n) (made-sound n) (made-once n)

    -- ---- all of them

    pub made-lists : ((s : ℕ) → has targets s ≡ true → s < 128) → Lists (MadeTo make targets) (made_below 128)
    made-lists small = record {
      once = made-once 128;
      sound = λ m h. (made-sound 128 m h).0;
      complete = λ m h. made-complete 128 m (h, small (target_of m) h.1);
    }

  -- ---- those that pass a test

  passed : (test : Move → Bool) (b q : Bool) (x : Move) (xs : List Move) (k : ℕ) → test x ≡ q → length (filter test xs) ≡ k → length (filter test (if b then x ∷ xs else xs)) ≡ k + (if b && q then 1 else 0)
  passed test true true x xs k e f = rw e (omega (arith, f))
  passed test true false x xs k e f = rw e (omega (arith, f))
  passed test false q x xs k e f = omega (arith, f)

  made-passed : (test : Move → Bool) (those : Set) → AreTargetsOf test make targets those → (n : ℕ) → length (filter test (made_below n)) ≡ count_below (has those) n
  unfolding made_below
  made-passed test those are zero = sym (count_below-zero (has those))
  made-passed test those are (suc n) =
      passed test (has targets n) (test (made n)) (made n) (made_below n) (count_below (has those) n) refl (made-passed test those are n)
      ∙ ap (λ b. count_below (has those) n + (if b then 1 else 0)) (sym (are (record { 0 = n })))
      ∙ sym (count_below-suc (has those) n)

  pub made-those : (test : Move → Bool) (those : Set) → AreTargetsOf test make targets those → length (filter test (made_below 128)) ≡ size those
  made-those test those are = made-passed test those are 128
