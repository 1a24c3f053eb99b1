-- First moves that win.
use Rattle.std.proofs.Common.{◌≡◌, ◌∙◌, ◌+◌, ◌-◌, ◌*◌, ◌<◌, ◌≤◌, ℕ, zero, suc, arith, Bool, true, false, not, Option, Some, None, inl, inr, refl, sym, ap, subst, nat_lt, nat_le, length, ◌==◌, ◌&&◌, if◌then◌else◌}
use Rattle.std.proofs.lemmas.Bool.{eqb-true, le-ltb, leb-false, lt-ltb, ltb-false}
use Rattle.foundation.specs.Count.{first_below, or_else}
use Rattle.rules_model.specs.declared.moves.Move.{Move}
use Rattle.rules_model.specs.declared.moves.Outcome.{Outcome}
use Rattle.rules_model.specs.declared.moves.Outcome.TheVariants.{Ongoing, Won, Drawn}
use Rattle.rules_model.specs.declared.rules.Rules.{Rules}
use Rattle.rules_model.specs.Ends.{is_ongoing}
use Rattle.rules_model.specs.Games.{Story, played, result}
use Rattle.rules_model.specs.Repeats.{repeat_of}
use Rattle.rules_model.proofs.PlayLaws.{next-counter, next_counter-up}
use Rattle.forced_wins.specs.Wins.{IsInLimit}
use Rattle.game_play.specs.Played.{Played, story}
use Rattle.mate_search.specs.Least.{IsFirstWithin, first_within, if_passes, is_counted, or_later}
use Rattle.mate_search.proofs.LeastLaws.{first-is}
use Rattle.suite.specs.declared.keys_fault.KeysFault.{KeysFault}
use Rattle.suite.specs.declared.keys_fault.KeysFault.TheVariants.{NearCount, Ended, TooLong}
use Rattle.suite.specs.FirstMoves.{fault_of, most_plies}

-- ---- from 0 on

or_more : (o : Option ℕ) (b : Bool) (n : ℕ) (p : Option ℕ) → or_else (or_later p o) b n ≡ or_later p (or_later o (if b then Some n else None))
or_more o b n (Some k) = refl
or_more (Some k) b n None = refl
or_more None b n None = refl

none-later : (o : Option ℕ) → o ≡ or_later o None
none-later (Some k) = refl
none-later None = refl

module _ (test : ℕ → Bool) where
  -- the first number from 0 to n that passes is 0, or else the first from 1 to n
  pub from-zero : (n : ℕ) → first_below test (suc n) ≡ or_later (if_passes test 0) (first_within test n)
  unfolding first_below
  from-zero zero = none-later (if_passes test 0)
  from-zero (suc n) =
      ap (λ o. or_else o (test (suc n)) (suc n)) (from-zero n)
      ∙ or_more (first_within test n) (test (suc n)) (suc n) (if_passes test 0)

  pub first-zero : (n : ℕ) → 1 ≤ n → test 0 ≡ true → first_below test n ≡ Some 0
  first-zero zero some passes = absurd (omega (arith, some))
  first-zero (suc n) some passes = from-zero n ∙ ap (λ b. or_later (if b then Some 0 else None) (first_within test n)) passes

  pub first-later : (n : ℕ) → 1 ≤ n → test 0 ≡ false → first_below test n ≡ first_within test (n - 1)
  first-later zero some fails = absurd (omega (arith, some))
  first-later (suc n) some fails =
      let back : suc n - 1 ≡ n = omega arith in
      from-zero n
      ∙ ap (λ b. or_later (if b then Some 0 else None) (first_within test n)) fails
      ∙ sym (ap (first_within test) back)

-- ---- the counter after a move

pub limit-after : (rules : Rules) (g : Story) (m : Move) (n : ℕ) → 1 ≤ n → IsInLimit rules n g
    → IsInLimit rules (n - 1) (played rules g m)
limit-after rules g m n some (inl off) = inl off
limit-after rules g m n some (inr low) =
    let same = next-counter rules g.last m in
    let up = next_counter-up rules (repeat_of g.last) m g.last.counter in
    inr (omega (arith, some, low, same, up))

-- ---- the least number is in its range

pub within : (test : ℕ → Bool) (n k : ℕ) → first_within test n ≡ Some k → k ≤ n
within test n k is = (subst (IsFirstWithin test n) is (first-is test n)).within

-- ---- why a game is not asked

over : (o : Outcome) → (o ≡ Ongoing → ⊥) → is_ongoing o ≡ false
over Ongoing differs = absurd (differs refl)
over (Won side cause) differs = refl
over (Drawn cause) differs = refl

abbrev chosen : Bool → Bool → Bool → Option KeysFault
chosen ongoing counted long =
    if not ongoing then Some Ended else if counted then Some NearCount else if long then Some TooLong else None

module _ (n : ℕ) (g : Played) where
  by : (ongoing counted long : Bool) → is_ongoing (result g.rules (story g)) ≡ ongoing
      → is_counted g.rules n (story g).last ≡ counted → nat_lt most_plies (length g.moves) ≡ long
      → fault_of n g ≡ chosen ongoing counted long
  unfolding fault_of
  by ongoing counted long a b c = λ i. chosen (a i) (b i) (c i)

  pub fault-ended : (result g.rules (story g) ≡ Ongoing → ⊥) → Some Ended ≡ fault_of n g
  fault-ended differs = sym (by false _ _ (over (result g.rules (story g)) differs) refl refl)

  pub fault-near : result g.rules (story g) ≡ Ongoing → is_counted g.rules n (story g).last ≡ true
      → Some NearCount ≡ fault_of n g
  fault-near ongoing counted = sym (by true true _ (ap is_ongoing ongoing) counted refl)

  pub fault-long : result g.rules (story g) ≡ Ongoing → is_counted g.rules n (story g).last ≡ false
      → most_plies < length g.moves → Some TooLong ≡ fault_of n g
  fault-long ongoing counted long =
      sym (by true false true (ap is_ongoing ongoing) counted (lt-ltb most_plies (length g.moves) long))

  pub fault-none : result g.rules (story g) ≡ Ongoing → is_counted g.rules n (story g).last ≡ false
      → length g.moves ≤ most_plies → None ≡ fault_of n g
  fault-none ongoing counted short =
      sym (by true false false (ap is_ongoing ongoing) counted (le-ltb most_plies (length g.moves) short))

  -- a game that is asked
  asked : (ongoing counted long : Bool) → None ≡ chosen ongoing counted long → (counted ≡ false) × (long ≡ false)
  asked false counted long none = absurd (cc)
  asked true true long none = absurd (cc)
  asked true false true none = absurd (cc)
  asked true false false none = (refl, refl)

  parts : None ≡ fault_of n g → (is_counted g.rules n (story g).last ≡ false) × (nat_lt most_plies (length g.moves) ≡ false)
  parts none =
      asked (is_ongoing (result g.rules (story g))) (is_counted g.rules n (story g).last) (nat_lt most_plies (length g.moves))
      (none ∙ by _ _ _ refl refl refl)

  pub has-room : None ≡ fault_of n g → length g.moves ≤ most_plies
  has-room none = ltb-false most_plies (length g.moves) (parts none).1

  free : (off counts : Bool) → (g.rules.n_move == 0) ≡ off
      → nat_le (2 * g.rules.n_move) ((story g).last.counter + 2 * n) ≡ counts → (not off && counts) ≡ false
      → IsInLimit g.rules n (story g)
  free true counts is le none = inl (eqb-true g.rules.n_move 0 is)
  free false true is le none = absurd (cc)
  free false false is le none = inr (leb-false (2 * g.rules.n_move) ((story g).last.counter + 2 * n) le)

  pub in-limit : None ≡ fault_of n g → IsInLimit g.rules n (story g)
  in-limit none = free _ _ refl refl (parts none).0
