-- Moves after which the game goes on.
use Rattle.std.proofs.Common.{◌≡◌, ◌⊎◌, inl, inr, ℕ, ◌+◌, ◌*◌, ◌<◌, ◌≤◌, ◌==◌, nat_le, nat_lt, Bool, true, false, not, ◌&&◌, if◌then◌else◌, [], ◌∷◌, refl, arith}
use Rattle.std.proofs.lemmas.Bool.Decides.{nat_tests}
use Rattle.std.proofs.lemmas.List.Sums.{count_by-le-length}
use Rattle.rules_model.specs.declared.board.Position.{Position}
use Rattle.rules_model.specs.declared.board.Repeat.{Repeat}
use Rattle.rules_model.specs.declared.moves.Move.{Move}
use Rattle.rules_model.specs.declared.moves.Outcome.TheVariants.{Ongoing}
use Rattle.rules_model.specs.declared.rules.Rules.{Rules}
use Rattle.rules_model.specs.Ends.{early_end}
use Rattle.rules_model.specs.Games.{Story, history, is_repeated, is_run_out, played, result, same_repeat, times}
use Rattle.rules_model.specs.Legal.{is_stuck, own_end}
use Rattle.rules_model.specs.Next.{next, resets, risen}
use Rattle.rules_model.specs.Repeats.{repeat_of}
use Rattle.game_line.proofs.LineLaws.{times-append}

-- ---- repetitions

times-one : (r : Repeat) (p : Position) → times r (p ∷ []) ≤ 1
unfolding times
times-one r p = count_by-le-length (λ (q : Position). same_repeat (repeat_of q) r) (p ∷ [])

too_few : (fold n : ℕ) → (fold ≡ 0) ⊎ (n < fold) → (not (fold == 0) && nat_le fold n) ≡ false
too_few fold n (inl none) = rw none refl
too_few fold n (inr less) =
    let no : nat_le fold n ≡ false = grind (arith, nat_tests) in
    right (not (fold == 0)) no
  where
    right : (a : Bool) → nat_le fold n ≡ false → (a && nat_le fold n) ≡ false
    right true e = e
    right false e = refl

module _ (rules : Rules) (s : Story) (m : Move) where
  -- what stood once at most stands no more than twice
  pub none_repeats : (rules.n_fold ≡ 0) ⊎ ((3 ≤ rules.n_fold) × ((r : Repeat) → times r (history s) ≤ 1))
      → is_repeated rules (played rules s m) ≡ false
  unfolding is_repeated
  none_repeats (inl none) = too_few rules.n_fold _ (inl none)
  none_repeats (inr h) =
      let r = repeat_of (next rules s.last m) in
      let all = times-append r (history s) (next rules s.last m ∷ []) in
      let one = times-one r (next rules s.last m) in
      let before = h.1 r in
      let three = h.0 in
      too_few rules.n_fold _ (inr (omega arith))

  -- ---- the move count

  one_more : (b : Bool) → (if b then 0 else risen s.last.counter) ≤ s.last.counter + 1
  one_more true = omega arith
  one_more false = more (nat_lt s.last.counter 9999)
    where
      more : (b : Bool) → (if b then s.last.counter + 1 else s.last.counter) ≤ s.last.counter + 1
      more true = omega arith
      more false = omega arith

  counter-rises : (next rules s.last m).counter ≤ s.last.counter + 1
  unfolding next
  counter-rises = one_more (resets rules (repeat_of s.last) m)

  pub none_runs_out : (rules.n_move ≡ 0) ⊎ (s.last.counter + 1 < 2 * rules.n_move)
      → is_run_out rules (next rules s.last m).counter ≡ false
  unfolding is_run_out
  none_runs_out (inl none) = rw none refl
  none_runs_out (inr less) =
      let up = counter-rises in
      let no : nat_le (2 * rules.n_move) (next rules s.last m).counter ≡ false = grind (arith, nat_tests) in
      right (not (rules.n_move == 0)) no
    where
      right : (a : Bool) → nat_le (2 * rules.n_move) (next rules s.last m).counter ≡ false
          → (a && nat_le (2 * rules.n_move) (next rules s.last m).counter) ≡ false
      right true e = e
      right false e = refl

  -- ---- the result

  pub goes_on : early_end rules (repeat_of (next rules s.last m)) ≡ Ongoing
      → is_stuck rules (repeat_of (next rules s.last m)) ≡ false
      → is_repeated rules (played rules s m) ≡ false → is_run_out rules (next rules s.last m).counter ≡ false
      → result rules (played rules s m) ≡ Ongoing
  unfolding result own_end
  goes_on early some fresh counts = rw (early, some, fresh, counts) refl
