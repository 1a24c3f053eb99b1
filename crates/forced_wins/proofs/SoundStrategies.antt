-- Where the rules fit, strategies can be written with sound positions alone.
use Rattle.std.proofs.Common.{◌≡◌, ◌⊎◌, inl, inr, ℕ, ◌<◌, ◌≤◌, List, [], ◌∷◌, true, refl, sym, ◌∙◌, subst, arith}
use Rattle.std.proofs.lemmas.Bool.Decides.{nat_tests}
use Rattle.rules_model.specs.declared.board.Position.{Position}
use Rattle.rules_model.specs.declared.board.Repeat.{Repeat}
use Rattle.rules_model.specs.declared.board.Side.{Side}
use Rattle.rules_model.specs.declared.moves.Move.{Move}
use Rattle.rules_model.specs.declared.rules.Rules.{Rules}
use Rattle.rules_model.specs.Repeats.{repeat_of}
use Rattle.rules_model.specs.Next.{next, with_counts}
use Rattle.rules_model.specs.Sound.{is_sound}
use Rattle.rules_model.specs.Fit.{IsFit}
use Rattle.rules_model.specs.Games.{Story, played, story_from, story_of, are_legal, IsGame}
use Rattle.rules_model.proofs.GameLaws.{next_counter-range}
use Rattle.rules_model.proofs.LegalLaws.{legal-once}
use Rattle.rules_model.proofs.PlayLaws.{next-counter, next_counter-up}
use Rattle.rules_model.proofs.ResultLaws.{story_from-none, story_from-more, are_legal-more}
use Rattle.sound_play.proofs.NextLaws.{next-sound}
use Rattle.sound_play.proofs.SoundLaws.{SoundCounts, position_parts, position_of_parts, repeat_of_parts}
use Rattle.forced_wins.specs.Facts.{smaller}
use Rattle.forced_wins.specs.RuleSentences.{WasPlayed, HasSoundStrategies}
use Rattle.forced_wins.specs.Strategies.{IsWritten, SoundGood, IsUnsettled}
use Rattle.forced_wins.specs.Views.{seen_by, as_any}
use Rattle.forced_wins.specs.Wins.{wins, near_root, IsInLimit}
use Rattle.forced_wins.proofs.Blocked.{near_root-is, in_limit}
use Rattle.forced_wins.proofs.Counts.{and_true, le_true}
use Rattle.forced_wins.proofs.FactLaws.{smaller-left, smaller-right}
use Rattle.forced_wins.proofs.Played.{game-played}
use Rattle.forced_wins.proofs.Rules.{laws, wins-is}
use Rattle.forced_wins.proofs.StrategyLaws.{table-good, unsettled}
use Rattle.forced_wins.proofs.TableLaws.{both, le_from}
use Rattle.forced_wins.proofs.Unsettled as U
use Rattle.forced_wins.proofs.Writings.{Writing, GoodTable}

smaller-most : (a m n : ℕ) → a ≤ m → a ≤ n → a ≤ smaller m n
smaller-most a m n h k = grind (arith, nat_tests)

-- ---- soundness of a position looks at its repeat, and at its counts alone besides

sound-counter : (rules : Rules) (p : Position) → is_sound rules p ≡ true → p.counter ≤ 9999
sound-counter rules p h = (position_parts rules p h).1.counter

sound-written : (rules : Rules) (p : Position) (c : ℕ) → is_sound rules p ≡ true → c ≤ 9999 → IsWritten rules (with_counts (repeat_of p) c 1)
sound-written rules p c h low =
    let counts : SoundCounts (with_counts (repeat_of p) c 1) = record { counter = low; number_least = omega arith; number_most = omega arith } in
    record {
      sound = position_of_parts rules (with_counts (repeat_of p) c 1) (repeat_of_parts rules (repeat_of p) (position_parts rules p h).0) counts;
      number = refl;
      counter = low;
    }

module _ (rules : Rules) (fit : IsFit rules) (a : Side) where
  Sound : Position → Type 0
  Sound p = is_sound rules p ≡ true

  -- a position at a counter, at the most 9,999
  at : Position → ℕ → Position
  at p c = with_counts (repeat_of p) (smaller c 9999) 1

  next-at : (p : Position) (m : Move) (c d : ℕ) → c < d → (next rules (at p c) m).counter ≤ smaller d 9999
  unfolding at
  next-at p m c d less =
      let e = next-counter rules (at p c) m in
      let low = smaller-left c 9999 in
      let top = smaller-right c 9999 in
      let up = next_counter-up rules (repeat_of p) m (smaller c 9999) in
      let range = next_counter-range rules (repeat_of p) m (smaller c 9999) top in
      smaller-most _ d 9999 (omega arith) (omega arith)

  writing : Writing Position Repeat Move (seen_by rules a) Sound (IsWritten rules)
  unfolding Sound at
  writing = record {
    goes_on = λ p m h k. next-sound rules p m fit h k;
    at = at;
    at_repeat = λ p c. refl;
    at_low = λ p c. smaller-left c 9999;
    at_high = λ p c h low. smaller-most p.counter c 9999 low (sound-counter rules p h);
    at_next = λ p q m c d less. next-at p m c d less;
    at_written = λ p c h. sound-written rules p (smaller c 9999) h (smaller-right c 9999);
    exact = λ p. with_counts (repeat_of p) p.counter 1;
    exact_repeat = λ p. refl;
    exact_counter = λ p. refl;
    exact_written = λ p h. sound-written rules p p.counter h (sound-counter rules p h);
  }

  sound-along : (ms : List Move) (g : Story) → is_sound rules g.last ≡ true → are_legal rules g.last ms ≡ true → Sound (story_from rules g ms).last
  unfolding Sound
  sound-along [] g h k = subst (λ (s : Story). is_sound rules s.last ≡ true) (sym (story_from-none rules g)) h
  sound-along (m ∷ ms) g h k =
      let u = (are_legal-more rules g.last m ms).0 k in
      subst (λ (s : Story). is_sound rules s.last ≡ true) (sym (story_from-more rules g m ms)) (sound-along ms (played rules g m) (next-sound rules g.last m fit h u.0) u.1)

  game-sound : (start : Position) (ms : List Move) → IsGame rules start ms → Sound (story_of rules start ms).last
  game-sound start ms game = sound-along ms (record { earlier = []; last = start }) game.sound game.legal_moves

  as_strategy : (n : ℕ) (g : Story) → GoodTable Position Repeat Move (seen_by rules a) (IsWritten rules) (as_any g) n → SoundGood rules n g a
  as_strategy n g t = record { nodes = t.nodes; good = table-good rules a g n t; written = t.written }

  -- inside the limit a win has such a strategy
  win-sound : (n : ℕ) (start : Position) (ms : List Move) → IsGame rules start ms → IsInLimit rules n (story_of rules start ms) → wins rules n (story_of rules start ms) a ≡ true → SoundGood rules n (story_of rules start ms) a
  win-sound n start ms game low h =
      let g = story_of rules start ms in
      as_strategy n g
      (U.win-good (seen_by rules a) (laws rules a) writing (λ p. legal-once rules (repeat_of p)) (as_any g) (game-sound start ms game) n (game-played rules a start ms game) (in_limit rules n g a low) (sym (wins-is rules n g a) ∙ h))

  -- a near win has one, or it is unsettled
  near-sound : (n : ℕ) (start : Position) (ms : List Move) → IsGame rules start ms → near_root rules n (story_of rules start ms) a ≡ true → SoundGood rules n (story_of rules start ms) a ⊎ IsUnsettled rules n (story_of rules start ms) a
  near-sound n start ms game h =
      let g = story_of rules start ms in
      elim (U.near-settled (seen_by rules a) (laws rules a) writing (λ p. legal-once rules (repeat_of p)) (as_any g) (game-sound start ms game) n (game-played rules a start ms game) (sym (near_root-is rules n g a) ∙ h)) as (λ _. SoundGood rules n g a ⊎ IsUnsettled rules n g a) [
        | inl t ↦ inl (as_strategy n g t)
        | inr u ↦ inr (unsettled rules a g n u)
      ]

  -- the same of a game that was played
  pub played-sound : (n : ℕ) (g : Story) → WasPlayed rules g → HasSoundStrategies rules n g a
  played-sound n g w = subst (λ (h : Story). HasSoundStrategies rules n h a) w.is (record { in_limit = win-sound n w.start w.moves w.game; settled = near-sound n w.start w.moves w.game })
