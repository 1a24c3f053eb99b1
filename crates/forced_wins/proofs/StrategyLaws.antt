-- Good strategies by the rules: they win, and wins have them.
use Rattle.std.proofs.Common.{◌≡◌, ◌⊎◌, ◌↔◌, inl, inr, ℕ, ◌+◌, ◌<◌, ◌≤◌, List, [], ◌∷◌, length, true, refl, ap, sym, ◌∙◌, subst, arith}
use Rattle.rules_model.specs.declared.board.Position.{Position}
use Rattle.rules_model.specs.declared.board.Repeat.{Repeat}
use Rattle.rules_model.specs.declared.board.Side.{Side}
use Rattle.rules_model.specs.declared.moves.Move.{Move}
use Rattle.rules_model.specs.declared.rules.Rules.{Rules}
use Rattle.rules_model.specs.Repeats.{repeat_of}
use Rattle.rules_model.specs.Sides.{same_side}
use Rattle.rules_model.specs.Next.{next}
use Rattle.rules_model.specs.Games.{Story, history, story_of, IsGame}
use Rattle.rules_model.proofs.EqualLaws.{side-decides}
use Rattle.forced_wins.specs.Games as AnyGame
use Rattle.forced_wins.specs.Lines as AnyLines
use Rattle.forced_wins.specs.PlainTables.{plain}
use Rattle.forced_wins.specs.Tables as Tables
use Rattle.forced_wins.specs.Tables.{Accessors}
use Rattle.forced_wins.specs.Views.{seen_by, as_any}
use Rattle.forced_wins.specs.Wins.{wins, near, near_root, blocked, is_in, IsInLimit}
use Rattle.forced_wins.specs.Strategies.{IsGood, HasGood, moves_left, IsWonAlong, behind, OnWin, IsUnsettled}
use Rattle.forced_wins.specs.RuleSentences.{WasPlayed, HasStrategies, IsAnyGame, MeansTheSame}
use Rattle.forced_wins.proofs.GoodWins.{good-wins}
use Rattle.forced_wins.proofs.Verdicts.{verdict-faultless, faultless-verdict}
use Rattle.forced_wins.proofs.ClaimLaws.{near-barred}
use Rattle.forced_wins.proofs.Writings.{GoodTable}
use Rattle.forced_wins.proofs.Unsettled.{good-exactly-wins, near-good-or-unsettled}
use Rattle.forced_wins.proofs.Rules.{laws, table_laws, wins-is, near-is, times-is}
use Rattle.forced_wins.proofs.Blocked.{blocked-is, in-blocked, near_root-is, in_limit}
use Rattle.forced_wins.proofs.Played.{game-played}

-- a good strategy wins
pub good-strategy-wins : {N E : Type 0} (rules : Rules) (tb : Accessors Position Move N E) (g : Story) (a : Side) (n : ℕ) (of : Side) (nodes : List N) → IsGood rules tb g a n of nodes → wins rules n g a ≡ true
good-strategy-wins rules tb g a n of nodes h = wins-is rules n g a ∙ good-wins (seen_by rules a) tb (laws rules a) nodes (as_any g) n (verdict-faultless (seen_by rules a) tb nodes (as_any g) (same_side of a) n h).1

module _ (rules : Rules) (a : Side) where
  -- a good strategy of the game as its attacker sees it is one by the rules
  pub of_own : {N E : Type 0} (tb : Accessors Position Move N E) (g : Story) (n : ℕ) (s : List N) → Tables.IsGood (seen_by rules a) tb true s (as_any g) n → IsGood rules tb g a n a s
  of_own tb g n s h = ap (λ b. Tables.verdict (seen_by rules a) tb b s (as_any g) n) ((side-decides a a).1 refl) ∙ h

  pub table-good : {Written : Position → Type 0} (g : Story) (n : ℕ) (t : GoodTable Position Repeat Move (seen_by rules a) Written (as_any g) n) → IsGood rules plain g a n a t.nodes
  table-good g n t = of_own plain g n t.nodes (faultless-verdict (seen_by rules a) plain t.nodes (as_any g) n t.faultless)

  -- inside the limit a good strategy exists exactly where the game is won
  pub good-exists : (n : ℕ) (start : Position) (ms : List Move) → IsGame rules start ms → IsInLimit rules n (story_of rules start ms) → HasGood rules n (story_of rules start ms) a ↔ (wins rules n (story_of rules start ms) a ≡ true)
  good-exists n start ms game low =
      let g = story_of rules start ms in
      let k = good-exactly-wins (seen_by rules a) (table_laws rules a) (as_any g) n (game-played rules a start ms game) (in_limit rules n g a low) in
      (λ s. good-strategy-wins rules plain g a n a s.0 s.1, λ h. let s = k.1 (sym (wins-is rules n g a) ∙ h) in (s.0, of_own plain g n s.0 s.1))

  -- the evidence of any game is evidence by the rules
  module _ (g : Story) where
    near-here : (n : ℕ) (p : Position) → AnyGame.near (seen_by rules a) (AnyGame.blocked (seen_by rules a) (as_any g)) n p ≡ true → near rules n p (blocked rules g) a ≡ true
    near-here n p h =
        near-is rules n p (blocked rules g) a
        ∙ near-barred (seen_by rules a) (laws rules a) (AnyGame.blocked (seen_by rules a) (as_any g)) (is_in (blocked rules g)) (in-blocked rules a g) n p h

    won-along : (n : ℕ) (p : Position) (ms : List Move) → AnyLines.IsWonAlong (seen_by rules a) (AnyGame.blocked (seen_by rules a) (as_any g)) n p ms → IsWonAlong rules (blocked rules g) a n p ms
    won-along n p [] h = tt
    won-along n p (m ∷ ms) h = (h.0, h.1, near-here (moves_left n p a) (next rules p m) h.2, won-along (moves_left n p a) (next rules p m) ms h.3)

    behind-is : (p : Position) (ms : List Move) → behind rules p ms ≡ AnyLines.behind (seen_by rules a) p ms
    behind-is p [] = refl
    behind-is p (m ∷ ms) = behind-is (next rules p m) ms

    pub on-win : (n : ℕ) (r : Repeat) (c : ℕ) → AnyLines.OnWin Position Repeat Move (seen_by rules a) n (as_any g) r c → OnWin rules n g a r c
    on-win n r c h = record {
      line = h.line;
      short = h.short;
      won = won-along n g.last h.line h.won;
      repeat = ap repeat_of (behind-is g.last h.line) ∙ h.repeat;
      counter = ap (λ (p : Position). p.counter) (behind-is g.last h.line) ∙ h.counter;
    }

    unfoldable pub unsettled : (n : ℕ) → AnyLines.IsUnsettled Position Repeat Move (seen_by rules a) n (as_any g) → IsUnsettled rules n g a
    unsettled n h =
        let counted = h.counted in
        let near = h.close in
        record {
          near_win = near_root-is rules n g a ∙ h.near_win;
          counted = omega arith;
          close = omega arith;
          repeat = h.repeat;
          counters = h.counters;
          differ = h.differ;
          on_lines = λ c m. on-win n h.repeat c (h.on_lines c m);
          many = subst (λ t. ((h.repeat ≡ repeat_of g.last) × (2 ≤ length h.counters)) ⊎ ((h.repeat ≡ repeat_of g.last → ⊥) × (0 < rules.n_fold) × (rules.n_fold ≤ length h.counters + t))) (sym (times-is rules a h.repeat (history g))) h.many;
        }

  -- a near win of a game has a good strategy, or it is unsettled
  pub near-settled : (n : ℕ) (start : Position) (ms : List Move) → IsGame rules start ms → near_root rules n (story_of rules start ms) a ≡ true → HasGood rules n (story_of rules start ms) a ⊎ IsUnsettled rules n (story_of rules start ms) a
  near-settled n start ms game h =
      let g = story_of rules start ms in
      elim (near-good-or-unsettled (seen_by rules a) (table_laws rules a) (as_any g) n (game-played rules a start ms game) (sym (near_root-is rules n g a) ∙ h)) as (λ _. HasGood rules n g a ⊎ IsUnsettled rules n g a) [
        | inl k ↦ inl (k.0, of_own plain g n k.0 k.1)
        | inr k ↦ inr (unsettled g n k)
      ]

  -- the same of a game that was played
  pub played-strategies : (n : ℕ) (g : Story) → WasPlayed rules g → HasStrategies rules n g a
  played-strategies n g w = subst (λ (h : Story). HasStrategies rules n h a) w.is (record { in_limit = good-exists n w.start w.moves w.game; settled = near-settled n w.start w.moves w.game })

  -- ---- the rules as any game

  pub is-any-game : IsAnyGame rules a
  is-any-game = record {
    laws = laws rules a;
    table_laws = table_laws rules a;
    played = λ g w. subst (λ (h : Story). AnyGame.IsPlayed (seen_by rules a) (as_any h)) w.is (game-played rules a w.start w.moves w.game);
  }

  pub means-the-same : (n : ℕ) (g : Story) → MeansTheSame rules n g a
  means-the-same n g = record {
    wins = wins-is rules n g a;
    near_root = near_root-is rules n g a;
    near = λ p b. near-is rules n p b a;
    blocked = blocked-is rules a g;
    unsettled = unsettled g n;
  }
