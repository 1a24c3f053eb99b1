-- A proof text that was written is read back, part after part, from the last to the first.
use Rattle.std.proofs.Common.{◌≡◌, ℕ, ◌+◌, ◌^◌, ◌<◌, ◌≤◌, List, [], ◌∷◌, ◌++◌, Ok, length, map, refl, ap, ◌∙◌, arith, append_assoc, length-append}
use Rattle.std.specs.Prelude.{codes}
use Rattle.std.specs.Fmt.{decimal}
use Rattle.std.proofs.lemmas.List.{map-append}
use Rattle.io_ports.specs.Lines.{Line, Text, lines_of}
use Rattle.rules_model.specs.declared.board.Side.{Side}
use Rattle.rules_model.specs.declared.board.Side.TheVariants.{White, Black}
use Rattle.rules_model.specs.declared.moves.Move.{Move}
use Rattle.rules_model.specs.MoveText.{text_of}
use Rattle.fen_model.specs.Printing.{fen_text}
use Rattle.fen_model.specs.Reading.{fen_of}
use Rattle.fen_model.proofs.GivesBack.{gives-back}
use Rattle.fen_model.proofs.JoinLaws.{Each}
use Rattle.fen_model.proofs.SoundParts.{parts}
use Rattle.variant_ini.specs.Section.{Section}
use Rattle.variant_model.specs.Told.{line_of, told}
use Rattle.game_play.specs.Played.{IsPlayed, Played}
use Rattle.game_text.specs.declared.goal.Goal.{Goal}
use Rattle.game_text.specs.GameText.{started}
use Rattle.strategy.specs.declared.nodes.Strategy.{Strategy}
use Rattle.strategy.specs.Reading.{AreSound}
use Rattle.strategy.specs.Writing.{AreReadable, ended_lines, strategy_texts}
use Rattle.strategy.proofs.BackLaws.{texts-back}
use Rattle.strategy.proofs.BackLemmas.{Above, above-append, decimal-above, decimal-short, fen-above, fen-short, lower-above, move-above, move-short}
use Rattle.strategy.proofs.LineLaws.{IsLine, each-append, high-line, lines-back, strategy-lines}
use Rattle.proof_text.specs.declared.fault.ProofFault.TheVariants.{Header}
use Rattle.proof_text.specs.declared.proof.Proof.{Proof}
use Rattle.proof_text.specs.Reading.{body_on, goal_on, history_on, line_on, moves_on, pairs_on, proof_of, proof_on, rules_of, rules_on, said_or, start_on, with_rules, with_start, with_strategy}
use Rattle.proof_text.specs.Writing.{body_texts, game_texts, goal_text, history_texts, pair_text, proof_text, proof_texts, start_line}
use Rattle.proof_text.proofs.MoveBackLemmas.{moves-back}
use Rattle.proof_text.proofs.PairBackLemmas.{AreToldBack}
use Rattle.proof_text.proofs.ToldBackLemmas.{IsTold, pairs-back, pairs-lines, told-each}
use Rattle.proof_text.proofs.WordBackLemmas.{goal-said, history-said, rules-said, start-said}

-- ---- a game, a goal and a strategy

module _ (g : Played) (n : ℕ) (s : Strategy) where
  abbrev pub proof : Proof
  proof = record { game = g; attacker = s.attacker; n = n; strategy = s }

  abbrev goal : Goal
  goal = record { attacker = s.attacker; moves = n }

  -- the lines of the goal and of the strategy
  abbrev end_texts : List (List ℕ)
  end_texts = goal_text s.attacker n ∷ body_texts g.rules s

  -- the game is by its rules, the goal is within 1 to 100 moves, and the strategy is one that is read back
  pub record IsGoal : Type 0 where
    pub played : IsPlayed g
    pub least : 1 ≤ n
    pub most : n ≤ 100
    pub sound : AreSound g.rules s.nodes
    pub readable : AreReadable g.rules s.nodes
    pub few : length s.nodes < 2 ^ 64

module _ (g : Played) (n : ℕ) (s : Strategy) (is : IsGoal g n s) where
  start-read : fen_of g.rules (fen_text g.rules g.start) ≡ Ok g.start
  start-read = gives-back g.rules g.start is.played.fit (parts g.rules g.start is.played.game.sound)

  -- ---- what the lines say

  body-back : (number : ℕ) → (body_on number g (goal g n s)).says (map Text (body_texts g.rules s)) ≡ Ok (proof g n s)
  unfolding body_on strategy_texts
  body-back number =
      ap (with_strategy number g (goal g n s)) (texts-back g.rules s is.played.fit is.sound is.readable is.few)

  goal-back : (number : ℕ) → (goal_on number g).says (map Text (end_texts g n s)) ≡ Ok (proof g n s)
  unfolding goal_on line_on
  goal-back number =
      ap (λ said. said_or (Header number) said (λ x. (body_on (number + 1) g x).says (map Text (body_texts g.rules s))))
      (goal-said s.attacker n is.least is.most)
      ∙ body-back (number + 1)

  history-back : (number : ℕ) → (history_on number (started g.rules g.start)).says (map Text (history_texts g.moves) ++ map Text (end_texts g n s)) ≡ Ok (proof g n s)
  unfolding history_on line_on
  history-back number =
      let end = map Text (end_texts g n s) in
      ap (λ said. said_or (Header number) said (λ x. (moves_on x (number + 1) (started g.rules g.start)).says (map Text (map text_of g.moves) ++ end)))
      (history-said (length g.moves) is.played.few)
      ∙ moves-back g.rules g.start [] g.moves (number + 1) end is.played
      ∙ goal-back (number + 1 + length g.moves)

  start-back : (number : ℕ) → (start_on number g.rules).says (map Text (game_texts g) ++ map Text (end_texts g n s)) ≡ Ok (proof g n s)
  unfolding start_on line_on
  start-back number =
      let after = map Text (history_texts g.moves) ++ map Text (end_texts g n s) in
      ap (λ said. said_or (Header number) said (λ fen. (with_start number g.rules (fen_of g.rules fen)).says after))
      (start-said (fen_text g.rules g.start))
      ∙ ap (λ said. (with_start number g.rules said).says after) start-read
      ∙ history-back (number + 1)

  -- ---- each line is one line

  counted-line : (words : List ℕ) (count : ℕ) → Above 13 words → length words ≤ 20 → count < 2 ^ 64
      → IsLine (words ++ decimal count)
  counted-line words count above short small =
      high-line (words ++ decimal count)
      (above-append 13 words (decimal count) above (lower-above (decimal count) (decimal-above count small)))
      (omega (arith, short, decimal-short count small, length-append words (decimal count)))

  moves-lines : (moves : List Move) → Each IsLine (map text_of moves)
  moves-lines [] = tt
  moves-lines (m ∷ moves) =
      let short = move-short m in
      (high-line (text_of m) (lower-above (text_of m) (move-above m)) (omega (arith, short)), moves-lines moves)

  start-is-line : IsLine (start_line g.rules g.start)
  start-is-line =
      let fen = fen_text g.rules g.start in
      let above = fen-above g.rules g.start is.played.fit is.played.game.sound in
      let short = fen-short g.rules fen g.start start-read in
      high-line (start_line g.rules g.start) (above-append 13 (codes "start ") fen refl above)
      (omega (arith, short, length-append (codes "start ") fen))

  goal-is-line : (side : Side) → IsLine (goal_text side n)
  goal-is-line White =
      let most = is.most in counted-line (codes "goal white ") n refl (omega arith) (omega (arith, most))
  goal-is-line Black =
      let most = is.most in counted-line (codes "goal black ") n refl (omega arith) (omega (arith, most))

  game-lines : Each IsLine (game_texts g)
  game-lines =
      let few = is.played.few in
      let count = counted-line (codes "history ") (length g.moves) refl (omega arith) (omega (arith, few)) in
      (start-is-line, (count, moves-lines g.moves))

  end-lines : Each IsLine (end_texts g n s)
  unfolding strategy_texts
  end-lines = (goal-is-line s.attacker, (strategy-lines g.rules s is.played.fit is.sound is.readable is.few).1)

  -- ---- the whole, for a section that tells the rules of the game

  module _ (sections : List Section) (place : ℕ) (back : AreToldBack (told sections place)) where
    abbrev pairs : List (List ℕ × List ℕ)
    pairs = told sections place

    each : Each IsTold pairs
    each = told-each sections place back

    -- the lines after those of the rules
    abbrev game_and_end : List (List ℕ)
    game_and_end = game_texts g ++ end_texts g n s

    -- all lines but the first
    abbrev later_texts : List (List ℕ)
    later_texts = (codes "rules " ++ decimal (length pairs)) ∷ (map pair_text pairs ++ game_and_end)

    texts-are : proof_texts sections place g n s ≡ codes "strategy 2" ∷ later_texts
    unfolding proof_texts
    texts-are =
        ap (λ texts. codes "strategy 2" ∷ ((codes "rules " ++ decimal (length pairs)) ∷ texts))
        (append_assoc (map pair_text pairs) (game_texts g) (end_texts g n s))

    module _ (some : 1 ≤ length (told sections place)) (few : length (told sections place) ≤ 213) where
      all-lines : Each IsLine (codes "strategy 2" ∷ later_texts)
      all-lines =
          let count = counted-line (codes "rules ") (length pairs) refl (omega arith) (omega (arith, few)) in
          let others = each-append IsLine (game_texts g) (end_texts g n s) game-lines end-lines in
          let after = each-append IsLine (map pair_text pairs) game_and_end (pairs-lines pairs each) others in
          (high-line (codes "strategy 2") refl (omega arith), (count, after))

      module _ (rules : rules_of (map line_of (told sections place)) ≡ Ok g.rules) where
        abbrev after : List Line
        after = map Text (game_texts g) ++ map Text (end_texts g n s)

        -- the lines after that of the number of the pairs
        split : map Text (map pair_text pairs ++ game_and_end) ≡ map Text (map pair_text pairs) ++ after
        split =
            map-append Text (map pair_text pairs) game_and_end
            ∙ ap (λ ls. map Text (map pair_text pairs) ++ ls) (map-append Text (game_texts g) (end_texts g n s))

        pairs-on : (pairs_on (length pairs) 3 []).says (map Text (map pair_text pairs ++ game_and_end)) ≡ Ok (proof g n s)
        pairs-on =
            ap (pairs_on (length pairs) 3 []).says split
            ∙ pairs-back [] pairs 3 after each
            ∙ ap (λ r. (with_rules (3 + length pairs) r).says after) rules
            ∙ start-back (3 + length pairs)

        rules-on : rules_on.says (map Text later_texts) ≡ Ok (proof g n s)
        unfolding rules_on line_on
        rules-on =
            ap (λ said. said_or (Header 2) said (λ x. (pairs_on x 3 []).says (map Text (map pair_text pairs ++ game_and_end))))
            (rules-said (length pairs) some (omega (arith, few)))
            ∙ pairs-on

        all-on : proof_of (map Text (codes "strategy 2" ∷ later_texts)) ≡ Ok (proof g n s)
        unfolding proof_on line_on
        all-on = rules-on

        pub proof-back : proof_of (lines_of (proof_text sections place g n s)) ≡ Ok (proof g n s)
        unfolding proof_text
        proof-back =
            ap (λ texts. proof_of (lines_of (ended_lines texts))) texts-are
            ∙ ap proof_of (lines-back (codes "strategy 2" ∷ later_texts) all-lines)
            ∙ all-on
