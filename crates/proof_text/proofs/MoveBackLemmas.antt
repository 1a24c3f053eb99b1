-- The moves of a game, written line by line, are played again.
use Rattle.std.proofs.Common.{◌≡◌, ℕ, ◌+◌, true, List, [], ◌∷◌, ◌++◌, Ok, length, map, sym, ap, subst, ◌∙◌, arith, append_assoc, append-nil, length-append}
use Rattle.foundation.specs.Member.{Member}
use Rattle.io_ports.specs.Lines.{Line, Text}
use Rattle.rules_model.specs.declared.board.Position.{Position}
use Rattle.rules_model.specs.declared.moves.Move.{Move}
use Rattle.rules_model.specs.declared.rules.Rules.{Rules}
use Rattle.rules_model.specs.Games.{Story, are_legal, story_from}
use Rattle.rules_model.specs.Games.{played as story_played}
use Rattle.rules_model.specs.Legal.{legal}
use Rattle.rules_model.specs.MoveText.{text_of}
use Rattle.rules_model.specs.Repeats.{repeat_of}
use Rattle.rules_model.proofs.ResultLaws.{are_legal-more}
use Rattle.move_text.proofs.LegalLaws.{legal-named}
use Rattle.game_play.specs.Played.{IsPlayed, Played, story}
use Rattle.game_play.proofs.KeptLemmas.{played-last-sound}
use Rattle.game_play.proofs.StoryLemmas.{legal-front}
use Rattle.game_text.specs.Playing.{play}
use Rattle.game_text.proofs.PlayLemmas.{play-longer, plays-named}
use Rattle.proof_text.specs.declared.fault.ProofFault.TheVariants.{BadHistory}
use Rattle.proof_text.specs.Reading.{game_in, goal_on, line_on, moves_on, said_or}

-- the move after some moves of a game is legal there
legal-there : (rules : Rules) (g : Story) (done : List Move) (m : Move) (more : List Move)
    → are_legal rules g.last (done ++ m ∷ more) ≡ true
    → Member m (legal rules (repeat_of (story_from rules g done).last))
unfolding story_from
legal-there rules g [] m more are = ((are_legal-more rules g.last m more).0 are).0
legal-there rules g (n ∷ done) m more are =
    legal-there rules (story_played rules g n) done m more ((are_legal-more rules g.last n (done ++ m ∷ more)).0 are).1

module _ (rules : Rules) (start : Position) where
  -- the game with these moves
  abbrev pub game_of : List Move → Played
  game_of moves = record { rules = rules; start = start; moves = moves }

  front-played : (front back : List Move) → IsPlayed (game_of (front ++ back)) → IsPlayed (game_of front)
  front-played front back is =
      let few = is.few in
      record {
        fit = is.fit;
        game = record { sound = is.game.sound; legal_moves = legal-front rules start front back is.game.legal_moves };
        few = omega (arith, few, length-append front back);
      }

  move-plays : (done : List Move) (m : Move) (more : List Move) → IsPlayed (game_of (done ++ m ∷ more))
      → play (game_of done) (text_of m) ≡ Ok (game_of (done ++ m ∷ []))
  move-plays done m more is =
      let few = is.few in
      let sound = played-last-sound (game_of done) (front-played done (m ∷ more) is) in
      let member = legal-there rules (record { earlier = []; last = start }) done m more is.game.legal_moves in
      let named = legal-named rules (story (game_of done)).last m is.fit sound member in
      play-longer (game_of done) (text_of m) m
      (plays-named rules (story (game_of done)).last (text_of m) is.fit sound m named member)
      (omega (arith, few, length-append done (m ∷ more)))

  -- the lines of the moves after some moves lead to the whole game
  pub moves-back : (done more : List Move) (number : ℕ) (rest : List Line) → IsPlayed (game_of (done ++ more))
      → (moves_on (length more) number (game_of done)).says (map Text (map text_of more) ++ rest)
      ≡ (goal_on (number + length more) (game_of (done ++ more))).says rest
  unfolding moves_on line_on
  moves-back done [] number rest is =
      let same : number ≡ number + 0 = omega arith in
      ap (λ k. (goal_on k (game_of done)).says rest) same
      ∙ ap (λ moves. (goal_on (number + 0) (game_of moves)).says rest) (sym (append-nil done))
  moves-back done (m ∷ more) number rest is =
      let same = append_assoc done (m ∷ []) more in
      let further : number + 1 + length more ≡ number + length (m ∷ more) = omega arith in
      let still = subst (λ moves. IsPlayed (game_of moves)) (sym same) is in
      ap (λ said. said_or (BadHistory number) (game_in said) (λ h. (moves_on (length more) (number + 1) h).says (map Text (map text_of more) ++ rest)))
      (move-plays done m more is)
      ∙ moves-back (done ++ m ∷ []) more (number + 1) rest still
      ∙ ap (λ k. (goal_on k (game_of ((done ++ m ∷ []) ++ more))).says rest) further
      ∙ ap (λ moves. (goal_on (number + length (m ∷ more)) (game_of moves)).says rest) same
