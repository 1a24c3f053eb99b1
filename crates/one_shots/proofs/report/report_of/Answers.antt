use Rattle.std.proofs.Common.{◌≡◌, List, ℕ, ◌++◌, ◌∙◌, append_assoc, codes, length, arith, rules}
use Rattle.std.proofs.lemmas.Grind.{common_steps}
use Rattle.std.specs.Fmt.{decimal}
use Rattle.fen_model.specs.Printing.{fen_text}
use Rattle.game_play.specs.Played.{legal_in, story}
use Rattle.game_text.specs.GameTexts.{perft_of}
use Rattle.game_text.specs.OutcomeText.{outcome_text}
use Rattle.rules_model.specs.Games.{result}
use Rattle.one_shots.specs.Generate.{generated_text, value_text}
use Rattle.one_shots.proofs.report.report_of.Goals as goal

regroup : (a b c d e f g h i j k l m n o : List ℕ) → ((((((a ++ (b ++ (c ++ (d ++ (e ++ (f ++ g)))))) ++ h) ++ (i ++ (j ++ k))) ++ l) ++ m) ++ n) ++ o
    ≡ a ++ (b ++ (c ++ (d ++ (e ++ (f ++ (g ++ (h ++ (i ++ (j ++ (k ++ (l ++ (m ++ (n ++ o)))))))))))))
regroup a b c d e f g h i j k l m n o = simp append_assoc

pub returns : goal.returns
unfolding generated_text
returns g c =
    let game = c.args.game.now in
    let wrote : c.push.new.self.items ≡ ((((((codes "generated " ++ (c.args.name.now ++ (codes " " ++ (decimal c.args.number ++ (codes " " ++ (decimal (length c.args.game.now.moves) ++ codes "\n"))))))
    ++ fen_text c.args.game.now.rules (story c.args.game.now).last) ++ (codes "\n" ++ (outcome_text (result c.args.game.now.rules (story c.args.game.now)) ++ codes "\nperft2 ")))
    ++ perft_of 2 c.args.game.now) ++ codes "value2 ") ++ value_text c.args.game.now (legal_in c.args.game.now)) ++ codes "\n" = first_of (search rules, grind (arith, common_steps)) in
    wrote
    ∙ regroup (codes "generated ") c.args.name.now (codes " ") (decimal c.args.number) (codes " ") (decimal (length game.moves)) (codes "\n") (fen_text game.rules (story game).last) (codes "\n")
    (outcome_text (result game.rules (story game))) (codes "\nperft2 ") (perft_of 2 game) (codes "value2 ") (value_text game (legal_in game)) (codes "\n")
