-- The verdict on a strategy as the type that `check` answers, and its text.
use Rattle.std.specs.Prelude.{ℕ, List, ◌++◌, codes}
use Rattle.std.specs.Fmt.{decimal}
use Rattle.rules_model.specs.declared.board.Side.{Side}
use Rattle.rules_model.specs.declared.moves.Move.{Move}
use Rattle.rules_model.specs.MoveText.{text_of}
use Rattle.forced_wins.specs.Tables as Tables
use Rattle.game_play.specs.Played.{Played, story}
use Rattle.strategy.specs.declared.nodes.Strategy.{Strategy}
use Rattle.strategy_check.specs.Rows as Rows
use Rattle.strategy_check.specs.declared.verdict.Verdict.{Verdict}
use Rattle.strategy_check.specs.declared.verdict.Verdict.TheVariants.{Wins, Root, WrongMove, MissingReply, BadRank, BadCounter, Repeats, NotWon}

abbrev pub as_verdict : Tables.Verdict Move → Verdict
as_verdict Tables.Wins = Wins
as_verdict Tables.Root = Root
as_verdict (Tables.WrongMove i) = WrongMove i
as_verdict (Tables.MissingReply i m) = MissingReply i m
as_verdict (Tables.BadRank i) = BadRank i
as_verdict (Tables.BadCounter i) = BadCounter i
as_verdict (Tables.Repeats i) = Repeats i
as_verdict (Tables.NotWon i) = NotWon i

-- the verdict on the strategy, for a win of the game by the side within n moves
abbrev pub verdict_of : Played → Side → ℕ → Strategy → Verdict
verdict_of g a n s = as_verdict (Rows.verdict g.rules (story g) a n s)

-- the type's name, the verdict's number, its name, and the place of the node and the move that it names
abbrev pub verdict_text : Verdict → List ℕ
verdict_text Wins = codes "Verdict 0 Wins"
verdict_text Root = codes "Verdict 1 Root"
verdict_text (WrongMove i) = codes "Verdict 2 WrongMove " ++ decimal i
verdict_text (MissingReply i m) = codes "Verdict 3 MissingReply " ++ decimal i ++ codes " " ++ text_of m
verdict_text (BadRank i) = codes "Verdict 4 BadRank " ++ decimal i
verdict_text (BadCounter i) = codes "Verdict 5 BadCounter " ++ decimal i
verdict_text (Repeats i) = codes "Verdict 6 Repeats " ++ decimal i
verdict_text (NotWon i) = codes "Verdict 7 NotWon " ++ decimal i
