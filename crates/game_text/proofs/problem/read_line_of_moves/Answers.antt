use Rattle.std.proofs.Common.{refl, arith}
use Rattle.io_ports.specs.Lines.{Text, TooLong}
use Rattle.game_text.proofs.HeardLemmas.{heard_end, heard_line, heard_none}
use Rattle.game_text.proofs.ProblemLemmas.{moves-long, moves-none, moves-played}
use Rattle.game_text.proofs.problem.read_line_of_moves.Goals as goal

pub returns-in-Line-clause-heard : goal.returns-in-Line-clause-heard
returns-in-Line-clause-heard g c =
    heard_line _ _ _ (Text c.next_line.new.line) _ c.in-Line.ensures.takes (λ more. omega arith)
    (λ more. moves-played c.args.game.now c.play_line.new.game _ _ more c.play_line.result c.text.ensures.bytes c.play_line.ensures)

pub returns-in-TooLong-clause-heard : goal.returns-in-TooLong-clause-heard
returns-in-TooLong-clause-heard g c = heard_line _ _ _ TooLong _ c.in-TooLong.ensures.takes (λ more. omega arith) (λ more. moves-long c.args.game.now more)

pub returns-in-End-clause-heard : goal.returns-in-End-clause-heard
returns-in-End-clause-heard g c = heard_end _ _ _ _ c.in-End.ensures.takes (c.in-End.ensures.end refl) (moves-none c.args.game.now)

pub returns-in-Failed-clause-heard : goal.returns-in-Failed-clause-heard
returns-in-Failed-clause-heard g c = heard_none _ _ _ _ c.in-Failed.ensures.takes (λ more. tt)
