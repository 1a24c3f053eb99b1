use Rattle.std.proofs.Common.{◌≡◌, refl, arith, Some, None, sym}
use Rattle.io_ports.specs.Lines.{Text, TooLong}
use Rattle.game_text.proofs.HeardLemmas.{heard_end, heard_line, heard_none}
use Rattle.game_text.proofs.ProblemLemmas.{goal-bad, goal-good, goal-long, goal-none}
use Rattle.game_text.proofs.problem.read_line_of_goal.Goals as goal

pub returns-in-Some-clause-heard : goal.returns-in-Some-clause-heard
returns-in-Some-clause-heard g c =
    let is : g.G.ReadGoal.said c.next_line.new.line ≡ Some c.in-Some.goal = rw c.text.ensures.bytes at (sym c.in-Some.ensures) in
    heard_line _ _ _ (Text c.next_line.new.line) _ c.in-Line.ensures.takes (λ more. omega arith) (λ more. goal-good g.G.ReadGoal.said c.next_line.new.line c.in-Some.goal more is)

pub returns-in-None-clause-heard : goal.returns-in-None-clause-heard
returns-in-None-clause-heard g c =
    let is : g.G.ReadGoal.said c.next_line.new.line ≡ None = rw c.text.ensures.bytes at (sym c.in-None.ensures) in
    heard_line _ _ _ (Text c.next_line.new.line) _ c.in-Line.ensures.takes (λ more. omega arith) (λ more. goal-bad g.G.ReadGoal.said c.next_line.new.line more is)

pub returns-in-TooLong-clause-heard : goal.returns-in-TooLong-clause-heard
returns-in-TooLong-clause-heard g c = heard_line _ _ _ TooLong _ c.in-TooLong.ensures.takes (λ more. omega arith) (λ more. goal-long g.G.ReadGoal.said more)

pub returns-in-End-clause-heard : goal.returns-in-End-clause-heard
returns-in-End-clause-heard g c = heard_end _ _ _ _ c.in-End.ensures.takes (c.in-End.ensures.end refl) (goal-none g.G.ReadGoal.said)

pub returns-in-Failed-clause-heard : goal.returns-in-Failed-clause-heard
returns-in-Failed-clause-heard g c = heard_none _ _ _ _ c.in-Failed.ensures.takes (λ more. tt)
