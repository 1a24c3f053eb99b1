-- What the answers to problems are.
use Rattle.std.specs.Prelude.{◌≡◌, ℕ, List, Option, Some, None}
use Rattle.std.specs.List.{AllZip}
use Rattle.mate_showing.specs.Answers.{IsShown}
use Rattle.strategy.specs.declared.nodes.Strategy.{Strategy}
use Rattle.suite.specs.declared.problem.Answer.{Answer}
use Rattle.suite.specs.declared.problem.Problem.{Problem}
use Rattle.suite.specs.Problems.{game_of, least_of}

-- there is a strategy exactly where there is a number, and it is good within the number
abbrev pub IsShownBy : Problem → Option ℕ → Option Strategy → Type 0
IsShownBy p None None = Unit {0}
IsShownBy p None (Some s) = ⊥
IsShownBy p (Some k) None = ⊥
IsShownBy p (Some k) (Some s) = IsShown p.rules (game_of p) p.position.side k s

pub record IsAnswer (p : Problem) (a : Answer) : Type 0 where
  pub least : a.least ≡ least_of p
  pub strategy : IsShownBy p a.least a.strategy

-- each problem has its answer, at its place
abbrev pub AreAnswers : List Problem → List Answer → Type 0
AreAnswers ps answers = AllZip IsAnswer ps answers
