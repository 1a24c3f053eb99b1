-- Within how many moves the answers say that problems are won.
use Rattle.std.specs.Prelude.{ℕ, List, map, Option}
use Rattle.suite.specs.declared.problem.Answer.{Answer}

abbrev pub leasts : List Answer → List (Option ℕ)
leasts answers = map (λ (a : Answer). a.least) answers
