-- How many lines tell a strategy, line by line.
use Rattle.std.proofs.Common.{◌≡◌, ◌≤◌, ℕ, ◌+◌, arith, List, [], ◌∷◌, Ok, refl, ap}
use Rattle.io_ports.specs.Lines.{Line}
use Rattle.rules_model.specs.declared.rules.Rules.{Rules}
use Rattle.strategy.specs.declared.reader.Reader.{Reader}
use Rattle.strategy.specs.Needed.{lines_on, unless_faulty}
use Rattle.strategy.specs.Reading.{step}

-- a line that is not faulty, and those after it
pub needed-cons : (rules : Rules) (b next : Reader) (line : Line) (more : List Line) → step rules b line ≡ Ok next → lines_on rules b (line ∷ more) ≡ 1 + lines_on rules next more
unfolding lines_on
needed-cons rules b next line more is = ap (λ r. 1 + unless_faulty r (λ x. lines_on rules x more)) is

-- a line that is there is needed
pub needed-one : (rules : Rules) (b : Reader) (line : Line) (more : List Line) → 1 ≤ lines_on rules b (line ∷ more)
unfolding lines_on
needed-one rules b line more = omega arith
