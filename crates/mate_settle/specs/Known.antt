-- What is known, and what it answers.
use Rattle.std.specs.Prelude.{◌≡◌, ℕ, true, List}
use Rattle.std.specs.List.{All}
use Rattle.rules_model.specs.declared.moves.Move.{Move}
use Rattle.forced_wins.specs.declared.fact.Fact.{Fact}
use Rattle.forced_wins.specs.Facts.{serves}
use Rattle.mate_core.specs.declared.frame.Frame.{Frame}
use Rattle.mate_core.specs.Runs.{IsTrueIn}
use Rattle.mate_settle.specs.declared.fact_table.KeyedFact.{KeyedFact}
use Rattle.mate_settle.specs.declared.ordering.Ranked.{Ranked}
use Rattle.mate_settle.specs.declared.weighing.WeighedMove.{WeighedMove}
use Rattle.legality.specs.Stance.{Stance, repeat_in}

-- each kept fact is true in the frame
abbrev pub HoldTruth : Frame → List KeyedFact → Type 0
HoldTruth f kept = All (λ k. IsTrueIn f k.fact) kept

-- the move that is ranked
abbrev pub chosen_of : Ranked → Move
chosen_of r = r.chosen

-- the move that is weighed
abbrev pub weighed_of : WeighedMove → Move
weighed_of w = w.chosen

-- the fact says whether the attacker wins from the position within n moves
abbrev pub Answers : Stance → ℕ → Fact → Type 0
Answers s n f = serves f (repeat_in s) s.position.counter n ≡ true
