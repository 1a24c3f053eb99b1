-- Answers in the words of a session.
use Rattle.std.proofs.Common.{ℕ, ◌≤◌, List, [], ◌∷◌, Ok, Err, IfOk, refl, ap, arith}
use Rattle.std.specs.declared.result.Result.{Result}
use Rattle.rules_model.specs.declared.board.Repeat.{Repeat}
use Rattle.rules_model.specs.declared.board.Side.{Side}
use Rattle.rules_model.specs.declared.moves.Move.{Move}
use Rattle.game_play.specs.Played.{Played, story}
use Rattle.alpha_beta.specs.Bests.{IsBest}
use Rattle.alpha_beta.specs.Searches.{bound_of}
use Rattle.alpha_beta.specs.declared.searching.Found.{Found}
use Rattle.mate_showing.specs.Answers as Solved
use Rattle.mate_showing.specs.declared.answer.Settled.{Settled}
use Rattle.mate_showing.specs.declared.answer.Settled.TheVariants as settled
use Rattle.session_model.proofs.Shown.{shown_of_checked}
use Rattle.session_model.specs.Mates.{Evidence, IsShown}
use Rattle.strategy.specs.declared.nodes.Strategy.{Strategy}
use Rattle.strategy_check.specs.Verdicts.{as_verdict}
use Rattle.watching.specs.declared.halt.Halt.{Halt}
use Rattle.thinking.specs.Seeks.{IsFound, IsRight, IsUnsettledAt}

pub shown_of_solved : (game : Played) (n : ℕ) (attacker : Side) (s : Strategy)
    → Solved.IsShown game.rules (story game) attacker n s → IsShown game n attacker s
shown_of_solved game n attacker s h =
    shown_of_checked game n attacker s (ap as_verdict h.good) h.sound h.numbers h.ranks

pub unsettled_of_solved : (game : Played) (n : ℕ) (attacker : Side) (repeat : Repeat) (counters : List ℕ)
    → Solved.IsEvidence game.rules (story game) attacker n repeat counters
    → IsUnsettledAt game n attacker repeat counters
unsettled_of_solved game n attacker repeat [] h = let some = h.some in absurd (omega arith)
unsettled_of_solved game n attacker repeat (first ∷ others) h =
    let evidence : Evidence = record { repeat = repeat; first = first; others = others } in
    record {
      evidence = evidence;
      proves = record { unsettled = h.unsettled; repeat = h.repeat; counters = h.counters };
      repeat_is = refl;
      counters_are = refl;
    }

pub right_by : (game : Played) (n : ℕ) (attacker : Side) (r : Result Settled Halt)
    → IfOk r (Solved.IsRight game.rules (story game) attacker n) → IfOk r (IsRight game attacker n)
right_by game n attacker (Ok (settled.Shown s)) h = shown_of_solved game n attacker s h
right_by game n attacker (Ok settled.NoMate) h = h
right_by game n attacker (Ok (settled.Unsettled repeat counters)) h =
    unsettled_of_solved game n attacker repeat counters h
right_by game n attacker (Err why) h = tt

-- ---- a search

pub found_by : (game : Played) (roots : List Move) (depth : ℕ) (r : Result Found Halt)
    → IfOk r (λ found. IsBest game depth roots found.value found.best)
    → IfOk r (λ found. found.nodes ≤ bound_of game depth) → IfOk r (IsFound game roots depth)
found_by game roots depth (Ok found) best few = record {
  value_is = best.value_is;
  attains = best.attains;
  few = few;
}
found_by game roots depth (Err why) best few = tt
