use Rattle.std.proofs.Common.{◌≡◌, ◌+◌, ◌*◌, ◌++◌, List, Some, length, drop}
use Rattle.stipulation.specs.declared.cert.Step.{Step}
use Rattle.stipulation.specs.AtTask as At
use Rattle.stipulation.specs.Searches.{first_of, all_of, joined, followed}
use Rattle.stipulation.proofs.task.Task.+search.Given as goal

abbrev pub decreases-play_on : goal.decreases-play_on
decreases-play_on l = 4 * l.plies

abbrev pub decreases-search : goal.decreases-search
decreases-search l = 4 * l.plies + 1

abbrev pub decreases-follow : goal.decreases-follow
decreases-follow l = 4 * l.plies + 2

abbrev pub decreases-choose : goal.decreases-choose
decreases-choose l = 4 * l.plies + 3

abbrev pub decreases-reply_to_all : goal.decreases-reply_to_all
decreases-reply_to_all l = 4 * l.plies + 3

abbrev pub invariant-choose-loop-m : goal.invariant-choose-loop-m
invariant-choose-loop-m l = record {
  line : l.line ≡ l.fn.line;
  task : l.facts ≡ l.fn.facts;
  steps : l.steps ≡ l.fn.steps;
  rest : first_of (followed (At.games l.self) l.plies (length l.fn.line) (At.at l.self l.fn.line)) (drop l.m-index l.moves)
      ≡ first_of (followed (At.games l.self) l.plies (length l.fn.line) (At.at l.self l.fn.line)) l.moves;
}

abbrev pub invariant-reply_to_all-loop-m : goal.invariant-reply_to_all-loop-m
invariant-reply_to_all-loop-m l = record {
  line : l.line ≡ l.fn.line;
  task : l.facts ≡ l.fn.facts;
  kept : l.kept ≡ length l.fn.steps;
  done : (done : List Step) × (l.steps ≡ l.fn.steps ++ done)
      × (joined (Some done) (all_of (followed (At.games l.self) l.plies (length l.fn.line) (At.at l.self l.fn.line)) (drop l.m-index l.moves))
      ≡ all_of (followed (At.games l.self) l.plies (length l.fn.line) (At.at l.self l.fn.line)) l.moves);
}
