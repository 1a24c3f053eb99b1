-- What lies under the lock of one shard.
use Rattle.std.specs.Prelude.{◌≤◌, ℕ, List, length, Option, None, if◌then◌else◌}
use Rattle.std.specs.Option.{option_map}
use Rattle.forced_wins.specs.declared.fact.Fact.{Fact}
use Rattle.mate_core.specs.declared.frame.Frame.{Frame}
use Rattle.mate_core.specs.Best.{best, has_better, if_serves, is_full, sooner, stored}
use Rattle.mate_core.specs.Runs.{IsTrueIn, AreTrueIn}
use Rattle.mate_shards.specs.declared.published.Published.{Published}
use Rattle.mate_shards.specs.declared.published.Published.TheVariants.{Stored, KnownBetter, Full}
use Rattle.mate_shards.specs.declared.request.Answer.{Answer}
use Rattle.mate_shards.specs.declared.request.Answer.TheVariants as answers
use Rattle.mate_shards.specs.declared.request.Query.{Query}
use Rattle.mate_shards.specs.declared.request.Request.{Request}
use Rattle.mate_shards.specs.declared.request.Request.TheVariants.{Publish, Look}
use Rattle.mate_core.specs.Claims.{claim_of}

-- what a shard's lock is told apart by: the frame and the capacity
abbrev pub Key : Type 0
Key = Frame × ℕ

-- a fact that is published has to be true, and every look is allowed
abbrev pub Fits : Key → Request → Type 0
Fits key (Publish f) = IsTrueIn key.0 f
Fits key (Look query) = Unit {0}

-- every list of a shard: its facts are true in the frame, and it has no more of them than its capacity
pub record IsListOf (key : Key) (facts : List Fact) : Type 0 where
  pub true_facts : AreTrueIn key.0 facts
  pub few : length facts ≤ key.1

-- the best answer to a query
abbrev pub best_for : Query → List Fact → Option Fact
best_for query fs = best fs query.repeat query.counter query.moves

-- the better one of an older fact, where it answers the query, and of what was found among the newer ones
abbrev pub with_older : Fact → Option Fact → Query → Option Fact
with_older f found query = sooner (if_serves f query.repeat query.counter query.moves) found

-- what becomes of a fact that is published in a list with so many places
abbrev pub verdict : ℕ → List Fact → Fact → Published
verdict capacity fs f = if has_better fs f then KnownBetter else if is_full capacity fs then Full else Stored

abbrev pub reply : Key → List Fact → Request → Answer
reply key facts (Publish f) = answers.Published (verdict key.1 facts f)
reply key facts (Look query) = answers.Found (option_map claim_of (best_for query facts))

abbrev pub added : Key → List Fact → Request → Option Fact
added key facts (Publish f) = stored key.1 facts f
added key facts (Look query) = None
