-- One call of a worker: one turn at one shard.
use Rattle.std.specs.Prelude.{◌≡◌, ◌≤◌, ℕ, List, ◌++◌, length, Option, Some, None, slice_get, slice_set}
use mathlib.Core.List.{IsPrefix}
use Rattle.rules_model.specs.declared.board.Position.{Position}
use Rattle.rules_model.specs.declared.board.Repeat.{Repeat}
use Rattle.rules_model.specs.Repeats.{repeat_of}
use Rattle.forced_wins.specs.declared.fact.Fact.{Fact}
use Rattle.fact_lock.specs.Passes.{OwnsSeen, places, entries}
use Rattle.mate_core.specs.declared.event.Event.{Event}
use Rattle.mate_core.specs.declared.event.Event.TheVariants as event
use Rattle.mate_core.specs.declared.event.Reply.{Reply}
use Rattle.mate_core.specs.declared.event.Reply.TheVariants as replies
use Rattle.mate_core.specs.declared.store.Store.{Store}
use Rattle.mate_core.specs.Best.{best, stored}
use Rattle.mate_core.specs.Hash.{shard_of}
use Rattle.mate_core.specs.Runs.{AreTrueIn}
use Rattle.mate_core.specs.Steps.{published, grown, step}
use Rattle.mate_shards.specs.declared.published.Published.{Published}
use Rattle.mate_shards.specs.declared.published.Published.TheVariants.{Stored, KnownBetter, Full}
use Rattle.mate_shards.specs.declared.request.Answer.{Answer}
use Rattle.mate_shards.specs.declared.request.Request.{Request}
use Rattle.mate_shards.specs.Shard.{reply, added}
use Rattle.mate_shards.specs.Views.{ShardsView, ShardPass}

-- the answer to a published fact as a reply of the core
abbrev pub reply_of : Published → Reply
reply_of Stored = replies.Stored
reply_of KnownBetter = replies.KnownBetter
reply_of Full = replies.Full

abbrev pub home_of : ShardsView → Repeat → ℕ
home_of s repeat = shard_of repeat (length s.locks)

-- The core does the same at any store of this capacity that has this list in that shard, for any worker: it gives this
-- reply, and leaves this list there.
abbrev pub IsStep : ShardsView → ℕ → List Fact → (ℕ → Event) → Reply → List Fact → Type 0
IsStep s shard list event answer after =
    (worker : ℕ) (store : Store) → store.capacity ≡ s.capacity → slice_get store.shards shard ≡ Some list
    → ((step store (event worker)).1 ≡ answer) × (slice_get (step store (event worker)).0.shards shard ≡ Some after)

-- The pass of one shard had its turn, and no other changed. `list` is the whole list of the shard when the turn came,
-- which begins with all that the pass had seen; `new` is an entry that was added.
pub record Turn (s : ShardsView) (before after : List ShardPass) (shard : ℕ) (list : List Fact)
    (new : Option Fact) : Type 0 where
  pub old : ShardPass
  pub pass : ShardPass
  pub was : slice_get before shard ≡ Some old
  pub is : after ≡ slice_set before shard pass
  pub begins : IsPrefix old.seen list
  pub own : pass.own ≡ old.own ++ places (length list) new
  pub places_are : OwnsSeen pass
  pub parts : pass.parts ≡ old.parts
  pub true_facts : AreTrueIn s.frame pass.seen
  pub few : length pass.seen ≤ s.capacity

-- a shard was asked
pub record AskTurn (s : ShardsView) (before : List ShardPass) (shard : ℕ) (request : Request) (answer : Answer)
    (after : List ShardPass) : Type 0 where
  pub list : List Fact
  pub turn : Turn s before after shard list (added (s.frame, s.capacity) list request)
  pub answered : answer ≡ reply (s.frame, s.capacity) list request
  pub seen : turn.pass.seen ≡ list ++ entries (added (s.frame, s.capacity) list request)

-- a fact was published
pub record PublishTurn (s : ShardsView) (before : List ShardPass) (f : Fact) (answer : Published)
    (after : List ShardPass) : Type 0 where
  pub list : List Fact
  pub turn : Turn s before after (home_of s f.repeat) list (stored s.capacity list f)
  pub answered : reply_of answer ≡ published s.capacity list f
  pub seen : turn.pass.seen ≡ grown s.capacity list f
  pub core : IsStep s (home_of s f.repeat) list
      (λ worker. event.Publish worker (home_of s f.repeat) f) (reply_of answer) turn.pass.seen

-- a worker looked for a position
pub record LookTurn (s : ShardsView) (before : List ShardPass) (p : Position) (moves : ℕ) (answer : Option Fact)
    (after : List ShardPass) : Type 0 where
  pub list : List Fact
  pub turn : Turn s before after (home_of s (repeat_of p)) list None
  pub answered : answer ≡ best list (repeat_of p) p.counter moves
  pub seen : turn.pass.seen ≡ list
  pub core : IsStep s (home_of s (repeat_of p)) list
      (λ worker. event.Look worker (home_of s (repeat_of p)) (repeat_of p) p.counter moves)
      (replies.Found answer) turn.pass.seen
