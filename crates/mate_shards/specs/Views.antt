-- What contracts see of the shards and of the passes for them.
use Rattle.std.specs.Prelude.{◌≡◌, ℕ, ◌+◌, ◌<◌, ◌≤◌, List, [], ◌++◌, length, Some, All, slice_get}
use mathlib.Core.List.{IsPrefix}
use Rattle.forced_wins.specs.declared.fact.Fact.{Fact}
use Rattle.fact_lock.specs.Passes.{LockView, PassView, IsPassOf, OwnsSeen, AreApart, all_parts, longer}
use Rattle.mate_core.specs.declared.frame.Frame.{Frame}
use Rattle.mate_core.specs.Runs.{AreTrueIn}
use Rattle.mate_shards.specs.Kept.{IsKept}
use Rattle.mate_shards.specs.Shard.{Key}

-- the frame in which all facts are true, how many a shard may have, and a lock for each shard
pub record ShardsView : Type 0 where
  pub frame : Frame
  pub capacity : ℕ
  pub locks : List (LockView Key)

-- a pass for one shard
abbrev pub ShardPass : Type 0
ShardPass = PassView Key Fact

-- one pass for each shard, all with as many parts
pub record ArePassesOf (s : ShardsView) (passes : List ShardPass) : Type 0 where
  pub count : length passes ≡ length s.locks
  pub each : (k : ℕ) (l : LockView Key) (p : ShardPass) → slice_get s.locks k ≡ Some l → slice_get passes k ≡ Some p
      → IsPassOf l p
  pub parts : (n : ℕ) × All (λ p. p.parts ≡ n) passes

-- ---- new passes

-- it has all parts, has seen these facts and owns none
pub record IsFresh (facts : List Fact) (p : ShardPass) : Type 0 where
  pub seen : p.seen ≡ facts
  pub own : p.own ≡ []
  pub parts : p.parts ≡ all_parts

-- ---- split and join

-- the first keeps what is its own and all parts but one, the second has one part; both have seen as much
pub record IsHalved (p a b : ShardPass) : Type 0 where
  pub seen : (a.seen ≡ p.seen) × (b.seen ≡ p.seen)
  pub own : (a.own ≡ p.own) × (b.own ≡ [])
  pub parts : (a.parts + 1 ≡ p.parts) × (b.parts ≡ 1)

abbrev pub AreHalved : List ShardPass → List ShardPass → List ShardPass → Type 0
AreHalved ps left right =
    (k : ℕ) (p a b : ShardPass) → slice_get ps k ≡ Some p → slice_get left k ≡ Some a → slice_get right k ≡ Some b
    → IsHalved p a b

-- it has seen the longer list, and owns what both did, of which no place was both's
pub record IsJoined (a b p : ShardPass) : Type 0 where
  pub seen : p.seen ≡ longer a.seen b.seen
  pub begins : IsPrefix a.seen p.seen × IsPrefix b.seen p.seen
  pub own : p.own ≡ a.own ++ b.own
  pub apart : AreApart a.own b.own
  pub places : OwnsSeen p
  pub parts : p.parts ≡ a.parts + b.parts

abbrev pub AreJoined : List ShardPass → List ShardPass → List ShardPass → Type 0
AreJoined left right ps =
    (k : ℕ) (a b p : ShardPass) → slice_get left k ≡ Some a → slice_get right k ≡ Some b → slice_get ps k ≡ Some p
    → IsJoined a b p

-- the locks of shards with this frame and capacity
abbrev pub AreLocksOf : Frame → ℕ → List (LockView Key) → Type 0
AreLocksOf frame capacity locks = (0 < length locks) × (length locks ≤ 64) × All (λ l. l.key ≡ (frame, capacity)) locks

-- ---- rebase

-- A shard begins anew with what is kept of its list, which begins with all that the pass had seen. The pass owns
-- nothing and has all parts.
pub record IsRebased (old new : Frame) (before after : ShardPass) : Type 0 where
  pub list : List Fact
  pub begins : IsPrefix before.seen list
  pub kept : IsKept old new list after.seen
  pub own : after.own ≡ []
  pub parts : after.parts ≡ all_parts
  pub true_facts : AreTrueIn new after.seen

abbrev pub AreRebased : Frame → Frame → List ShardPass → List ShardPass → Type 0
AreRebased old new before after =
    (k : ℕ) (p q : ShardPass) → slice_get before k ≡ Some p → slice_get after k ≡ Some q → IsRebased old new p q
