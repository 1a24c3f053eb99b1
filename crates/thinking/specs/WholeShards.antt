-- All that there is of shards and their passes.
use Rattle.std.specs.Prelude.{List}
use Rattle.fact_lock.specs.Passes.{all_parts}
use Rattle.mate_shards.specs.Grown.{HaveParts}
use Rattle.mate_shards.specs.Views.{ArePassesOf, ShardPass, ShardsView}

-- these are passes of the shards, and there are no others
pub record AreWhole (s : ShardsView) (ps : List ShardPass) : Type 0 where
  pub passes : ArePassesOf s ps
  pub parts : HaveParts all_parts ps
