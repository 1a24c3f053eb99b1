use Rattle.mate_shards.proofs.Crosses.{shards_cross}
use Rattle.fact_tests.proofs.shards.publish_in_two.Goals as goal

pub join-one-requires-send-F : goal.join-one-requires-send-F
join-one-requires-send-F g c κs within = search shards_cross depth 30

pub join-one-requires-send-A : goal.join-one-requires-send-A
join-one-requires-send-A g c κs within = search shards_cross depth 30
