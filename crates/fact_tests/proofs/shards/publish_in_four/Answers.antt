use Rattle.mate_shards.proofs.Crosses.{shards_cross}
use Rattle.fact_tests.proofs.shards.publish_in_four.Goals as goal

pub join-front-requires-send-F : goal.join-front-requires-send-F
join-front-requires-send-F g c κs within = search shards_cross depth 30

pub join-front-requires-send-A : goal.join-front-requires-send-A
join-front-requires-send-A g c κs within = search shards_cross depth 30
