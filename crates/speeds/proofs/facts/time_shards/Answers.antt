use denote.Param.Send.{sendable}
use Rattle.std.proofs.Common.{sym, subst, All}
use Rattle.std.proofs.Crossing.{crosses}
use Rattle.std.proofs.lemmas.List.Elements.{All-weaker}
use Rattle.mate_shards.proofs.Crosses.{passes-send, shards-sync}
use Rattle.mate_shards.specs.Refuted.{RefutesAll}
use Rattle.mate_shards.specs.Views.{ArePassesOf}
use Rattle.speeds.proofs.facts.time_shards.Goals as goal

pub time_both-requires-send-S-Right : goal.time_both-requires-send-S-Right
time_both-requires-send-S-Right g c κs within = search (sendable, crosses, passes-send) depth 30

pub time_both-requires-sync-S : goal.time_both-requires-sync-S
time_both-requires-sync-S g c κs within = search (sendable, crosses, shards-sync) depth 30

pub time_both-requires-clause-rights : goal.time_both-requires-clause-rights
time_both-requires-clause-rights g c κs within =
    let s = c.in_ok-shards.shards in
    All-weaker (ArePassesOf s) (λ p. ArePassesOf s p × RefutesAll s.frame) (λ p is. (is, c.in_ok-shards.ensures.truth)) _
    (subst (All (ArePassesOf s)) (sym c.deref_mut.ensures.value) c.in_ok-shards.ensures.passes)
