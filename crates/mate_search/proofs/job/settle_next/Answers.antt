use Rattle.std.proofs.Common.{◌≡◌, sym, ◌∙◌, subst}
use Rattle.mate_core.specs.declared.frame.Frame.{Frame}
use Rattle.mate_core.specs.Claims.{fact_with}
use Rattle.mate_core.specs.Runs.{IsTrueIn}
use Rattle.mate_fact.specs.InFrame as In
use Rattle.rules_model.specs.declared.board.Position.{Position}
use Rattle.rules_model.specs.Repeats.{repeat_of}
use Rattle.mate_search.proofs.HandedLaws.{handed_more}
use Rattle.mate_search.proofs.job.settle_next.Goals as goal

pub claim_on-claim-requires : goal.claim_on-claim-requires
claim_on-claim-requires g c =
    let k = c.in_ok-told.told in
    subst (λ (h : Frame). In.near_in h k.moves c.position-p.result.now ≡ k.wins) (c.requires.frame ∙ sym c.frame.ensures)
    (subst (λ (q : Position). In.near_in c.args.facts.now k.moves q ≡ k.wins) (sym c.position-p.ensures) c.in_ok-told.ensures.told.own)

pub publish_by_key-published-requires-clause-truth : goal.publish_by_key-published-requires-clause-truth
publish_by_key-published-requires-clause-truth g c =
    subst (λ (h : Frame). IsTrueIn h (fact_with (repeat_of c.position-p.result.now) c.claim_on-claim.result)) c.frame.ensures c.claim_on-claim.ensures

pub returns-clause-handed : goal.returns-clause-handed
returns-clause-handed g c = handed_more c.args.race.now.shards.now _ _ _
    (record { passes = c.look_by_key.ensures.passes; parts = c.look_by_key.ensures.parts; grown = c.look_by_key.ensures.grown })
    (record { passes = c.publish_by_key-published.ensures.passes; parts = c.publish_by_key-published.ensures.parts; grown = c.publish_by_key-published.ensures.grown })
