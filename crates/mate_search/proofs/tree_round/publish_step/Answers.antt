use Rattle.std.proofs.Common.{◌≡◌, ap, sym, ◌∙◌, subst}
use Rattle.legality.specs.Stance.{Stance, after}
use Rattle.mate_core.specs.declared.frame.Frame.{Frame}
use Rattle.mate_core.specs.Claims.{fact_with}
use Rattle.mate_core.specs.Runs.{IsTrueIn}
use Rattle.mate_fact.specs.InFrame as In
use Rattle.rules_model.specs.declared.board.Position.{Position}
use Rattle.rules_model.specs.Repeats.{repeat_of}
use Rattle.mate_search.proofs.tree_round.publish_step.Goals as goal

pub claim_on-claim-requires : goal.claim_on-claim-requires
claim_on-claim-requires g c =
    let step = c.args.step.now in
    let k = step.told in
    let p = c.position-p.result.now in
    let there : p ≡ (after c.args.board.now step.chosen).position = c.position-p.ensures ∙ ap (λ (x : Stance). x.position) c.after-next.ensures in
    subst (λ (h : Frame). In.near_in h k.moves p ≡ k.wins) (sym c.frame.ensures)
    (subst (λ (q : Position). In.near_in c.args.shards.now.frame k.moves q ≡ k.wins) (sym there) c.requires.step.told.own)

pub publish_by_key-requires-clause-truth : goal.publish_by_key-requires-clause-truth
publish_by_key-requires-clause-truth g c =
    subst (λ (h : Frame). IsTrueIn h (fact_with (repeat_of c.position-p.result.now) c.claim_on-claim.result)) c.frame.ensures c.claim_on-claim.ensures

pub returns : goal.returns
returns g c = record {
  passes = c.publish_by_key.ensures.passes;
  parts = c.publish_by_key.ensures.parts;
  grown = c.publish_by_key.ensures.grown;
}
