use Rattle.std.proofs.Common.{subst, rules}
use Rattle.mate_core.specs.declared.frame.Frame.{Frame}
use Rattle.mate_tree.specs.Shapes.{IsStep}
use Rattle.mate_search.proofs.HandedLaws.{handed_none}
use Rattle.mate_search.proofs.tree_round.grow_once.Goals as goal

pub publish_step-requires-clause-step : goal.publish_step-requires-clause-step
publish_step-requires-clause-step g c =
    let there : IsStep c.args.facts.now c.args.board.now c.args.n c.in-Some.step = search rules in
    subst (λ (f : Frame). IsStep f c.args.board.now c.args.n c.in-Some.step) c.requires.facts there

pub returns-in_err-step-clause-handed : goal.returns-in_err-step-clause-handed
returns-in_err-step-clause-handed g c = handed_none c.args.shards.now c.args.passes.now c.requires.passes

pub returns-in-None-clause-handed : goal.returns-in-None-clause-handed
returns-in-None-clause-handed g c = handed_none c.args.shards.now c.args.passes.now c.requires.passes
