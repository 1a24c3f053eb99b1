use Rattle.std.proofs.Common.{subst}
use Rattle.std.proofs.lemmas.Result.{IfOk-weaker}
use Rattle.std.specs.Result.{IfOk}
use Rattle.rules_model.specs.declared.board.Position.{Position}
use Rattle.mate_settle.specs.Tellings.{IsTold}
use Rattle.mate_settle.proofs.Settled.{after-is, told-asked}
use Rattle.mate_settle.proofs.choosing.settle_after.Goals as goal

pub returns-clause-asked : goal.returns-clause-asked
returns-clause-asked g c =
    let f = c.args.facts.now in
    let is = after-is f.rules f c.args.board.now c.after-next.result c.args.chosen.now c.requires.rules c.after-next.ensures in
    let told = subst (λ (q : Position). IfOk c.settle.result (IsTold f q c.args.n)) is c.settle.ensures.told in
    IfOk-weaker c.settle.result _ _ (λ k t. told-asked f _ c.args.n k t) told

pub returns-clause-own : goal.returns-clause-own
returns-clause-own g c =
    let f = c.args.facts.now in
    let is = after-is f.rules f c.args.board.now c.after-next.result c.args.chosen.now c.requires.rules c.after-next.ensures in
    let told = subst (λ (q : Position). IfOk c.settle.result (IsTold f q c.args.n)) is c.settle.ensures.told in
    IfOk-weaker c.settle.result _ _ (λ k t. t.own) told

pub returns-clause-short : goal.returns-clause-short
returns-clause-short g c =
    let f = c.args.facts.now in
    let is = after-is f.rules f c.args.board.now c.after-next.result c.args.chosen.now c.requires.rules c.after-next.ensures in
    let told = subst (λ (q : Position). IfOk c.settle.result (IsTold f q c.args.n)) is c.settle.ensures.told in
    IfOk-weaker c.settle.result _ _ (λ k t. t.won) told
