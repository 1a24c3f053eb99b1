use Rattle.std.proofs.Common.{◌≡◌, ◌∙◌, [], ap, arith, rules, sym}
use Rattle.std.proofs.lemmas.Grind.{common_steps}
use Rattle.uci_front.specs.declared.plan.GoPlan.{GoPlan}
use Rattle.uci_front.proofs.ThinkLemmas.{empty_by, nowhere_comes}
use Rattle.uci_front.proofs.searching.search.Goals as goal

pub returns-then-is_empty-clause-came : goal.returns-then-is_empty-clause-came
returns-then-is_empty-clause-came g c =
    let stuck : c.args.plan.now.legal ≡ [] =
    sym (ap (λ (p : GoPlan). p.legal) c.plan.view_is)
    ∙ first_of (search rules, grind (arith, common_steps), grind (arith, empty_by)) in
    nowhere_comes c.args.source.now c.args.sink.now c.args.clock.now _ c.args.session.now c.args.plan.now _ c.requires.perft stuck c.requires.held
