use Rattle.std.proofs.Common.{◌≡◌, length, ap, sym, subst, ◌∙◌}
use Rattle.std.proofs.lemmas.Result.{on_ok_weaker}
use Rattle.rules_model.specs.declared.board.Position.{Position}
use Rattle.check_moves.proofs.ListingLaws.{all_listed, asked_listed}
use Rattle.check_moves.proofs.listing.push_checks.Goals as goal

pub returns-then-rules-clause-ok : goal.returns-then-rules-clause-ok
returns-then-rules-clause-ok c = on_ok_weaker c.push_legal.result (λ u. all_listed c.args.board.now _ _ u) c.push_legal.ensures.ok

pub returns-clause-ok : goal.returns-clause-ok
returns-clause-ok c =
    let s = c.args.board.now in
    let occupied = c.occupied.ensures _ _ _ c.sets.ensures in
    let size = subst (λ (p : Position). length p.cells ≡ 120) c.position.ensures c.prove_position_sizes.ensures.cells in
    let walks = sym (ap (λ r. r.flying) (c.rules-rules.ensures.is ∙ c.tables.ensures)) ∙ c.if-rules.false in
    on_ok_weaker c.push_asked.result
    (λ u. asked_listed s c.args.checks.now c.step_to_close-step.result _ c.requires.checks c.step_to_close-step.ensures.step c.ask.ensures size walks c.occupied.result occupied c.prove_moved.ensures _ _ u)
    c.push_asked.ensures.ok
