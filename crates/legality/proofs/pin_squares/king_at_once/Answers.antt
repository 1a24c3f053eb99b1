use Rattle.std.proofs.Common.{◌≡◌, true, false, ap, sym, ◌∙◌}
use Rattle.rules_model.specs.Repeats.{repeat_of}
use Rattle.legality.specs.Moved.{asks_only_safety}
use Rattle.legality.proofs.UnpinnedLaws.{king_is_safe}
use Rattle.legality.proofs.GoLaws.{king_goes}
use Rattle.legality.proofs.pin_squares.king_at_once.Goals as goal

pub returns : goal.returns
returns c =
    let rules = c.args.tables.now in
    let r = repeat_of c.args.p.now in
    let sets = c.args.sets.now in
    let danger = c.danger-danger.result in
    let still : rules.flying ≡ false = sym (ap (λ x. x.flying) c.rules-rules.ensures.is) ∙ c.if-rules.false in
    let only : asks_only_safety rules ≡ true = ap asks_only_safety (sym c.rules-rules.ensures.is) ∙ sym c.asks_only_safety.ensures ∙ c.if-not-asks_only_safety.false in
    king_goes rules r only sets.own c.barred_at_once-barred.result c.barred_at_once-barred.ensures c.args.from c.args.targets danger c.minus.result
    (λ to m among target no_passing.
    king_is_safe rules r sets c.occupied.result c.requires.sets (c.occupied.ensures _ _ _ c.requires.sets) c.prove_position_sizes.ensures.cells c.args.targets danger c.args.from to
    c.requires.from m c.danger-danger.ensures among c.if-not-is_only.ensures target still no_passing)
    c.requires.targets (λ s. sym (c.and.ensures s) ∙ c.if-not-is_empty.ensures.empty s) c.minus.ensures
