use Rattle.std.proofs.Common.{◌&&◌, not, sym, ◌∙◌}
use Rattle.std.proofs.lemmas.Bool.{and_parts, not-true}
use Rattle.rules_model.specs.Kinds.{is_king}
use Rattle.square_set.specs.Members.{has}
use Rattle.attack_tables.proofs.AlikeLaws.{holds, known}
use Rattle.legality.proofs.PinLaws.{missed, not_safe_not_sane}
use Rattle.legality.proofs.pin_info.PinInfo.bars_gate.Goals as goal

pub returns-then-leaves_another : goal.returns-then-leaves_another
returns-then-leaves_another c = known c.is_empty.result (λ none to l h.
    let now = c.args.self.now in
    let rules = now.tables.now in
    let own = has now.sets.own c.args.from.0 in
    let kings = has now.sets.kings c.args.from.0 in
    let a = and_parts (own && not kings) (not (is_king rules c.args.kind)) (sym c.leaves_another.ensures ∙ c.if-leaves_another.true) in
    let b = and_parts own (not kings) a.0 in
    let enter = missed _ _ h (sym (c.minus.ensures to.0) ∙ holds c.is_empty.result none c.is_empty.ensures.empty to.0) in
    not_safe_not_sane _ _ _ (now.gate_without_evading c.args.kind c.args.from to c.requires.from l b.0 (not-true kings b.1) enter (not-true (is_king rules c.args.kind) a.1)))
