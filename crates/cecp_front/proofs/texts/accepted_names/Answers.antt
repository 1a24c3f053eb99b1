use Rattle.std.proofs.Common.{◌∙◌, ap, sym}
use Rattle.uci_lines.specs.View.{texts}
use Rattle.cecp_front.proofs.SessionLaws.{names_accepted, names_refused}
use Rattle.cecp_front.proofs.texts.accepted_names.Goals as goal
use Rattle.cecp_front.proofs.texts.accepted_names.Goals.{then-is_ok+in_ok-push, else-is_ok}

pub loop-place-preserved : goal.loop-place-preserved
loop-place-preserved c = elim c.if-is_ok.branch [
  | then-is_ok+in_ok-push w ↦
      names_accepted c.args.variants.now c.loop-place.place c.entry.result.0.now c.entry.result.1 c.entry.ensures.is
      c.loop-place.names.items c.loop-place.invariant c.if-is_ok.names.items w.shown_name.result
      (sym c.is_ok.ensures.value ∙ w.if-is_ok.true) (ap (λ v. v.items) w.names-is ∙ w.in_ok-push.ensures.items) w.shown_name.ensures
  | else-is_ok w ↦
      ap (λ v. texts v.items) w.names-is
      ∙ names_refused c.args.variants.now c.loop-place.place c.entry.result.0.now c.entry.result.1 c.entry.ensures.is
      c.loop-place.names.items c.loop-place.invariant (sym c.is_ok.ensures.value ∙ w.if-is_ok.false)
]
