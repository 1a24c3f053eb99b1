use Rattle.std.proofs.Common.{subst}
use Rattle.rules_model.specs.declared.rules.Rules.{Rules}
use Rattle.rules_model.specs.Repeats.{repeat_of}
use Rattle.legality.specs.Moved.{GateAtOnce, GoAtOnce}
use Rattle.legality.proofs.pin_info.PinInfo.of_all.Goals as goal

pub invariant_of-result : goal.invariant_of-result
invariant_of-result c =
    let r = repeat_of c.args.p.now in
    let sets = c.args.sets.now in
    let at_once = c.free_at_once-at_once.result in
    let same = c.rules.ensures.is in
    let GoesAtOnce : Rules → Type 0 = λ rules. GoAtOnce rules r at_once.to_leave c.barred_at_once-barred.result in
    let GatesAtOnce : Rules → Type 0 = λ rules. GateAtOnce rules r sets.own sets.kings at_once.to_enter in
    record {
      are_sets = c.requires;
      go_freely = c.free_squares-free.ensures.safe;
      drop_freely = c.free_squares-free.ensures.drops;
      go_at_once = subst GoesAtOnce same c.free_at_once-at_once.ensures.goes;
      gate_at_once = subst GatesAtOnce same c.free_at_once-at_once.ensures.gates;
      go_without_evading = c.non_evading_unless_free-non_evading.ensures.go;
      drop_without_evading = c.non_evading_unless_free-non_evading.ensures.drop;
      gate_without_evading = c.non_evading_unless_free-non_evading.ensures.gate;
    }
