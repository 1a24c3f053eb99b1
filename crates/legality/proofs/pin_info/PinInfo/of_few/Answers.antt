use Rattle.rules_model.specs.Repeats.{repeat_of}
use Rattle.legality.proofs.UnpinnedLaws.{none_dropped, none_freely, none_gating, none_going}
use Rattle.legality.proofs.NonEvadingLaws.{none_dropped_without_evading, none_gating_without_evading, none_goes_without_evading}
use Rattle.legality.proofs.pin_info.PinInfo.of_few.Goals as goal

pub invariant_of-result : goal.invariant_of-result
invariant_of-result c =
    record {
      are_sets = c.requires;
      go_freely = none_freely c.args.tables.now (repeat_of c.args.p.now) c.args.sets.now.own;
      drop_freely = none_dropped c.args.tables.now (repeat_of c.args.p.now);
      go_at_once = none_going c.args.tables.now (repeat_of c.args.p.now) c.args.sets.now.own;
      gate_at_once = none_gating c.args.tables.now (repeat_of c.args.p.now) c.args.sets.now.own c.args.sets.now.kings;
      go_without_evading = none_goes_without_evading c.args.tables.now (repeat_of c.args.p.now) (record { 0 = 0 });
      drop_without_evading = none_dropped_without_evading c.args.tables.now (repeat_of c.args.p.now);
      gate_without_evading = none_gating_without_evading c.args.tables.now (repeat_of c.args.p.now) c.args.sets.now.own c.args.sets.now.kings;
    }
