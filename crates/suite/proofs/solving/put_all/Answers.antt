use Rattle.std.proofs.lemmas.List.Elements.{All-pop}
use Rattle.suite.specs.Workers.{IsFound}
use Rattle.suite.proofs.SlotLaws.{slots-put}
use Rattle.suite.proofs.solving.put_all.Goals as goal

pub loop-one-preserved-then-at-len : goal.loop-one-preserved-then-at-len
loop-one-preserved-then-at-len c =
    let parts = All-pop (IsFound c.args.problems.now) c.loop-one.found.items c.pop.new.self.items c.pop.result c.pop.ensures.items c.loop-one.invariant.found in
    let one : IsFound c.args.problems.now c.in-Some.one = rw c.in-Some.is at parts.1 in
    record { slots = slots-put c.args.problems.now c.loop-one.slots.items c.in-Some.one.at c.in-Some.one.answer c.loop-one.invariant.slots one.answer; found = parts.0 }

pub loop-one-preserved-then-at-len-2 : goal.loop-one-preserved-then-at-len-2
loop-one-preserved-then-at-len-2 c =
    let parts = All-pop (IsFound c.args.problems.now) c.loop-one.found.items c.pop.new.self.items c.pop.result c.pop.ensures.items c.loop-one.invariant.found in
    let one : IsFound c.args.problems.now c.in-Some.one = rw c.in-Some.is at parts.1 in
    record { slots = slots-put c.args.problems.now c.loop-one.slots.items c.in-Some.one.at c.in-Some.one.answer c.loop-one.invariant.slots one.answer; found = parts.0 }

pub loop-one-preserved-then-at-len-3 : goal.loop-one-preserved-then-at-len-3
loop-one-preserved-then-at-len-3 c =
    let parts = All-pop (IsFound c.args.problems.now) c.loop-one.found.items c.pop.new.self.items c.pop.result c.pop.ensures.items c.loop-one.invariant.found in
    let one : IsFound c.args.problems.now c.in-Some.one = rw c.in-Some.is at parts.1 in
    record { slots = slots-put c.args.problems.now c.loop-one.slots.items c.in-Some.one.at c.in-Some.one.answer c.loop-one.invariant.slots one.answer; found = parts.0 }

pub loop-one-preserved-else-at-len : goal.loop-one-preserved-else-at-len
loop-one-preserved-else-at-len c =
    let parts = All-pop (IsFound c.args.problems.now) c.loop-one.found.items c.pop.new.self.items c.pop.result c.pop.ensures.items c.loop-one.invariant.found in
    record { slots = c.loop-one.invariant.slots; found = parts.0 }

pub loop-one-preserved : goal.loop-one-preserved
loop-one-preserved c =
    let parts = All-pop (IsFound c.args.problems.now) c.loop-one.found.items c.pop.new.self.items c.pop.result c.pop.ensures.items c.loop-one.invariant.found in
    record { slots = c.loop-one.invariant.slots; found = parts.0 }
