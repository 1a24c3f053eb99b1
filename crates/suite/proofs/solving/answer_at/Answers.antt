use Rattle.std.proofs.Common.{◌<◌, arith, length, sym, ◌∙◌}
use Rattle.suite.proofs.SlotLaws.{slot-there, slots-taken}
use Rattle.suite.proofs.solving.answer_at.Goals as goal

pub returns-in-Some-clause-slots : goal.returns-in-Some-clause-slots
returns-in-Some-clause-slots g c = rw c.take.ensures.after (slots-taken c.args.problems.now c.args.slots.now.items c.args.at c.requires.slots)

pub returns-in-Some-clause-answer : goal.returns-in-Some-clause-answer
returns-in-Some-clause-answer g c = λ p there.
    let within = c.requires.within in
    let count = c.requires.slots.count in
    let low : c.args.at < length c.args.slots.now.items = omega (arith, within, count) in
    c.requires.slots.each c.args.at c.in-Some.answer (slot-there c.args.slots.now.items c.args.at c.index_mut.result.now c.in-Some.answer low c.index_mut.ensures.value (sym c.take.ensures.value ∙ c.in-Some.is)) p there
