use Rattle.std.proofs.Common.{sym, subst, ◌∙◌}
use Rattle.std.proofs.lemmas.List.{length-set}
use Rattle.game_line.specs.Slots.{AreCounts}
use Rattle.game_line.proofs.SlotLemmas.{counted}
use Rattle.game_line.proofs.slots.Slots.count.Goals as goal

pub invariant_of-self : goal.invariant_of-self
invariant_of-self c = length-set c.self.inside.counts.items c.slot_of-slot.result _ ∙ c.self.invariant

pub returns : goal.returns
returns c = λ keys h. counted keys c.self.inside.counts.items c.args.key c.slot_of-slot.result _ c.slot_of-slot.ensures.is c.slot_of-slot.ensures.below c.index-had.ensures (subst (AreCounts keys) (sym c.self.view_is) h)
