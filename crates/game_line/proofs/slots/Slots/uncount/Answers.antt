use Rattle.std.proofs.Common.{sym, subst, ◌∙◌, ◌++◌, ◌∷◌, []}
use Rattle.std.proofs.lemmas.List.{length-set}
use Rattle.game_line.specs.Slots.{AreCounts}
use Rattle.game_line.proofs.SlotLemmas.{uncounted}
use Rattle.game_line.proofs.slots.Slots.uncount.Goals as goal

pub invariant_of-self : goal.invariant_of-self
invariant_of-self c = length-set c.self.inside.counts.items c.slot_of-slot.result _ ∙ c.self.invariant

pub returns : goal.returns
returns c = λ keys h. uncounted keys c.self.inside.counts.items c.args.key c.slot_of-slot.result _ c.slot_of-slot.ensures.is c.slot_of-slot.ensures.below c.index-had.ensures (subst (AreCounts (keys ++ c.args.key ∷ [])) (sym c.self.view_is) h)
