use Rattle.std.proofs.Common.{rules}
use Rattle.game_line.proofs.SlotLemmas.{no-counts}
use Rattle.game_line.proofs.slots.Slots.none.Goals as goal

pub returns : goal.returns
returns c = no-counts _ (c.in_ok-vec.ensures.items_if_clones_equal (λ y e. search rules))

pub invariant_of-result : goal.invariant_of-result
invariant_of-result c = (no-counts _ (c.in_ok-vec.ensures.items_if_clones_equal (λ y e. search rules))).long
