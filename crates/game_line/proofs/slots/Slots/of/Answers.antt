use Rattle.std.proofs.Common.{◌%◌, take, get_or, sym, subst, List, ℕ, arith}
use Rattle.std.proofs.lemmas.List.{length-take, take_more}
use Rattle.game_line.specs.Slots.{AreCounts}
use Rattle.game_line.proofs.SlotLemmas.{few}
use Rattle.game_line.proofs.slots.Slots.of.Goals as goal

pub count-requires : goal.count-requires
count-requires c =
    let keys = take c.loop-key.key-index c.args.keys.now in
    let key = get_or c.args.keys.now c.loop-key.key-index 0 in
    let most = few keys c.loop-key.slots (key % 4096) c.loop-key.invariant (omega arith) in
    let part = length-take c.loop-key.key-index c.args.keys.now in
    let all = c.requires.few in
    omega arith

pub loop-key-preserved : goal.loop-key-preserved
loop-key-preserved c =
    subst (λ (ks : List ℕ). AreCounts ks c.count.new.self) (sym (take_more c.args.keys.now c.loop-key.key-index 0 c.loop-key-test.true))
    (c.count.ensures (take c.loop-key.key-index c.args.keys.now) c.loop-key.invariant)
