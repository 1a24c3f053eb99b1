use Rattle.std.proofs.Common.{refl}
use Rattle.next_position.proofs.TouchedLemmas.{is-touched, next-cells, next-hands}
use Rattle.next_position.proofs.written.touched.Goals as goal

pub returns : goal.returns
returns c =
    let rules = c.args.rules.now in
    let p = c.args.p.now in
    let m = c.args.m.now in
    is-touched rules p _ m _ (next-cells rules p _ m refl) (next-hands rules p _ m refl) c.touched_by.ensures.squares c.touched_by.ensures.hands
