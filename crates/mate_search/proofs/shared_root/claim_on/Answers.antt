use Rattle.std.proofs.Common.{None, refl}
use Rattle.mate_core.specs.Claims.{fact_with}
use Rattle.rules_model.specs.Repeats.{repeat_of}
use Rattle.mate_search.proofs.HandedLaws.{fact_true}
use Rattle.mate_search.proofs.shared_root.claim_on.Goals as goal

pub returns : goal.returns
returns c =
    let f = c.args.frame.now in
    let p = c.args.p.now in
    let t = c.args.told in
    fact_true f (fact_with (repeat_of p) (record { attacker = f.attacker; moves = t.moves; counter = p.counter; best = None; wins = t.wins })) p t.moves refl refl refl c.requires
