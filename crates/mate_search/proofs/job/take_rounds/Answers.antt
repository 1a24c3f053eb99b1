use Rattle.std.proofs.Common.{◌≡◌, ◌*◌, Err, arith, rules}
use Rattle.watching.specs.LookLaws.{on_ok_of}
use Rattle.mate_search.proofs.HandedLaws.{handed_more}
use Rattle.mate_search.specs.Races.{root_lines}
use Rattle.mate_search.proofs.job.take_rounds.Goals as goal

pub returns-in_err-take_roots-clause-ended : goal.returns-in_err-take_roots-clause-ended
returns-in_err-take_roots-clause-ended g c why is =
    let back : c.take_roots.result ≡ Err why = search rules in
    g.met.W.Watch.ends_wider _ _ _ (2 * root_lines c.args.race.now) why (c.take_roots.ensures.ended why back) (omega arith)

pub returns-clause-handed : goal.returns-clause-handed
returns-clause-handed g c = handed_more c.args.race.now.shards.now _ _ _ c.take_roots.ensures.handed c.take_roots-2.ensures.handed

pub returns-clause-gone : goal.returns-clause-gone
returns-clause-gone g c =
    on_ok_of c.take_roots-2.result c.take_roots-2.ensures.gone (λ gone.
    g.met.W.Watch.wider _ _ _ (2 * root_lines c.args.race.now) (g.met.W.Watch.more _ _ _ _ _ c.in_ok-take_roots.ensures.gone gone) (omega arith))

pub returns-clause-ended : goal.returns-clause-ended
returns-clause-ended g c why is =
    g.met.W.Watch.ends_wider _ _ _ (2 * root_lines c.args.race.now) why (g.met.W.Watch.ends _ _ _ _ _ why c.in_ok-take_roots.ensures.gone (c.take_roots-2.ensures.ended why is)) (omega arith)
