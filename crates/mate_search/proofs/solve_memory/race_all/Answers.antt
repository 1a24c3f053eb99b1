use Rattle.std.proofs.Common.{vec_len, arith, rules}
use Rattle.mate_search.proofs.RaceLaws.{handed-joined}
use Rattle.mate_search.proofs.solve_memory.race_all.Goals as goal

pub returns-clause-handed : goal.returns-clause-handed
returns-clause-handed g c =
    let (k, all, le) = c.requires.parts in let some = c.requires.workers in
    let few = c.share_out-kept.ensures.count in
    handed-joined c.args.race.now.shards.now c.args.passes c.share_out-kept.result _ _ (vec_len c.share_out-kept.new.jobs) _ k all (omega (arith, few, le, some)) (search rules) c.share_out-kept.ensures.grown (c.share_out-kept.ensures.parts k all (omega (arith, le, some))) c.run_all-end.ensures.handed c.join_all.ensures.passes c.join_all.ensures.parts c.join_all.ensures.grown
