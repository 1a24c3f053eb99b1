use Rattle.std.proofs.Common.{◌≡◌, Err, ap, arith, rules}
use Rattle.legality.specs.Stance.{Stance}
use Rattle.watching.specs.LookLaws.{on_ok_of}
use Rattle.mate_search.proofs.HandedLaws.{handed_more}
use Rattle.mate_search.specs.Races.{race_lines, tree_lines}
use Rattle.mate_search.proofs.job.take_all.Goals as goal

pub returns-in_err-grown-clause-ended : goal.returns-in_err-grown-clause-ended
returns-in_err-grown-clause-ended g c why is =
    let race = c.args.race.now in
    let back : c.grow_tree.result ≡ Err why = search rules in
    let tree = ap (λ (s : Stance). tree_lines race.shards.now.frame race.n s.position) c.board-board.ensures in
    g.met.W.Watch.ends_wider _ _ _ (race_lines race) why (c.grow_tree.ensures.ended why back) (omega arith)

pub returns-in-Some-clause-gone : goal.returns-in-Some-clause-gone
returns-in-Some-clause-gone g c =
    let race = c.args.race.now in
    let tree = ap (λ (s : Stance). tree_lines race.shards.now.frame race.n s.position) c.board-board.ensures in
    g.met.W.Watch.wider _ _ _ (race_lines race) c.in_ok-grown.ensures.gone (omega arith)

pub returns-clause-handed : goal.returns-clause-handed
returns-clause-handed g c = handed_more c.args.race.now.shards.now _ _ _ c.in_ok-grown.ensures.handed c.take_rounds.ensures.handed

pub returns-clause-gone : goal.returns-clause-gone
returns-clause-gone g c =
    let race = c.args.race.now in
    let tree = ap (λ (s : Stance). tree_lines race.shards.now.frame race.n s.position) c.board-board.ensures in
    on_ok_of c.take_rounds.result c.take_rounds.ensures.gone (λ gone.
    g.met.W.Watch.wider _ _ _ (race_lines race) (g.met.W.Watch.more _ _ _ _ _ c.in_ok-grown.ensures.gone gone) (omega arith))

pub returns-clause-ended : goal.returns-clause-ended
returns-clause-ended g c why is =
    let race = c.args.race.now in
    let tree = ap (λ (s : Stance). tree_lines race.shards.now.frame race.n s.position) c.board-board.ensures in
    g.met.W.Watch.ends_wider _ _ _ (race_lines race) why (g.met.W.Watch.ends _ _ _ _ _ why c.in_ok-grown.ensures.gone (c.take_rounds.ensures.ended why is)) (omega arith)
