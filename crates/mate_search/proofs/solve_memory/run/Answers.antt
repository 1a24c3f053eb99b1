use Rattle.std.proofs.Common.{◌≡◌, Ok, Err, arith, rules}
use Rattle.game_play.specs.Played.{story}
use Rattle.watching.specs.LookLaws.{on_ok_of}
use Rattle.mate_search.specs.Races.{closing_lines, race_lines, raced_lines}
use Rattle.mate_search.proofs.HandedLaws.{handed_more}
use Rattle.mate_showing.proofs.OrderLaws.{from_ok}
use Rattle.mate_search.proofs.solve_memory.run.Goals as goal

pub returns-in-Err-clause-ended : goal.returns-in-Err-clause-ended
returns-in-Err-clause-ended g c why is =
    let end : c.race_all-raced.result.end ≡ Err why = search rules in
    g.met.W.Watch.ends_wider _ _ _ (raced_lines c.args.race.now) why (c.race_all-raced.ensures.ended why end) (omega arith)

pub returns-in-Ok-clause-handed : goal.returns-in-Ok-clause-handed
returns-in-Ok-clause-handed g c =
    let s = c.args.race.now.shards.now in
    handed_more s _ _ _ (handed_more s _ _ _ c.race_all-raced.ensures.handed c.gather-decides.ensures.handed) c.conclude-end.ensures.handed

pub returns-in-Ok-clause-gone : goal.returns-in-Ok-clause-gone
returns-in-Ok-clause-gone g c =
    let race = c.args.race.now in
    let closing = closing_lines race.shards.now.frame race.n (story race.game.now).last in
    let end : c.race_all-raced.result.end ≡ Ok tt = search rules in
    let first = from_ok c.race_all-raced.result.end tt end c.race_all-raced.ensures.gone in
    on_ok_of c.conclude-end.result c.conclude-end.ensures.gone (λ rest.
    g.met.W.Watch.wider _ _ _ (raced_lines race) (g.met.W.Watch.more _ _ _ (race_lines race) closing first rest) (omega arith))

pub returns-in-Ok-clause-ended : goal.returns-in-Ok-clause-ended
returns-in-Ok-clause-ended g c why is =
    let race = c.args.race.now in
    let closing = closing_lines race.shards.now.frame race.n (story race.game.now).last in
    let end : c.race_all-raced.result.end ≡ Ok tt = search rules in
    let first = from_ok c.race_all-raced.result.end tt end c.race_all-raced.ensures.gone in
    g.met.W.Watch.ends_wider _ _ _ (raced_lines race) why (g.met.W.Watch.ends _ _ _ (race_lines race) closing why first (c.conclude-end.ensures.ended why is)) (omega arith)
