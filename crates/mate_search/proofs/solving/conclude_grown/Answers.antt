use Rattle.std.proofs.Common.{◌≡◌, ◌+◌, Err, ap, ◌∙◌, arith, rules}
use Rattle.game_play.specs.Played.{story}
use Rattle.legality.specs.Stance.{Stance}
use Rattle.mate_search.specs.Races.{closing_lines, tree_lines}
use Rattle.mate_search.proofs.HandedLaws.{handed_more}
use Rattle.mate_search.proofs.solving.conclude_grown.Goals as goal

pub returns-in_err-best-clause-ended : goal.returns-in_err-best-clause-ended
returns-in_err-best-clause-ended g c why is =
    let f = c.args.shards.now.frame in
    let n = c.args.n in
    let game = story c.args.game.now in
    let last : c.new-board.result.position ≡ game.last = ap (λ (x : Stance). x.position) c.new-board.ensures ∙ c.position.ensures.is in
    let tree = ap (tree_lines f n) last in
    let back : c.grow_tree.result ≡ Err why = search rules in
    g.met.W.Watch.ends_wider _ _ _ (tree_lines f n game.last + closing_lines f n game.last) why (c.grow_tree.ensures.ended why back) (omega (arith, tree))

pub returns-clause-handed : goal.returns-clause-handed
returns-clause-handed g c = handed_more c.args.shards.now _ _ _ c.in_ok-best.ensures.handed c.conclude.ensures.handed

pub returns-clause-ended : goal.returns-clause-ended
returns-clause-ended g c why is =
    let f = c.args.shards.now.frame in
    let n = c.args.n in
    let game = story c.args.game.now in
    let last : c.new-board.result.position ≡ game.last = ap (λ (x : Stance). x.position) c.new-board.ensures ∙ c.position.ensures.is in
    let tree = ap (tree_lines f n) last in
    g.met.W.Watch.ends_wider _ _ _ (tree_lines f n game.last + closing_lines f n game.last) why
    (g.met.W.Watch.ends _ _ _ _ _ why c.in_ok-best.ensures.gone (c.conclude.ensures.ended why is)) (omega (arith, tree))
