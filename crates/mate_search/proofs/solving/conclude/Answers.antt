use Rattle.std.proofs.Common.{◌≡◌, ◌+◌, ◌*◌, false, Err, refl, ap, sym, ◌∙◌, subst, arith, rules}
use Rattle.rules_model.specs.declared.rules.Rules.{Rules}
use Rattle.forced_wins.specs.Wins.{near_root, wins}
use Rattle.game_play.specs.Played.{story}
use Rattle.mate_core.specs.declared.frame.Frame.{Frame}
use Rattle.mate_settle.specs.Lines.{lines_within, seen_in}
use Rattle.legality.specs.Stance.{Stance}
use Rattle.watching.specs.LookLaws.{on_ok_of}
use Rattle.mate_search.specs.Races.{closing_lines}
use Rattle.mate_search.proofs.HandedLaws.{handed_none, handed_more, shared_more}
use Rattle.mate_showing.proofs.Root.{frame-blocked, lost_by, not-won, walk-lines}
use Rattle.mate_search.proofs.solving.conclude.Goals as goal

pub returns-in_err-verdict-clause-handed : goal.returns-in_err-verdict-clause-handed
returns-in_err-verdict-clause-handed g c = handed_none c.args.shards.now c.args.passes.now c.requires.passes

pub returns-in_err-verdict-clause-ended : goal.returns-in_err-verdict-clause-ended
returns-in_err-verdict-clause-ended g c why is =
    let game = story c.args.game.now in
    let n = c.args.n in
    let f = c.args.shards.now.frame in
    let p = c.new-board.result.position in
    let last : p ≡ game.last = ap (λ (x : Stance). x.position) c.new-board.ensures ∙ c.position.ensures.is in
    let same = walk-lines f c.args.facts.now n n game.last p c.requires.facts refl last in
    let back : c.decide.result ≡ Err why = search rules in
    let lines : lines_within (seen_in c.args.facts.now) n p ≡ lines_within (seen_in f) n game.last = λ i. lines_within (seen_in (c.requires.facts i)) n (last i) in
    g.met.W.Watch.ends_wider _ _ _ (closing_lines f n game.last) why (c.decide.ensures.ended why back) (omega (arith, lines))

pub returns-then-not-verdict-clause-right : goal.returns-then-not-verdict-clause-right
returns-then-not-verdict-clause-right g c =
    let f = c.args.shards.now.frame in
    let game = story c.args.game.now in
    let won : c.in_ok-verdict.verdict.won ≡ near_root f.rules c.args.n game f.attacker = subst (λ (x : Frame). c.in_ok-verdict.verdict.won ≡ near_root x.rules c.args.n game x.attacker) c.requires.facts c.in_ok-verdict.ensures.won in
    let bl = frame-blocked c.args.game.now f c.requires.frame in
    subst (λ (x : Rules). wins x c.args.n game f.attacker ≡ false) c.requires.frame.rules
    (not-won f game bl c.args.n (sym (lost_by c.in_ok-verdict.verdict.won c.if-not-verdict.true) ∙ won))

pub returns-then-not-verdict-clause-gone : goal.returns-then-not-verdict-clause-gone
returns-then-not-verdict-clause-gone g c =
    let game = story c.args.game.now in
    let n = c.args.n in
    let f = c.args.shards.now.frame in
    let p = c.new-board.result.position in
    let last : p ≡ game.last = ap (λ (x : Stance). x.position) c.new-board.ensures ∙ c.position.ensures.is in
    let lines : lines_within (seen_in c.args.facts.now) n p ≡ lines_within (seen_in f) n game.last = λ i. lines_within (seen_in (c.requires.facts i)) n (last i) in
    g.met.W.Watch.wider _ _ _ (closing_lines f n game.last) c.in_ok-verdict.ensures.gone (omega (arith, lines))

pub returns-clause-handed : goal.returns-clause-handed
returns-clause-handed g c = handed_more c.args.shards.now _ _ _ c.publish_root.ensures.handed c.publish_wins.ensures

pub returns-clause-gone : goal.returns-clause-gone
returns-clause-gone g c =
    let game = story c.args.game.now in
    let n = c.args.n in
    let f = c.args.shards.now.frame in
    let p = c.new-board.result.position in
    let last : p ≡ game.last = ap (λ (x : Stance). x.position) c.new-board.ensures ∙ c.position.ensures.is in
    let kept : c.publish_root.new.facts ≡ f = c.publish_root.ensures.facts ∙ c.in_ok-verdict.ensures.frame ∙ c.requires.facts in
    let lines : lines_within (seen_in c.args.facts.now) n p ≡ lines_within (seen_in f) n game.last = λ i. lines_within (seen_in (c.requires.facts i)) n (last i) in
    let walk = walk-lines f c.publish_root.new.facts n n game.last p kept refl last in
    on_ok_of c.show.result c.show.ensures.gone (λ rest.
    g.met.W.Watch.wider _ _ _ (closing_lines f n game.last) (g.met.W.Watch.more _ _ _ (lines_within (seen_in c.args.facts.now) n p) ((n + 1) * lines_within (seen_in c.publish_root.new.facts) n p) c.in_ok-verdict.ensures.gone rest) (omega (arith, lines, walk)))

pub returns-clause-ended : goal.returns-clause-ended
returns-clause-ended g c why is =
    let game = story c.args.game.now in
    let n = c.args.n in
    let f = c.args.shards.now.frame in
    let p = c.new-board.result.position in
    let last : p ≡ game.last = ap (λ (x : Stance). x.position) c.new-board.ensures ∙ c.position.ensures.is in
    let kept : c.publish_root.new.facts ≡ f = c.publish_root.ensures.facts ∙ c.in_ok-verdict.ensures.frame ∙ c.requires.facts in
    let lines : lines_within (seen_in c.args.facts.now) n p ≡ lines_within (seen_in f) n game.last = λ i. lines_within (seen_in (c.requires.facts i)) n (last i) in
    let walk = walk-lines f c.publish_root.new.facts n n game.last p kept refl last in
    g.met.W.Watch.ends_wider _ _ _ (closing_lines f n game.last) why (g.met.W.Watch.ends _ _ _ (lines_within (seen_in c.args.facts.now) n p) ((n + 1) * lines_within (seen_in c.publish_root.new.facts) n p) why c.in_ok-verdict.ensures.gone (c.show.ensures.ended why is)) (omega (arith, lines, walk))

pub returns-clause-shared : goal.returns-clause-shared
returns-clause-shared g c =
    on_ok_of c.show.result c.show.ensures.gone (λ rest. shared_more c.args.shards.now _ _ c.args.game.now c.args.n c.publish_wins.ensures c.publish_root.ensures.shared)
