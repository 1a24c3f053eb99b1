use Rattle.std.proofs.Common.{◌≡◌, ◌⊎◌, ◌+◌, ◌*◌, ◌<◌, ◌≤◌, true, refl, ap, sym, ◌∙◌, subst, arith}
use Rattle.rules_model.specs.declared.board.Position.{Position}
use Rattle.rules_model.specs.Fit.{IsFit}
use Rattle.forced_wins.specs.Wins.{near_root}
use Rattle.game_play.specs.Played.{story}
use Rattle.legality.specs.Stance.{Stance}
use Rattle.mate_showing.specs.Tables.{most}
use Rattle.mate_showing.proofs.Kept.{counter-low}
use Rattle.mate_showing.proofs.Root.{frame-blocked, plan-next, tabled, played-in, room-as, near-as, inside-as}
use Rattle.mate_showing.proofs.solving.plan_of.Goals as goal

pub plan_for-requires-clause-low : goal.plan_for-requires-clause-low
plan_for-requires-clause-low c =
    let low = counter-low c.args.board.now.rules c.args.board.now.position c.prove_ready.ensures.sound in
    subst (λ (y : Position). y.counter ≤ 9999) (sym c.position.ensures) low

pub returns-clause-next : goal.returns-clause-next
returns-clause-next c =
    let f = c.args.frame.now in
    let game = story c.args.game.now in
    let p = c.args.board.now.position in
    let plan = c.plan_for.result in
    let last : p ≡ game.last = ap (λ (x : Stance). x.position) c.requires.board in
    let fit : IsFit f.rules = subst IsFit (sym c.requires.frame.rules) c.prove_played.ensures.fit in
    let whole : plan.whole ≡ c.args.n = c.plan_for.ensures.whole in
    let won : near_root f.rules plan.whole game f.attacker ≡ true = ap (λ k. near_root f.rules k game f.attacker) whole ∙ c.requires.won in
    let room = room-as f f p c.position.result.now c.args.n plan.whole plan.room refl c.position.ensures whole c.plan_for.ensures.room in
    let some : 0 < plan.whole = let k = c.requires.some in omega arith in
    plan-next f game (frame-blocked c.args.game.now f c.requires.frame) fit plan p last some won (c.plan_for.ensures.root ∙ c.position.ensures) room

pub returns-clause-tabled : goal.returns-clause-tabled
returns-clause-tabled c nodes kept stands =
    let by = c.args.game.now in
    let f = c.args.frame.now in
    let n = c.args.n in
    let p = c.args.board.now.position in
    let q = c.position.result.now in
    let plan = c.plan_for.result in
    let here : q ≡ p = c.position.ensures in
    let last : p ≡ (story by).last = ap (λ (x : Stance). x.position) c.requires.board in
    let whole : plan.whole ≡ n = c.plan_for.ensures.whole in
    let small : plan.whole ≤ most = let k = c.requires.small in omega arith in
    let low = counter-low c.args.board.now.rules p c.prove_ready.ensures.sound in
    tabled f (story by) (frame-blocked by f c.requires.frame) (subst IsFit (sym c.requires.frame.rules) c.prove_played.ensures.fit) plan nodes p last (c.plan_for.ensures.root ∙ here) small kept stands
    (ap (λ k. near_root f.rules k (story by) f.attacker) whole ∙ c.requires.won)
    (played-in by f c.requires.frame.rules c.prove_played.ensures) low
    (λ z. subst (λ k. (0 < 2 * f.rules.n_move) × (2 * f.rules.n_move ≤ p.counter + (k + k))) (sym whole) (near-as f f p q n refl here (c.plan_for.ensures.near z)))
    (λ z. subst (λ k. (2 * f.rules.n_move ≡ 0) ⊎ (p.counter + (k + k) < 2 * f.rules.n_move)) (sym whole) (inside-as f f p q n refl here (c.plan_for.ensures.inside z)))
    (room-as f f p q n plan.whole plan.room refl here whole c.plan_for.ensures.room)
