use Rattle.std.proofs.Common.{◌≡◌, ◌+◌, ◌∷◌, ◌++◌, [], length, refl, ap, sym, ◌∙◌, arith}
use Rattle.rules_model.specs.Games.{times}
use Rattle.rules_model.specs.Repeats.{repeat_of}
use Rattle.game_play.proofs.StandingLemmas.{standings-push}
use Rattle.game_play.proofs.standings.Standings.push.Goals as goal

pub invariant_of-self-2 : goal.invariant_of-self-2
invariant_of-self-2 c =
    let i = c.self.inside in
    let p = c.args.p.now in
    let key = c.key_of-key.result in
    let count = c.times-count.result + 1 in
    let kept = c.in_ok-reserve_one.ensures in
    let same : length i.positions.items ≡ length c.args.self.now = ap length c.self.view_is in
    let reserved : length c.reserve_one.new.positions.items ≡ length i.positions.items = ap length kept.positions in
    let newest : c.len.result ≡ length i.positions.items + 1 = omega (arith, c.reserve_one.new.positions.ok.0, c.push_reserved-2.ensures.len, c.len.ensures) in
    standings-push i.positions.items i.keys.items i.counts.items i.heads.items i.before.items c.self.invariant (omega arith) p key count c.slot_of-slot.result c.index.result.now c.len.result c.key_of-key.ensures
    (ap (λ n. n + 1) (c.times-count.ensures.is ∙ ap (times (repeat_of p)) (sym c.self.view_is)))
    c.slot_of-slot.ensures.is c.index.ensures newest
    _ _ _ _ _
    (c.push_reserved-2.ensures.items ∙ ap (λ ps. ps ++ p ∷ []) kept.positions)
    (c.push_reserved-3.ensures.items ∙ ap (λ ks. ks ++ key ∷ []) kept.keys)
    (c.push_reserved-4.ensures.items ∙ ap (λ ns. ns ++ count ∷ []) kept.counts)
    refl
    (c.push_reserved.ensures.items ∙ ap (λ ns. ns ++ c.index.result.now ∷ []) kept.before)
