use Rattle.std.proofs.Common.{◌≡◌, ◌≤◌, ℕ, List, arith, rules, subst, sym}
use Rattle.io_ports.specs.declared.limits.SearchFault.TheVariants as fault
use Rattle.rules_model.specs.declared.moves.Move.{Move}
use Rattle.game_play.specs.Played.{story}
use Rattle.watching.specs.declared.halt.Halt.{Halt}
use Rattle.watching.specs.declared.halt.Halt.TheVariants as halt
use Rattle.watching.specs.LookLaws.{on_ok_of}
use Rattle.alpha_beta.specs.Roots.{AreDistinct}
use Rattle.alpha_beta.specs.Searches.{bound_of}
use Rattle.alpha_beta.proofs.RootLaws.{best-distinct, distinct-some, legal-distinct, lines-within}
use Rattle.alpha_beta.proofs.SearchLaws.{if_ok_map}
use Rattle.alpha_beta.proofs.searching.search_watched.Goals as goal

pub returns-in_err-tried-clause-ended : goal.returns-in_err-tried-clause-ended
returns-in_err-tried-clause-ended g c why is =
    let same : halt.Fault fault.Memory ≡ why = search rules in
    let n : ℕ = bound_of c.args.game.now c.args.depth in
    let le : 0 ≤ n = omega arith in
    let a = c.args.watch.now in
    subst (λ (w : Halt). g.W.Watch.ended a a n w) same (g.met.W.Watch.memory a a n (g.met.W.Watch.wider a a 0 n (g.met.W.Watch.none a) le))

pub search_by-requires-clause-legal : goal.search_by-requires-clause-legal
search_by-requires-clause-legal g c = λ κs holds.
    let game = c.args.game.now in
    let roots = c.as_slice.result.now in
    let d : AreDistinct c.args.roots.now roots = subst (λ (ms : List Move). AreDistinct c.args.roots.now ms) (sym c.as_slice.ensures.value) c.in_ok-tried.ensures in
    legal-distinct c.args.roots.now roots d game.rules c.args.depth (story game) c.requires.legal

pub search_by-requires-clause-some : goal.search_by-requires-clause-some
search_by-requires-clause-some g c = λ κs holds.
    let roots = c.as_slice.result.now in
    let d : AreDistinct c.args.roots.now roots = subst (λ (ms : List Move). AreDistinct c.args.roots.now ms) (sym c.as_slice.ensures.value) c.in_ok-tried.ensures in
    distinct-some c.args.roots.now roots d c.requires.some

pub returns-clause-best : goal.returns-clause-best
returns-clause-best g c =
    let game = c.args.game.now in
    let roots = c.as_slice.result.now in
    let d : AreDistinct c.args.roots.now roots = subst (λ (ms : List Move). AreDistinct c.args.roots.now ms) (sym c.as_slice.ensures.value) c.in_ok-tried.ensures in
    if_ok_map c.search_by.result (λ found best. best-distinct c.args.roots.now roots d game c.args.depth found.value found.best best) c.search_by.ensures.best

pub returns-clause-few : goal.returns-clause-few
returns-clause-few g c =
    let game = c.args.game.now in
    let roots = c.as_slice.result.now in
    let d : AreDistinct c.args.roots.now roots = subst (λ (ms : List Move). AreDistinct c.args.roots.now ms) (sym c.as_slice.ensures.value) c.in_ok-tried.ensures in
    let le = lines-within c.args.roots.now roots d game.rules c.args.depth (story game) (legal-distinct c.args.roots.now roots d game.rules c.args.depth (story game) c.requires.legal) in
    if_ok_map c.search_by.result (λ found few. le_trans few le) c.search_by.ensures.few
  where
    le_trans : {a b c : ℕ} → a ≤ b → b ≤ c → a ≤ c
    le_trans p q = omega (arith, p, q)

pub returns-clause-counted : goal.returns-clause-counted
returns-clause-counted g c =
    let lent = c.deref_mut.ensures.len in let made = c.jobs_for-jobs.ensures.count in
    if_ok_map c.search_by.result
    (λ found count. record { least = count.least; alone = λ one. count.alone (omega (arith, one, lent, made)) })
    c.search_by.ensures.counted

pub returns-clause-gone : goal.returns-clause-gone
returns-clause-gone g c =
    let game = c.args.game.now in
    let roots = c.as_slice.result.now in
    let d : AreDistinct c.args.roots.now roots = subst (λ (ms : List Move). AreDistinct c.args.roots.now ms) (sym c.as_slice.ensures.value) c.in_ok-tried.ensures in
    let le = lines-within c.args.roots.now roots d game.rules c.args.depth (story game) (legal-distinct c.args.roots.now roots d game.rules c.args.depth (story game) c.requires.legal) in
    on_ok_of c.search_by.result c.search_by.ensures.gone (λ gone. g.met.W.Watch.wider _ _ _ _ gone le)

pub returns-clause-ended : goal.returns-clause-ended
returns-clause-ended g c why is =
    let game = c.args.game.now in
    let roots = c.as_slice.result.now in
    let d : AreDistinct c.args.roots.now roots = subst (λ (ms : List Move). AreDistinct c.args.roots.now ms) (sym c.as_slice.ensures.value) c.in_ok-tried.ensures in
    let le = lines-within c.args.roots.now roots d game.rules c.args.depth (story game) (legal-distinct c.args.roots.now roots d game.rules c.args.depth (story game) c.requires.legal) in
    g.met.W.Watch.ends_wider _ _ _ _ why (c.search_by.ensures.ended why is) le
