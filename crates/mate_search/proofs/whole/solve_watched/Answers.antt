use Rattle.std.proofs.Common.{◌≡◌, false, refl, sym, subst, arith, rules}
use Rattle.forced_wins.specs.Wins.{wins}
use Rattle.game_play.specs.Played.{story}
use Rattle.mate_shards.proofs.Crosses.{passes-send, shards-sync}
use Rattle.rules_model.specs.declared.rules.Rules.{Rules}
use Rattle.watching.specs.LookLaws.{on_ok_of}
use Rattle.mate_search.specs.Solves.{bound_of}
use Rattle.mate_search.proofs.HandedLaws.{handed_more}
use Rattle.mate_showing.proofs.Root.{frame-blocked, not-won, solve-lines}
use Rattle.mate_search.proofs.whole.solve_watched.Goals as goal

pub returns-then-is_refuted-clause-right : goal.returns-then-is_refuted-clause-right
returns-then-is_refuted-clause-right g c =
    let f = c.args.shards.now.frame in
    let game = story c.args.game.now in
    let bl = frame-blocked c.args.game.now f c.requires.frame in
    subst (λ (x : Rules). wins x c.args.n game f.attacker ≡ false) c.requires.frame.rules
    (not-won f game bl c.args.n (sym (c.is_refuted.ensures.lost c.if-is_refuted.true)))

pub returns-then-is_refuted-clause-gone : goal.returns-then-is_refuted-clause-gone
returns-then-is_refuted-clause-gone g c =
    g.met.W.Watch.wider _ _ 0 (bound_of c.args.game.now c.args.n) (g.met.W.Watch.none c.args.watch.now) (omega arith)

pub returns-in_default-clause-ended : goal.returns-in_default-clause-ended
returns-in_default-clause-ended g c why is =
    let bound = bound_of c.args.game.now c.args.n in
    let memory = g.met.W.Watch.memory _ _ bound (g.met.W.Watch.wider _ _ 0 bound (g.met.W.Watch.none c.args.watch.now) (omega arith)) in
    search rules

pub run-passes-requires-clause-crosses : goal.run-passes-requires-clause-crosses
run-passes-requires-clause-crosses g c κs within = (shards-sync, passes-send)

pub run-passes-requires-clause-parts : goal.run-passes-requires-clause-parts
run-passes-requires-clause-parts g c κs within =
    let (k, all, le) = c.requires.parts in (k, c.is_refuted.ensures.handed.parts k all, le)

pub run-passes-requires-clause-ready : goal.run-passes-requires-clause-ready
run-passes-requires-clause-ready g c κs within = record {
  frame = c.requires.frame;
  roots = rw c.deref.ensures.value c.in-Ok.ensures.roots;
  some = c.requires.some;
  small = c.requires.small;
}

pub returns-clause-handed : goal.returns-clause-handed
returns-clause-handed g c = handed_more c.args.shards.now _ _ _ c.is_refuted.ensures.handed c.run-passes.ensures.handed

pub returns-clause-gone : goal.returns-clause-gone
returns-clause-gone g c =
    let f = c.args.shards.now.frame in
    let game = c.args.game.now in
    let n = c.args.n in
    let le = solve-lines game.rules f (story game) n (story game).last c.requires.frame.rules refl c.requires.some in
    on_ok_of c.run-passes.result.1 c.run-passes.ensures.gone (λ gone. g.met.W.Watch.wider _ _ _ (bound_of game n) gone le)

pub returns-clause-ended : goal.returns-clause-ended
returns-clause-ended g c why is =
    let f = c.args.shards.now.frame in
    let game = c.args.game.now in
    let n = c.args.n in
    let le = solve-lines game.rules f (story game) n (story game).last c.requires.frame.rules refl c.requires.some in
    g.met.W.Watch.ends_wider _ _ _ (bound_of game n) why (c.run-passes.ensures.ended why is) le
