use Rattle.std.proofs.Common.{List, get_or, set, sym, ap, ◌∙◌, subst}
use Rattle.mate_shards.specs.Views.{ShardsView, ShardPass, ArePassesOf, AreLocksOf}
use Rattle.mate_shards.specs.Turns.{AskTurn}
use Rattle.mate_shards.proofs.TurnLemmas.{is-pass, passes-stay, asks}
use Rattle.mate_shards.proofs.shards.Shards.ask.Goals as goal

pub with-requires-clause-lock : goal.with-requires-clause-lock
with-requires-clause-lock g c =
    let s = c.args.self.now in
    let ps = c.args.passes.now in
    let l = c.index.result.now in
    let p = c.index_mut.result.now in
    is-pass s ps c.requires.passes c.args.shard c.requires.shard l p
    (c.index.ensures ∙ ap (λ (v : ShardsView). get_or v.locks c.args.shard l) c.self.view_is)
    (c.index_mut.ensures.value ∙ ap (λ (v : List ShardPass). get_or v c.args.shard p) c.passes.view_is)

pub returns-clause-passes : goal.returns-clause-passes
returns-clause-passes g c =
    let s = c.args.self.now in
    let ps = c.args.passes.now in
    let l = c.index.result.now in
    let p = c.index_mut.result.now in
    let P : List ShardPass → Type 0 = λ v. ArePassesOf s (set v c.args.shard c.with.new.pass) in
    subst P (sym c.passes.view_is)
    (passes-stay s ps c.requires.passes c.args.shard c.requires.shard l p
    (c.index.ensures ∙ ap (λ (v : ShardsView). get_or v.locks c.args.shard l) c.self.view_is)
    (c.index_mut.ensures.value ∙ ap (λ (v : List ShardPass). get_or v c.args.shard p) c.passes.view_is)
    c.with.new.pass c.with.ensures.lock c.with.ensures.parts)

pub returns-clause-turn : goal.returns-clause-turn
returns-clause-turn g c =
    let s = c.args.self.now in
    let ps = c.args.passes.now in
    let l = c.index.result.now in
    let p = c.index_mut.result.now in
    let Q : ShardsView → Type 0 = λ v. AreLocksOf v.frame v.capacity v.locks in
    let locks = subst Q c.self.view_is c.self.invariant in
    let P : List ShardPass → Type 0 = λ v. AskTurn s ps c.args.shard c.args.request c.with.result (set v c.args.shard c.with.new.pass) in
    subst P (sym c.passes.view_is)
    (asks s ps c.requires.passes c.args.shard c.requires.shard l p
    (c.index.ensures ∙ ap (λ (v : ShardsView). get_or v.locks c.args.shard l) c.self.view_is)
    (c.index_mut.ensures.value ∙ ap (λ (v : List ShardPass). get_or v c.args.shard p) c.passes.view_is)
    locks.2 c.args.request c.with.result c.with.new.pass c.with.ensures.turn c.with.ensures.holds c.with.ensures.places c.with.ensures.parts)
