use Rattle.std.proofs.Common.{◌≡◌, ◌+◌, ◌<◌, ◌≤◌, List, length, get_or, set, sym, ap, ◌∙◌, subst, arith}
use Rattle.std.specs.List.{insert}
use Rattle.mate_shards.specs.Views.{ShardsView, ShardPass}
use Rattle.mate_shards.proofs.GrownLaws.{split-grows, split-sees, split-part}
use Rattle.mate_shards.proofs.OwnedLaws.{split-owned}
use Rattle.mate_shards.proofs.TurnLemmas.{all-at}
use Rattle.mate_shards.proofs.PassLemmas.{Splitting, put-back, split-starts, split-goes-on, first-passes, second-passes, are-halved, halved-parts, split-lock, split-was, split-is}
use Rattle.mate_shards.proofs.shards.Shards.split.Goals as goal

pub loop-k-init : goal.loop-k-init
loop-k-init c =
    let s = c.args.self.now in
    let ps = c.args.passes in
    let P : List ShardPass → Type 0 = λ v. Splitting s ps v c.in-Ok.given.items 0 in
    let Q : List ShardPass → Type 0 = λ v. Splitting s ps ps v 0 in
    (subst P (sym c.passes.view_is) (subst Q (sym c.in-Ok.ensures.items) (split-starts s ps c.requires.passes)), c.in-Ok.ensures.exact)

pub remove-requires : goal.remove-requires
remove-requires c =
    let locks = ap (λ (v : ShardsView). length v.locks) c.self.view_is in
    let passes = c.requires.passes.count in
    let count = c.loop-k.invariant.0.count in
    omega (arith, c.loop-k.items.ok.0, c.len-count.ensures, c.self.inside.locks.ok.0)

pub split-kept-requires-clause-lock : goal.split-kept-requires-clause-lock
split-kept-requires-clause-lock c =
    let s = c.args.self.now in
    let locks = ap (λ (v : ShardsView). length v.locks) c.self.view_is in
    let l = c.index.result.now in
    split-is s c.args.passes c.loop-k.items.items c.loop-k.given.items c.requires.passes c.loop-k.k c.loop-k.invariant.0 (omega (arith, c.len-count.ensures, c.self.inside.locks.ok.0)) l c.remove.result
    (c.index.ensures ∙ ap (λ (v : ShardsView). get_or v.locks c.loop-k.k l) c.self.view_is)
    c.remove.ensures.value

pub split-kept-requires-clause-parts : goal.split-kept-requires-clause-parts
split-kept-requires-clause-parts c =
    let s = c.args.self.now in
    let locks = ap (λ (v : ShardsView). length v.locks) c.self.view_is in
    let l = c.index.result.now in
    all-at (λ v. 2 ≤ v.parts) c.args.passes c.loop-k.k c.remove.result c.requires.parts
    (split-was s c.args.passes c.loop-k.items.items c.loop-k.given.items c.requires.passes c.loop-k.k c.loop-k.invariant.0 (omega (arith, c.len-count.ensures, c.self.inside.locks.ok.0)) l c.remove.result
    (c.index.ensures ∙ ap (λ (v : ShardsView). get_or v.locks c.loop-k.k l) c.self.view_is)
    c.remove.ensures.value)

pub push_reserved-requires : goal.push_reserved-requires
push_reserved-requires c =
    let room = c.loop-k.invariant.1 in
    let taken = c.loop-k.invariant.0.taken in
    omega (arith, c.loop-k.given.ok.0)

pub loop-k-preserved : goal.loop-k-preserved
loop-k-preserved c =
    let s = c.args.self.now in
    let ps = c.args.passes in
    let k = c.loop-k.k in
    let l = c.index.result.now in
    let p = c.remove.result in
    let a = c.split-kept.result.0 in
    let b = c.split-kept.result.1 in
    let items = c.loop-k.items.items in
    let given = c.loop-k.given.items in
    let so_far = c.loop-k.invariant.0 in
    let locks = ap (λ (v : ShardsView). length v.locks) c.self.view_is in
    let passes = c.requires.passes.count in
    let count = so_far.count in
    let below : k < length s.locks = omega (arith, c.len-count.ensures, c.self.inside.locks.ok.0) in
    let lock_read = c.index.ensures ∙ ap (λ (v : ShardsView). get_or v.locks k l) c.self.view_is in
    let put : c.put_back.new.items.items ≡ set items k a = c.put_back.ensures.items ∙ (ap (λ xs. insert xs k a) c.remove.ensures.items ∙ put-back items k a (omega arith)) in
    let P : List ShardPass → Type 0 = λ v. Splitting s ps v c.push_reserved.new.self.items (k + 1) in
    let Q : List ShardPass → Type 0 = λ v. Splitting s ps (set items k a) v (k + 1) in
    let next = split-goes-on s ps c.requires.passes items given k l p a b so_far (omega arith)
    (split-lock s ps items given c.requires.passes k so_far below l p lock_read c.remove.ensures.value)
    (split-was s ps items given c.requires.passes k so_far below l p lock_read c.remove.ensures.value)
    c.split-kept.ensures.lock.0 c.split-kept.ensures.lock.1
    (record { seen = c.split-kept.ensures.seen; own = c.split-kept.ensures.own; parts = c.split-kept.ensures.parts }) in
    (subst P (sym put) (subst Q (sym c.push_reserved.ensures.items) next), c.push_reserved.ensures.capacity ∙ c.loop-k.invariant.1)

pub returns-clause-first : goal.returns-clause-first
returns-clause-first c =
    let locks = ap (λ (v : ShardsView). length v.locks) c.self.view_is in
    let passes = c.requires.passes.count in
    let e : c.loop-k.k ≡ length c.args.passes = omega (arith, c.len-count.ensures, c.self.inside.locks.ok.0) in
    first-passes c.args.self.now c.args.passes c.requires.passes c.loop-k.items.items c.loop-k.given.items (subst (Splitting c.args.self.now c.args.passes c.loop-k.items.items c.loop-k.given.items) e c.loop-k.invariant.0)

pub returns-clause-second : goal.returns-clause-second
returns-clause-second c =
    let locks = ap (λ (v : ShardsView). length v.locks) c.self.view_is in
    let passes = c.requires.passes.count in
    let e : c.loop-k.k ≡ length c.args.passes = omega (arith, c.len-count.ensures, c.self.inside.locks.ok.0) in
    second-passes c.args.self.now c.args.passes c.requires.passes c.loop-k.items.items c.loop-k.given.items (subst (Splitting c.args.self.now c.args.passes c.loop-k.items.items c.loop-k.given.items) e c.loop-k.invariant.0)

pub returns-clause-halves : goal.returns-clause-halves
returns-clause-halves c =
    let locks = ap (λ (v : ShardsView). length v.locks) c.self.view_is in
    let passes = c.requires.passes.count in
    let e : c.loop-k.k ≡ length c.args.passes = omega (arith, c.len-count.ensures, c.self.inside.locks.ok.0) in
    are-halved c.args.self.now c.args.passes c.requires.passes c.loop-k.items.items c.loop-k.given.items (subst (Splitting c.args.self.now c.args.passes c.loop-k.items.items c.loop-k.given.items) e c.loop-k.invariant.0)

pub returns-clause-parts : goal.returns-clause-parts
returns-clause-parts c =
    let locks = ap (λ (v : ShardsView). length v.locks) c.self.view_is in
    let passes = c.requires.passes.count in
    let e : c.loop-k.k ≡ length c.args.passes = omega (arith, c.len-count.ensures, c.self.inside.locks.ok.0) in
    halved-parts c.args.self.now c.args.passes c.requires.passes c.loop-k.items.items c.loop-k.given.items (subst (Splitting c.args.self.now c.args.passes c.loop-k.items.items c.loop-k.given.items) e c.loop-k.invariant.0)

pub returns-clause-part : goal.returns-clause-part
returns-clause-part c =
    split-part c.args.self.now c.args.passes _ _ c.requires.passes (returns-clause-first c) (returns-clause-second c) (returns-clause-halves c)

pub returns-clause-grown : goal.returns-clause-grown
returns-clause-grown c =
    split-grows c.args.self.now c.args.passes _ _ c.requires.passes (returns-clause-first c) (returns-clause-second c) (returns-clause-halves c)

pub returns-clause-seen : goal.returns-clause-seen
returns-clause-seen c =
    split-sees c.args.self.now c.args.passes _ _ c.requires.passes (returns-clause-first c) (returns-clause-second c) (returns-clause-halves c)

pub returns-clause-owned : goal.returns-clause-owned
returns-clause-owned c =
    split-owned c.args.self.now c.args.passes _ _ c.requires.passes (returns-clause-first c) (returns-clause-second c) (returns-clause-halves c)
