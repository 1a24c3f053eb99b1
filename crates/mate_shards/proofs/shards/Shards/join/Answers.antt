use Rattle.std.proofs.Common.{◌≡◌, ◌+◌, ◌<◌, List, length, get_or, set, sym, ap, ◌∙◌, subst, arith}
use Rattle.std.specs.List.{insert, remove}
use Rattle.mate_shards.specs.Views.{ShardsView, ShardPass, IsJoined}
use Rattle.mate_shards.proofs.GrownLaws.{join-grows_first, join-grows_second, join-parts}
use Rattle.mate_shards.proofs.OwnedLaws.{join-owned}
use Rattle.mate_shards.proofs.PassLemmas.{Joining, put-back, join-starts, join-goes-on, joined-passes, are-joined, join-lock, join-first, join-second, join-is}
use Rattle.mate_shards.proofs.shards.Shards.join.Goals as goal

pub loop-k-init : goal.loop-k-init
loop-k-init c =
    let s = c.args.self.now in
    let P : List ShardPass → Type 0 = λ v. Joining s c.args.a c.args.b v c.b.inside.items.items 0 in
    let Q : List ShardPass → Type 0 = λ v. Joining s c.args.a c.args.b c.args.a v 0 in
    subst P (sym c.a.view_is) (subst Q (sym c.b.view_is) (join-starts s c.args.a c.args.b c.requires.first c.requires.second))

pub remove-other-requires : goal.remove-other-requires
remove-other-requires c =
    let size = ap (λ (v : List ShardPass). length v) c.a.view_is in
    let first = c.requires.first.count in
    let second = c.requires.second.count in
    let more = c.loop-k.invariant.more in
    omega (arith, c.loop-k.others.ok.0, c.len-k-end.ensures, c.a.inside.items.ok.0)

pub remove-requires : goal.remove-requires
remove-requires c =
    let size = ap (λ (v : List ShardPass). length v) c.a.view_is in
    let count = c.loop-k.invariant.count in
    omega (arith, c.loop-k.items.ok.0, c.len-k-end.ensures, c.a.inside.items.ok.0)

pub join-joined-requires : goal.join-joined-requires
join-joined-requires c =
    let s = c.args.self.now in
    let size = ap (λ (v : List ShardPass). length v) c.a.view_is in
    let first = c.requires.first.count in
    let k = c.loop-k.k in
    let l = c.index.result.now in
    let is = join-is s c.args.a c.args.b c.loop-k.items.items c.loop-k.others.items c.requires.first c.requires.second k c.loop-k.invariant (omega (arith, c.len-k-end.ensures, c.a.inside.items.ok.0)) l c.remove.result c.remove-other.result
    (c.index.ensures ∙ ap (λ (v : ShardsView). get_or v.locks k l) c.self.view_is) c.remove.ensures.value c.remove-other.ensures.value in
    record { locks = is }

pub loop-k-preserved : goal.loop-k-preserved
loop-k-preserved c =
    let s = c.args.self.now in
    let left = c.args.a in
    let right = c.args.b in
    let items = c.loop-k.items.items in
    let others = c.loop-k.others.items in
    let k = c.loop-k.k in
    let l = c.index.result.now in
    let a = c.remove.result in
    let b = c.remove-other.result in
    let p = c.join-joined.result in
    let so_far = c.loop-k.invariant in
    let size = ap (λ (v : List ShardPass). length v) c.a.view_is in
    let first = c.requires.first.count in
    let count = so_far.count in
    let below : k < length s.locks = omega (arith, c.len-k-end.ensures, c.a.inside.items.ok.0) in
    let lock_read = c.index.ensures ∙ ap (λ (v : ShardsView). get_or v.locks k l) c.self.view_is in
    let shorter : length (remove others 0) + 1 ≡ length others = omega (arith, c.remove-other.ensures.len, c.loop-k.others.ok.0, c.remove-other.new.self.ok.0, ap (λ (v : List ShardPass). length v) c.remove-other.ensures.items) in
    let put : c.put_back.new.items.items ≡ set items k p = c.put_back.ensures.items ∙ (ap (λ xs. insert xs k p) c.remove.ensures.items ∙ put-back items k p (omega arith)) in
    let joined : IsJoined a b p = record { seen = c.join-joined.ensures.longer; begins = c.join-joined.ensures.seen; own = c.join-joined.ensures.own; apart = c.join-joined.ensures.apart; places = c.join-joined.ensures.places; parts = c.join-joined.ensures.parts } in
    let P : List ShardPass → Type 0 = λ v. Joining s left right v c.remove-other.new.self.items (k + 1) in
    let Q : List ShardPass → Type 0 = λ v. Joining s left right (set items k p) v (k + 1) in
    let next = join-goes-on s left right c.requires.first c.requires.second items others k l a b p so_far (omega arith) shorter
    (join-lock s left right items others c.requires.first c.requires.second k so_far below l a b lock_read c.remove.ensures.value c.remove-other.ensures.value)
    (join-first s left right items others c.requires.first c.requires.second k so_far below l a b lock_read c.remove.ensures.value c.remove-other.ensures.value)
    (join-second s left right items others c.requires.first c.requires.second k so_far below l a b lock_read c.remove.ensures.value c.remove-other.ensures.value)
    c.join-joined.ensures.lock joined in
    subst P (sym put) (subst Q (sym c.remove-other.ensures.items) next)

pub returns-clause-passes : goal.returns-clause-passes
returns-clause-passes c =
    let size = ap (λ (v : List ShardPass). length v) c.a.view_is in
    let e : c.loop-k.k ≡ length c.args.a = omega (arith, c.len-k-end.ensures, c.a.inside.items.ok.0) in
    joined-passes c.args.self.now c.args.a c.args.b c.requires.first c.requires.second c.loop-k.items.items c.loop-k.others.items (subst (Joining c.args.self.now c.args.a c.args.b c.loop-k.items.items c.loop-k.others.items) e c.loop-k.invariant)

pub returns-clause-joined : goal.returns-clause-joined
returns-clause-joined c =
    let size = ap (λ (v : List ShardPass). length v) c.a.view_is in
    let e : c.loop-k.k ≡ length c.args.a = omega (arith, c.len-k-end.ensures, c.a.inside.items.ok.0) in
    are-joined c.args.self.now c.args.a c.args.b c.requires.first c.requires.second c.loop-k.items.items c.loop-k.others.items (subst (Joining c.args.self.now c.args.a c.args.b c.loop-k.items.items c.loop-k.others.items) e c.loop-k.invariant)

pub returns-clause-parts : goal.returns-clause-parts
returns-clause-parts c =
    join-parts c.args.self.now _ c.args.a c.args.b (returns-clause-passes c) c.requires.first c.requires.second (returns-clause-joined c)

pub returns-clause-first_grown : goal.returns-clause-first_grown
returns-clause-first_grown c =
    join-grows_first c.args.self.now _ c.args.a c.args.b (returns-clause-passes c) c.requires.first c.requires.second (returns-clause-joined c)

pub returns-clause-second_grown : goal.returns-clause-second_grown
returns-clause-second_grown c =
    join-grows_second c.args.self.now _ c.args.a c.args.b (returns-clause-passes c) c.requires.first c.requires.second (returns-clause-joined c)

pub returns-clause-owned : goal.returns-clause-owned
returns-clause-owned c =
    join-owned c.args.self.now _ c.args.a c.args.b (returns-clause-passes c) c.requires.first c.requires.second (returns-clause-joined c)
