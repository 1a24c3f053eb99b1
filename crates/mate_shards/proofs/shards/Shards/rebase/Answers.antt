use Rattle.std.proofs.Common.{◌≡◌, ℕ, ◌+◌, ◌<◌, List, [], ◌∷◌, ◌++◌, length, sym, ap, ◌∙◌, subst, arith}
use Rattle.std.specs.List.{remove}
use Rattle.std.specs.Prelude.{All}
use Rattle.fact_lock.specs.Passes.{LockView, all_parts}
use Rattle.mate_core.specs.declared.frame.Frame.{Frame}
use Rattle.mate_shards.specs.Shard.{Key}
use Rattle.mate_shards.specs.Views.{ShardsView, ShardPass, AreLocksOf, IsRebased}
use Rattle.mate_shards.proofs.TurnLemmas.{all-at}
use Rattle.mate_shards.proofs.RebaseLemmas.{Rebasing, rebase-starts, given-some, pass-here, rebase-is, rebase-key, rebase-goes-on, rebased-parts, rebased-own, rebased-passes}
use Rattle.mate_shards.proofs.OwnedLaws.{none-owned}
use Rattle.mate_shards.proofs.shards.Shards.rebase.Goals as goal

pub loop-k-init : goal.loop-k-init
loop-k-init c =
    let s = c.args.self in
    let ps = c.args.passes in
    let new = c.args.frame in
    let A : List (LockView Key) → Type 0 = λ v. Rebasing s ps new v c.passes.inside.items.items c.in_ok-locks.locks.items c.in_ok-items.items.items 0 in
    let B : List ShardPass → Type 0 = λ v. Rebasing s ps new s.locks v c.in_ok-locks.locks.items c.in_ok-items.items.items 0 in
    let C : List (LockView Key) → Type 0 = λ v. Rebasing s ps new s.locks ps v c.in_ok-items.items.items 0 in
    let D : List ShardPass → Type 0 = λ v. Rebasing s ps new s.locks ps [] v 0 in
    let starts = subst C (sym c.in_ok-locks.ensures.items) (subst D (sym c.in_ok-items.ensures.items) (rebase-starts s ps new c.requires.passes)) in (
      subst A (sym (ap (λ (v : ShardsView). v.locks) c.self.view_is)) (subst B (sym c.passes.view_is) starts),
      c.in_ok-locks.ensures.exact,
      c.in_ok-items.ensures.exact,
    )

pub remove-pass-requires : goal.remove-pass-requires
remove-pass-requires c =
    let locks = ap (λ (v : ShardsView). length v.locks) c.self.view_is in
    let some = given-some c.args.self c.args.passes c.args.frame c.requires.passes c.loop-k.closing.items c.loop-k.given.items c.loop-k.locks.items c.loop-k.items.items c.loop-k._k c.loop-k.invariant.0 (omega (arith, c.len-count.ensures, c.self.inside.locks.ok.0)) in
    omega (arith, c.loop-k.given.ok.0)

pub remove-requires : goal.remove-requires
remove-requires c =
    let locks = ap (λ (v : ShardsView). length v.locks) c.self.view_is in
    let more = c.loop-k.invariant.0.more in
    omega (arith, c.loop-k.closing.ok.0, c.len-count.ensures, c.self.inside.locks.ok.0)

pub reopen-requires-clause-lock : goal.reopen-requires-clause-lock
reopen-requires-clause-lock c =
    let locks = ap (λ (v : ShardsView). length v.locks) c.self.view_is in
    rebase-is c.args.self c.args.passes c.args.frame c.requires.passes c.loop-k.closing.items c.loop-k.given.items c.loop-k.locks.items c.loop-k.items.items c.loop-k._k c.loop-k.invariant.0 (omega (arith, c.len-count.ensures, c.self.inside.locks.ok.0)) c.remove.result c.remove-pass.result c.remove.ensures.value c.remove-pass.ensures.value

pub reopen-requires-clause-parts : goal.reopen-requires-clause-parts
reopen-requires-clause-parts c =
    let locks = ap (λ (v : ShardsView). length v.locks) c.self.view_is in
    all-at (λ v. v.parts ≡ all_parts) c.args.passes c.loop-k._k c.remove-pass.result c.requires.parts
    (pass-here c.args.self c.args.passes c.args.frame c.requires.passes c.loop-k.closing.items c.loop-k.given.items c.loop-k.locks.items c.loop-k.items.items c.loop-k._k c.loop-k.invariant.0 (omega (arith, c.len-count.ensures, c.self.inside.locks.ok.0)) c.remove.result c.remove-pass.result c.remove.ensures.value c.remove-pass.ensures.value)

pub reopen-requires-clause-frame : goal.reopen-requires-clause-frame
reopen-requires-clause-frame c =
    let locks = ap (λ (v : ShardsView). length v.locks) c.self.view_is in
    let Q : ShardsView → Type 0 = λ v. AreLocksOf v.frame v.capacity v.locks in
    let keys = subst Q c.self.view_is c.self.invariant in
    let key = rebase-key c.args.self c.args.passes c.args.frame c.requires.passes c.loop-k.closing.items c.loop-k.given.items c.loop-k.locks.items c.loop-k.items.items c.loop-k._k c.loop-k.invariant.0 (omega (arith, c.len-count.ensures, c.self.inside.locks.ok.0)) c.remove.result c.remove-pass.result c.remove.ensures.value c.remove-pass.ensures.value keys.2 in
    ap (λ (k : Key). k.0) key ∙ sym (ap (λ (v : ShardsView). v.frame) c.self.view_is)

pub push_reserved-requires : goal.push_reserved-requires
push_reserved-requires c =
    let room = c.loop-k.invariant.1 in
    let count = c.loop-k.invariant.0.count in
    omega (arith, c.loop-k.locks.ok.0)

pub push_reserved-requires-in-loop-k : goal.push_reserved-requires-in-loop-k
push_reserved-requires-in-loop-k c =
    let room = c.loop-k.invariant.2 in
    let count = c.loop-k.invariant.0.items_count in
    omega (arith, c.loop-k.items.ok.0)

pub loop-k-preserved : goal.loop-k-preserved
loop-k-preserved c =
    let s = c.args.self in
    let ps = c.args.passes in
    let new = c.args.frame in
    let so_far = c.loop-k.invariant in
    let k = c.loop-k._k in
    let closing = c.loop-k.closing.items in
    let given = c.loop-k.given.items in
    let made = c.loop-k.locks.items in
    let items = c.loop-k.items.items in
    let l = c.remove.result in
    let p = c.remove-pass.result in
    let m = c.in_ok-lock.lock in
    let q = c.in_ok-lock.pass in
    let locks = ap (λ (v : ShardsView). length v.locks) c.self.view_is in
    let below : k < length s.locks = omega (arith, c.len-count.ensures, c.self.inside.locks.ok.0) in
    let Q : ShardsView → Type 0 = λ v. AreLocksOf v.frame v.capacity v.locks in
    let keys = subst Q c.self.view_is c.self.invariant in
    let key = rebase-key s ps new c.requires.passes closing given made items k so_far.0 below l p c.remove.ensures.value c.remove-pass.ensures.value keys.2 in
    let new_key = c.in_ok-lock.ensures.key ∙ ap (λ (x : ℕ). (let y : Key = (new, x) in y)) (ap (λ (x : Key). x.1) key) in
    let R : Frame → Type 0 = λ f. IsRebased f new p q in
    let again = subst R (ap (λ (v : ShardsView). v.frame) c.self.view_is) c.in_ok-lock.ensures.kept in
    let shorter : length (remove closing 0) + 1 ≡ length closing = omega (arith, c.remove.ensures.len, c.loop-k.closing.ok.0, c.remove.new.self.ok.0, ap (λ (v : List (LockView Key)). length v) c.remove.ensures.items) in
    let next = rebase-goes-on s ps new c.requires.passes closing given made items k so_far.0 below l p c.remove.ensures.value c.remove-pass.ensures.value m q shorter new_key c.in_ok-lock.ensures.pass again in
    let A : List (LockView Key) → Type 0 = λ v. Rebasing s ps new v c.remove-pass.new.self.items c.push_reserved.new.self.items c.push_reserved-in-loop-k.new.self.items (k + 1) in
    let B : List ShardPass → Type 0 = λ v. Rebasing s ps new (remove closing 0) v c.push_reserved.new.self.items c.push_reserved-in-loop-k.new.self.items (k + 1) in
    let C : List (LockView Key) → Type 0 = λ v. Rebasing s ps new (remove closing 0) (remove given 0) v c.push_reserved-in-loop-k.new.self.items (k + 1) in
    let D : List ShardPass → Type 0 = λ v. Rebasing s ps new (remove closing 0) (remove given 0) (made ++ m ∷ []) v (k + 1) in (
      subst A (sym c.remove.ensures.items) (subst B (sym c.remove-pass.ensures.items) (subst C (sym c.push_reserved.ensures.items) (subst D (sym c.push_reserved-in-loop-k.ensures.items) next))),
      c.push_reserved.ensures.capacity ∙ so_far.1,
      c.push_reserved-in-loop-k.ensures.capacity ∙ so_far.2,
    )

pub invariant_of-shards : goal.invariant_of-shards
invariant_of-shards c =
    let so_far = c.loop-k.invariant.0 in
    let count = so_far.count in
    let was = c.self.invariant in
    let some = was.0 in
    let most = was.1 in
    let capacity = ap (λ (v : ShardsView). v.capacity) c.self.view_is in
    let P : ℕ → Type 0 = λ n. All (λ l. l.key ≡ (c.args.frame, n)) c.loop-k.locks.items in
    (omega (arith, c.len-count.ensures, c.self.inside.locks.ok.0), omega (arith, c.len-count.ensures, c.self.inside.locks.ok.0), subst P (sym capacity) so_far.keys)

pub returns-clause-shards : goal.returns-clause-shards
returns-clause-shards c =
    let locks = ap (λ (v : ShardsView). length v.locks) c.self.view_is in
    let count = c.loop-k.invariant.0.count in
    omega (arith, c.len-count.ensures, c.self.inside.locks.ok.0)

pub returns-clause-passes : goal.returns-clause-passes
returns-clause-passes c =
    let s = c.args.self in
    let locks = ap (λ (v : ShardsView). length v.locks) c.self.view_is in
    let e : c.loop-k._k ≡ length s.locks = omega (arith, c.len-count.ensures, c.self.inside.locks.ok.0) in
    let made : ShardsView = record { frame = c.args.frame; capacity = c.self.inside.capacity; locks = c.loop-k.locks.items } in
    rebased-passes s c.args.passes c.args.frame c.requires.passes made c.loop-k.items.items c.loop-k.closing.items c.loop-k.given.items (subst (Rebasing s c.args.passes c.args.frame c.loop-k.closing.items c.loop-k.given.items c.loop-k.locks.items c.loop-k.items.items) e c.loop-k.invariant.0)

pub returns-clause-kept : goal.returns-clause-kept
returns-clause-kept c = c.loop-k.invariant.0.rebased

pub returns-clause-parts : goal.returns-clause-parts
returns-clause-parts c =
    let s = c.args.self in
    let locks = ap (λ (v : ShardsView). length v.locks) c.self.view_is in
    let e : c.loop-k._k ≡ length s.locks = omega (arith, c.len-count.ensures, c.self.inside.locks.ok.0) in
    rebased-parts s c.args.passes c.args.frame c.requires.passes c.loop-k.closing.items c.loop-k.given.items c.loop-k.locks.items c.loop-k.items.items (subst (Rebasing s c.args.passes c.args.frame c.loop-k.closing.items c.loop-k.given.items c.loop-k.locks.items c.loop-k.items.items) e c.loop-k.invariant.0)

pub returns-clause-owned : goal.returns-clause-owned
returns-clause-owned c =
    let s = c.args.self in
    let locks = ap (λ (v : ShardsView). length v.locks) c.self.view_is in
    let e : c.loop-k._k ≡ length s.locks = omega (arith, c.len-count.ensures, c.self.inside.locks.ok.0) in
    none-owned c.loop-k.items.items
    (rebased-own s c.args.passes c.args.frame c.requires.passes c.loop-k.closing.items c.loop-k.given.items c.loop-k.locks.items c.loop-k.items.items (subst (Rebasing s c.args.passes c.args.frame c.loop-k.closing.items c.loop-k.given.items c.loop-k.locks.items c.loop-k.items.items) e c.loop-k.invariant.0))
