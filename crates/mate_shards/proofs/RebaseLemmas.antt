-- Shards are closed and opened again one after another.
use Rattle.std.proofs.Common.{◌≡◌, ℕ, suc, ◌+◌, ◌<◌, List, [], ◌∷◌, ◌++◌, length, get_or, Option, Some, None, refl, ap, sym, ◌∙◌, subst, arith}
use Rattle.std.specs.Prelude.{All, slice_get}
use Rattle.std.specs.List.{remove}
use Rattle.std.proofs.lemmas.List.{length_push}
use Rattle.std.proofs.lemmas.List.Elements.{All-push}
use Rattle.std.proofs.lemmas.Option.{slice_get_within}
use Rattle.fact_lock.specs.Passes.{LockView, IsPassOf, all_parts}
use Rattle.mate_core.specs.declared.frame.Frame.{Frame}
use Rattle.mate_shards.specs.Grown.{HaveParts}
use Rattle.mate_shards.specs.Shard.{Key}
use Rattle.mate_shards.specs.Views.{ShardsView, ShardPass, ArePassesOf, IsRebased}
use Rattle.mate_shards.proofs.TurnLemmas.{read-at, all-at}
use Rattle.mate_shards.proofs.PassLemmas.{push-at, first_gone, some-at, all-from}

-- so many shards are opened again under the frame `new`; the others are still to come
pub record Rebasing (s : ShardsView) (ps : List ShardPass) (new : Frame) (closing : List (LockView Key)) (given : List ShardPass) (locks : List (LockView Key)) (items : List ShardPass) (k : ℕ) : Type 0 where
  pub count : length locks ≡ k
  pub items_count : length items ≡ k
  pub more : length closing + k ≡ length s.locks
  pub locks_left : (j : ℕ) → slice_get closing j ≡ slice_get s.locks (k + j)
  pub given_left : (j : ℕ) → slice_get given j ≡ slice_get ps (k + j)
  pub keys : All (λ l. l.key ≡ (new, s.capacity)) locks
  pub each : (j : ℕ) (l : LockView Key) (p : ShardPass) → slice_get locks j ≡ Some l → slice_get items j ≡ Some p → IsPassOf l p
  pub rebased : (j : ℕ) (p q : ShardPass) → slice_get ps j ≡ Some p → slice_get items j ≡ Some q → IsRebased s.frame new p q

module _ (s : ShardsView) (ps : List ShardPass) (new : Frame) (are : ArePassesOf s ps) where
  pub rebase-starts : Rebasing s ps new s.locks ps [] [] 0
  rebase-starts = record {
    count = refl;
    items_count = refl;
    more = omega arith;
    locks_left = λ j. let e : j ≡ 0 + j = omega arith in ap (slice_get s.locks) e;
    given_left = λ j. let e : j ≡ 0 + j = omega arith in ap (slice_get ps) e;
    keys = λ k d l. absurd (omega arith);
    each = λ j l p e f. absurd (let g : ◌≡◌ {A = Option ShardPass} None (Some p) = f in cc);
    rebased = λ j p q e f. absurd (let g : ◌≡◌ {A = Option ShardPass} None (Some q) = f in cc);
  }

  -- a pass is left for each lock that is left
  pub given-some : (closing : List (LockView Key)) (given : List ShardPass) (locks : List (LockView Key)) (items : List ShardPass) (k : ℕ) → Rebasing s ps new closing given locks items k → k < length s.locks → 0 < length given
  given-some closing given locks items k so_far below =
      let c = are.count in
      let at = some-at ps k (omega arith) in
      let e : k ≡ k + 0 = omega arith in
      slice_get_within given 0 at.0 (so_far.given_left 0 ∙ (ap (slice_get ps) (sym e) ∙ at.1))

  module _ (closing : List (LockView Key)) (given : List ShardPass) (locks : List (LockView Key)) (items : List ShardPass) (k : ℕ) (so_far : Rebasing s ps new closing given locks items k) (below : k < length s.locks) (l : LockView Key) (p : ShardPass) (lock_read : l ≡ get_or closing 0 l) (pass_read : p ≡ get_or given 0 p) where
    lock_here : slice_get s.locks k ≡ Some l
    lock_here =
        let m = so_far.more in
        let e : k ≡ k + 0 = omega arith in
        ap (slice_get s.locks) e ∙ (sym (so_far.locks_left 0) ∙ read-at closing 0 l (omega arith) lock_read)

    pub pass-here : slice_get ps k ≡ Some p
    pass-here =
        let e : k ≡ k + 0 = omega arith in
        ap (slice_get ps) e ∙ (sym (so_far.given_left 0) ∙ read-at given 0 p (given-some closing given locks items k so_far below) pass_read)

    pub rebase-is : IsPassOf l p
    rebase-is = are.each k l p lock_here pass-here

    pub rebase-key : All (λ m. m.key ≡ (s.frame, s.capacity)) s.locks → l.key ≡ (s.frame, s.capacity)
    rebase-key keys = all-at (λ m. m.key ≡ (s.frame, s.capacity)) s.locks k l keys lock_here

    pub rebase-goes-on : (m : LockView Key) (q : ShardPass) → length (remove closing 0) + 1 ≡ length closing → m.key ≡ (new, s.capacity) → IsPassOf m q → IsRebased s.frame new p q → Rebasing s ps new (remove closing 0) (remove given 0) (locks ++ m ∷ []) (items ++ q ∷ []) (k + 1)
    rebase-goes-on m q shorter key is again = record {
      count = let c = so_far.count in omega (arith, length_push locks m);
      items_count = let c = so_far.items_count in omega (arith, length_push items q);
      more = let c = so_far.more in omega arith;
      locks_left = λ j. let e : k + suc j ≡ k + 1 + j = omega arith in first_gone closing j ∙ (so_far.locks_left (suc j) ∙ ap (slice_get s.locks) e);
      given_left = λ j. let e : k + suc j ≡ k + 1 + j = omega arith in first_gone given j ∙ (so_far.given_left (suc j) ∙ ap (slice_get ps) e);
      keys = All-push (λ x. x.key ≡ (new, s.capacity)) locks m so_far.keys key;
      each = λ j x y lock pass.
          let c = so_far.count in
          let d = so_far.items_count in
          push-at locks m j x lock
          (λ old.
          push-at items q j y pass (λ here. so_far.each j x y old here)
          (λ e same. absurd (let w = slice_get_within locks j x old in omega arith)))
          (λ e same_lock.
          push-at items q j y pass
          (λ here. absurd (let w = slice_get_within items j y here in omega arith))
          (λ f same_pass. subst (λ z. IsPassOf z y) same_lock (subst (IsPassOf m) same_pass is)));
      rebased = λ j x y was pass.
          let d = so_far.items_count in
          push-at items q j y pass (λ here. so_far.rebased j x y was here)
          (λ e same.
          let at : j ≡ k = e ∙ d in
          let same_was : p ≡ x = some_of (sym pass-here ∙ (ap (slice_get ps) (sym at) ∙ was)) in
          subst (λ z. IsRebased s.frame new z y) same_was (subst (IsRebased s.frame new p) same again));
    }
      where
        some_of : {x y : ShardPass} → ◌≡◌ {A = Option ShardPass} (Some x) (Some y) → x ≡ y
        some_of e = cc

  pub rebased-parts : (closing : List (LockView Key)) (given : List ShardPass) (locks : List (LockView Key)) (items : List ShardPass) → Rebasing s ps new closing given locks items (length s.locks) → HaveParts all_parts items
  rebased-parts closing given locks items all =
      all-from (λ v. v.parts ≡ all_parts) items
      (λ j q here.
      let w = slice_get_within items j q here in
      let c = all.items_count in
      let d = are.count in
      let p = some-at ps j (omega arith) in (all.rebased j p.0 q p.1 here).parts)

  pub rebased-own : (closing : List (LockView Key)) (given : List ShardPass) (locks : List (LockView Key)) (items : List ShardPass) → Rebasing s ps new closing given locks items (length s.locks) → (j : ℕ) (q : ShardPass) → slice_get items j ≡ Some q → q.own ≡ []
  rebased-own closing given locks items all j q here =
      let w = slice_get_within items j q here in
      let c = all.items_count in
      let d = are.count in
      let p = some-at ps j (omega arith) in (all.rebased j p.0 q p.1 here).own

  pub rebased-passes : (made : ShardsView) (items : List ShardPass) (closing : List (LockView Key)) (given : List ShardPass) → Rebasing s ps new closing given made.locks items (length s.locks) → ArePassesOf made items
  rebased-passes made items closing given all = record {
    count = all.items_count ∙ sym all.count;
    each = all.each;
    parts = (all_parts, rebased-parts closing given made.locks items all);
  }
