-- Passes that are made, cut in two and joined, one shard after another.
use Rattle.std.proofs.Common.{◌≡◌, ℕ, zero, suc, ◌+◌, ◌-◌, ◌<◌, ◌≤◌, List, [], ◌∷◌, ◌++◌, length, get_or, set, Option, Some, None, refl, ap, sym, ◌∙◌, subst, arith, length-set}
use Rattle.std.specs.Prelude.{All, slice_get}
use Rattle.std.specs.List.{insert, remove}
use Rattle.std.proofs.lemmas.List.{length_push}
use Rattle.std.proofs.lemmas.List.Elements.{All-push, All-weaker}
use Rattle.std.proofs.lemmas.Option.{slice_get_within}
use native.Mathlib.Decide.{ℕ_discrete}
use mathlib.Core.Logic.{dite}
use Rattle.foundation.proofs.SetLemmas.{slice_get-set_same, slice_get-set_other}
use Rattle.fact_lock.specs.Passes.{LockView, IsPassOf, all_parts}
use Rattle.mate_core.specs.declared.frame.Frame.{Frame}
use Rattle.mate_shards.specs.Shard.{Key}
use Rattle.mate_shards.specs.Views.{ShardsView, ShardPass, ArePassesOf, IsFresh, IsHalved, AreHalved, IsJoined, AreJoined}
use Rattle.mate_shards.proofs.TurnLemmas.{some_is, read-at, all-at}

module _ {X : Type 0} where
  -- an element of a list that was pushed to
  pub push-at : {C : Type 0} (xs : List X) (x : X) (k : ℕ) (y : X) → slice_get (xs ++ x ∷ []) k ≡ Some y → (slice_get xs k ≡ Some y → C) → (k ≡ length xs → x ≡ y → C) → C
  push-at [] x zero y e old new = new refl (some_is e)
  push-at [] x (suc k) y e old new = absurd (let f : ◌≡◌ {A = Option X} None (Some y) = e in cc)
  push-at (z ∷ xs) x zero y e old new = old e
  push-at (z ∷ xs) x (suc k) y e old new = push-at xs x k y e old (λ f. new (ap (λ n. suc n) f))

-- ---- made

-- so many locks over empty shards are made, each with its pass
pub record AreMade (frame : Frame) (capacity : ℕ) (locks : List (LockView Key)) (passes : List ShardPass) : Type 0 where
  pub count : length passes ≡ length locks
  pub keys : All (λ l. l.key ≡ (frame, capacity)) locks
  pub each : (k : ℕ) (l : LockView Key) (p : ShardPass) → slice_get locks k ≡ Some l → slice_get passes k ≡ Some p → IsPassOf l p
  pub all_fresh : All (IsFresh []) passes

pub none-made : (frame : Frame) (capacity : ℕ) → AreMade frame capacity [] []
none-made frame capacity = record {
  count = refl;
  keys = λ k d l. absurd (omega arith);
  each = λ k l p e f. absurd (let g : ◌≡◌ {A = Option ShardPass} None (Some p) = f in cc);
  all_fresh = λ k d l. absurd (omega arith);
}

pub one-more : (frame : Frame) (capacity : ℕ) (locks : List (LockView Key)) (passes : List ShardPass) (l : LockView Key) (p : ShardPass) → AreMade frame capacity locks passes → l.key ≡ (frame, capacity) → IsPassOf l p → IsFresh [] p → AreMade frame capacity (locks ++ l ∷ []) (passes ++ p ∷ [])
one-more frame capacity locks passes l p made key is fresh = record {
  count = let e = made.count in omega (arith, length_push locks l, length_push passes p);
  keys = All-push (λ m. m.key ≡ (frame, capacity)) locks l made.keys key;
  each = λ k m q lock pass.
      push-at locks l k m lock
      (λ old. push-at passes p k q pass (λ here. made.each k m q old here) (λ e same. absurd (let w = slice_get_within locks k m old in let c = made.count in omega arith)))
      (λ e same.
      push-at passes p k q pass
      (λ here. absurd (let w = slice_get_within passes k q here in let c = made.count in omega arith))
      (λ f same_pass. subst (λ x. IsPassOf x q) same (subst (λ x. IsPassOf l x) same_pass is)));
  all_fresh = All-push (IsFresh []) passes p made.all_fresh fresh;
}

pub made-passes : (s : ShardsView) (passes : List ShardPass) → AreMade s.frame s.capacity s.locks passes → ArePassesOf s passes
made-passes s passes made = record {
  count = made.count;
  each = made.each;
  parts = (all_parts, All-weaker (IsFresh []) (λ p. p.parts ≡ all_parts) (λ p fresh. fresh.parts) passes made.all_fresh);
}

module _ {X : Type 0} where
  -- one element is taken out and another put in its place
  pub put-back : (xs : List X) (k : ℕ) (y : X) → k < length xs → insert (remove xs k) k y ≡ set xs k y
  put-back [] k y l = absurd (omega arith)
  put-back (x ∷ xs) zero y l = refl
  put-back (x ∷ xs) (suc k) y l = ap (λ zs. x ∷ zs) (put-back xs k y (omega arith))

  pub some-at : (xs : List X) (k : ℕ) → k < length xs → (x : X) × (slice_get xs k ≡ Some x)
  some-at [] k l = absurd (omega arith)
  some-at (x ∷ xs) zero l = (x, refl)
  some-at (x ∷ xs) (suc k) l = some-at xs k (omega arith)

  read : (xs : List X) (k : ℕ) (d : X) → k < length xs → slice_get xs k ≡ Some (get_or xs k d)
  read [] k d l = absurd (omega arith)
  read (x ∷ xs) zero d l = refl
  read (x ∷ xs) (suc k) d l = read xs k d (omega arith)

  pub all-from : (P : X → Type 0) (xs : List X) → ((k : ℕ) (x : X) → slice_get xs k ≡ Some x → P x) → All P xs
  all-from P xs each k d l = each k (get_or xs k d) (read xs k d l)

  pub first_gone : (xs : List X) (j : ℕ) → slice_get (remove xs 0) j ≡ slice_get xs (suc j)
  first_gone [] j = refl
  first_gone (x ∷ xs) j = refl

-- ---- cut in two

-- the passes of the first k shards are cut
pub record Splitting (s : ShardsView) (ps items given : List ShardPass) (k : ℕ) : Type 0 where
  pub count : length items ≡ length ps
  pub taken : length given ≡ k
  pub ahead : (j : ℕ) → k ≤ j → slice_get items j ≡ slice_get ps j
  pub cut : (j : ℕ) (l : LockView Key) (p a b : ShardPass) → j < k → slice_get s.locks j ≡ Some l → slice_get ps j ≡ Some p → slice_get items j ≡ Some a → slice_get given j ≡ Some b → IsPassOf l a × IsPassOf l b × IsHalved p a b

module _ (s : ShardsView) (ps : List ShardPass) (are : ArePassesOf s ps) where
  pub split-starts : Splitting s ps ps [] 0
  split-starts = record { count = refl; taken = refl; ahead = λ j l. refl; cut = λ j l p a b below lock was here part. absurd (omega arith) }

  pub split-goes-on : (items given : List ShardPass) (k : ℕ) (l : LockView Key) (p a b : ShardPass) → Splitting s ps items given k → k < length ps → slice_get s.locks k ≡ Some l → slice_get ps k ≡ Some p → IsPassOf l a → IsPassOf l b → IsHalved p a b → Splitting s ps (set items k a) (given ++ b ∷ []) (k + 1)
  split-goes-on items given k l p a b so_far below lock was is_a is_b halved = record {
    count = length-set items k a ∙ so_far.count;
    taken = let e = so_far.taken in omega (arith, length_push given b);
    ahead = λ j from. slice_get-set_other items k j a (λ e. absurd (omega arith)) ∙ so_far.ahead j (omega arith);
    cut = cut;
  }
    where
      cut : (j : ℕ) (m : LockView Key) (q c d : ShardPass) → j < k + 1 → slice_get s.locks j ≡ Some m → slice_get ps j ≡ Some q → slice_get (set items k a) j ≡ Some c → slice_get (given ++ b ∷ []) j ≡ Some d → IsPassOf m c × IsPassOf m d × IsHalved q c d
      cut j m q c d from lock_j was_j here part =
          let size = so_far.count in
          let taken = so_far.taken in
          dite (ℕ_discrete j k)
          (λ e.
          let same_lock : l ≡ m = some_is (sym lock ∙ (ap (slice_get s.locks) (sym e) ∙ lock_j)) in
          let same_pass : p ≡ q = some_is (sym was ∙ (ap (slice_get ps) (sym e) ∙ was_j)) in
          let same_a : a ≡ c = some_is (sym (slice_get-set_same items k a (omega arith)) ∙ (ap (slice_get (set items k a)) (sym e) ∙ here)) in
          push-at given b j d part
          (λ old. absurd (let w = slice_get_within given j d old in omega arith))
          (λ f same_b. (
            subst (λ x. IsPassOf x c) same_lock (subst (IsPassOf l) same_a is_a),
            subst (λ x. IsPassOf x d) same_lock (subst (IsPassOf l) same_b is_b),
            subst (λ x. IsHalved x c d) same_pass (subst (λ x. IsHalved p x d) same_a (subst (IsHalved p a) same_b halved)),
          )))
          (λ apart.
          push-at given b j d part
          (λ old. so_far.cut j m q c d (omega arith) lock_j was_j (sym (slice_get-set_other items k j a (λ e. apart (sym e))) ∙ here) old)
          (λ f same_b. absurd (apart (f ∙ taken))))

  module _ (items given : List ShardPass) (all : Splitting s ps items given (length ps)) where
    cut_at : (j : ℕ) (l : LockView Key) (a b : ShardPass) → slice_get s.locks j ≡ Some l → slice_get items j ≡ Some a → slice_get given j ≡ Some b → (p : ShardPass) × (slice_get ps j ≡ Some p) × IsPassOf l a × IsPassOf l b × IsHalved p a b
    cut_at j l a b lock here part =
        let w = slice_get_within items j a here in
        let size = all.count in
        let p = some-at ps j (omega arith) in
        let c = all.cut j l p.0 a b (omega arith) lock p.1 here part in
        (p.0, p.1, c.0, c.1, c.2)

    lock_for : (j : ℕ) → j < length ps → (l : LockView Key) × (slice_get s.locks j ≡ Some l)
    lock_for j l = let e = are.count in some-at s.locks j (omega arith)

    part_for : (j : ℕ) → j < length ps → (b : ShardPass) × (slice_get given j ≡ Some b)
    part_for j l = let e = all.taken in some-at given j (omega arith)

    kept_for : (j : ℕ) → j < length ps → (a : ShardPass) × (slice_get items j ≡ Some a)
    kept_for j l = let e = all.count in some-at items j (omega arith)

    pub first-passes : ArePassesOf s items
    first-passes = record {
      count = all.count ∙ are.count;
      each = λ j l a lock here.
          let w = slice_get_within items j a here in
          let size = all.count in
          let b = part_for j (omega arith) in
          (cut_at j l a b.0 lock here b.1).2;
      parts =
          let n = are.parts.0 in (
            n - 1,
            all-from (λ v. v.parts ≡ n - 1) items
                (λ j a here.
                let w = slice_get_within items j a here in
                let size = all.count in
                let l = lock_for j (omega arith) in
                let b = part_for j (omega arith) in
                let c = cut_at j l.0 a b.0 l.1 here b.1 in
                let parts = c.4.parts.0 in
                let was = all-at (λ v. v.parts ≡ n) ps j c.0 are.parts.1 c.1 in omega arith),
          );
    }

    pub second-passes : ArePassesOf s given
    second-passes = record {
      count = all.taken ∙ are.count;
      each = λ j l b lock part.
          let w = slice_get_within given j b part in
          let taken = all.taken in
          let a = kept_for j (omega arith) in
          (cut_at j l a.0 b lock a.1 part).3;
      parts = (
        1,
        all-from (λ v. v.parts ≡ 1) given
            (λ j b part.
            let w = slice_get_within given j b part in
            let taken = all.taken in
            let l = lock_for j (omega arith) in
            let a = kept_for j (omega arith) in
            let c = cut_at j l.0 a.0 b l.1 a.1 part in c.4.parts.1),
      );
    }

    pub halved-parts : (n : ℕ) → All (λ p. p.parts ≡ n + 1) ps → All (λ p. p.parts ≡ n) items
    halved-parts n whole =
        all-from (λ v. v.parts ≡ n) items
        (λ j a here.
        let w = slice_get_within items j a here in
        let size = all.count in
        let l = lock_for j (omega arith) in
        let b = part_for j (omega arith) in
        let c = cut_at j l.0 a b.0 l.1 here b.1 in
        let parts = c.4.parts.0 in
        let was = all-at (λ v. v.parts ≡ n + 1) ps j c.0 whole c.1 in omega arith)

    pub are-halved : AreHalved ps items given
    are-halved j p a b was here part =
        let w = slice_get_within ps j p was in
        let l = lock_for j w in (all.cut j l.0 p a b w l.1 was here part).2

-- ---- joined

-- the passes of the first k shards are joined
pub record Joining (s : ShardsView) (left right items others : List ShardPass) (k : ℕ) : Type 0 where
  pub count : length items ≡ length left
  pub others_are : (j : ℕ) → slice_get others j ≡ slice_get right (k + j)
  pub more : length others + k ≡ length right
  pub ahead : (j : ℕ) → k ≤ j → slice_get items j ≡ slice_get left j
  pub done : (j : ℕ) (l : LockView Key) (a b p : ShardPass) → j < k → slice_get s.locks j ≡ Some l → slice_get left j ≡ Some a → slice_get right j ≡ Some b → slice_get items j ≡ Some p → IsPassOf l p × IsJoined a b p

module _ (s : ShardsView) (left right : List ShardPass) (are : ArePassesOf s left) (others_are : ArePassesOf s right) where
  pub join-starts : Joining s left right left right 0
  join-starts = record {
    count = refl;
    others_are = λ j. let e : j ≡ 0 + j = omega arith in ap (slice_get right) e;
    more = omega arith;
    ahead = λ j l. refl;
    done = λ j l a b p below lock first second here. absurd (omega arith);
  }

  pub join-goes-on : (items others : List ShardPass) (k : ℕ) (l : LockView Key) (a b p : ShardPass) → Joining s left right items others k → k < length left → length (remove others 0) + 1 ≡ length others → slice_get s.locks k ≡ Some l → slice_get left k ≡ Some a → slice_get right k ≡ Some b → IsPassOf l p → IsJoined a b p → Joining s left right (set items k p) (remove others 0) (k + 1)
  join-goes-on items others k l a b p so_far below shorter lock first second is joined = record {
    count = length-set items k p ∙ so_far.count;
    others_are = λ j. let e : k + suc j ≡ k + 1 + j = omega arith in first_gone others j ∙ (so_far.others_are (suc j) ∙ ap (slice_get right) e);
    more = let m = so_far.more in omega arith;
    ahead = λ j from. slice_get-set_other items k j p (λ e. absurd (omega arith)) ∙ so_far.ahead j (omega arith);
    done = done;
  }
    where
      done : (j : ℕ) (m : LockView Key) (c d q : ShardPass) → j < k + 1 → slice_get s.locks j ≡ Some m → slice_get left j ≡ Some c → slice_get right j ≡ Some d → slice_get (set items k p) j ≡ Some q → IsPassOf m q × IsJoined c d q
      done j m c d q from lock_j first_j second_j here =
          let size = so_far.count in
          dite (ℕ_discrete j k)
          (λ e.
          let same_lock : l ≡ m = some_is (sym lock ∙ (ap (slice_get s.locks) (sym e) ∙ lock_j)) in
          let same_a : a ≡ c = some_is (sym first ∙ (ap (slice_get left) (sym e) ∙ first_j)) in
          let same_b : b ≡ d = some_is (sym second ∙ (ap (slice_get right) (sym e) ∙ second_j)) in
          let same : p ≡ q = some_is (sym (slice_get-set_same items k p (omega arith)) ∙ (ap (slice_get (set items k p)) (sym e) ∙ here)) in (
            subst (λ x. IsPassOf x q) same_lock (subst (IsPassOf l) same is),
            subst (λ x. IsJoined x d q) same_a (subst (λ x. IsJoined a x q) same_b (subst (IsJoined a b) same joined)),
          ))
          (λ apart. so_far.done j m c d q (omega arith) lock_j first_j second_j (sym (slice_get-set_other items k j p (λ e. apart (sym e))) ∙ here))

  module _ (items others : List ShardPass) (all : Joining s left right items others (length left)) where
    pub joined-passes : ArePassesOf s items
    joined-passes = record {
      count = all.count ∙ are.count;
      each = λ j l p lock here. (joined_at j l p lock here).3;
      parts =
          let n = are.parts.0 in
          let m = others_are.parts.0 in (
            n + m,
            all-from (λ v. v.parts ≡ n + m) items
                (λ j p here.
                let w = slice_get_within items j p here in
                let size = all.count in
                let e = are.count in
                let l = some-at s.locks j (omega arith) in
                let c = joined_at j l.0 p l.1 here in
                let parts = c.4.parts in
                let x = all-at (λ v. v.parts ≡ n) left j c.0 are.parts.1 c.2.0 in
                let y = all-at (λ v. v.parts ≡ m) right j c.1 others_are.parts.1 c.2.1 in omega arith),
          );
    }
      where
        joined_at : (j : ℕ) (l : LockView Key) (p : ShardPass) → slice_get s.locks j ≡ Some l → slice_get items j ≡ Some p → (a : ShardPass) × (b : ShardPass) × ((slice_get left j ≡ Some a) × (slice_get right j ≡ Some b)) × IsPassOf l p × IsJoined a b p
        joined_at j l p lock here =
            let w = slice_get_within items j p here in
            let size = all.count in
            let e = are.count in
            let f = others_are.count in
            let a = some-at left j (omega arith) in
            let b = some-at right j (omega arith) in
            let d = all.done j l a.0 b.0 p (omega arith) lock a.1 b.1 here in
            (a.0, b.0, (a.1, b.1), d.0, d.1)

    pub are-joined : AreJoined left right items
    are-joined j a b p first second here =
        let w = slice_get_within left j a first in
        let e = are.count in
        let l = some-at s.locks j (omega arith) in (all.done j l.0 a b p w l.1 first second here).1

-- ---- what is read on the way

module _ (s : ShardsView) (ps items given : List ShardPass) (are : ArePassesOf s ps) (k : ℕ) (so_far : Splitting s ps items given k) (below : k < length s.locks) (l : LockView Key) (p : ShardPass) (lock_read : l ≡ get_or s.locks k l) (pass_read : p ≡ get_or items k p) where
  pub split-lock : slice_get s.locks k ≡ Some l
  split-lock = read-at s.locks k l below lock_read

  pub split-was : slice_get ps k ≡ Some p
  split-was =
      let e = so_far.count in
      let c = are.count in
      sym (so_far.ahead k (omega arith)) ∙ read-at items k p (omega arith) pass_read

  pub split-is : IsPassOf l p
  split-is = are.each k l p split-lock split-was

module _ (s : ShardsView) (left right items others : List ShardPass) (are : ArePassesOf s left) (others_are : ArePassesOf s right) (k : ℕ) (so_far : Joining s left right items others k) (below : k < length s.locks) (l : LockView Key) (a b : ShardPass) (lock_read : l ≡ get_or s.locks k l) (pass_read : a ≡ get_or items k a) (other_read : b ≡ get_or others 0 b) where
  pub join-lock : slice_get s.locks k ≡ Some l
  join-lock = read-at s.locks k l below lock_read

  pub join-first : slice_get left k ≡ Some a
  join-first =
      let e = so_far.count in
      let c = are.count in
      sym (so_far.ahead k (omega arith)) ∙ read-at items k a (omega arith) pass_read

  pub join-second : slice_get right k ≡ Some b
  join-second =
      let m = so_far.more in
      let c = others_are.count in
      let e : k ≡ k + 0 = omega arith in
      ap (slice_get right) e ∙ (sym (so_far.others_are 0) ∙ read-at others 0 b (omega arith) other_read)

  pub join-is : IsPassOf l a × IsPassOf l b
  join-is = (are.each k l a join-lock join-first, others_are.each k l b join-lock join-second)
