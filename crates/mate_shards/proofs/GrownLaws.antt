-- Passes see as much and own as much after each call, and keep their parts.
use Rattle.std.proofs.Common.{◌≡◌, ℕ, ◌+◌, ◌≤◌, List, length, Option, Some, refl, ap, sym, ◌∙◌, subst, arith, length-set}
use Rattle.std.specs.Prelude.{All, Contains, slice_get}
use Rattle.std.proofs.lemmas.List.Elements.{All-weaker, Contains-append_left, Contains-append_right}
use Rattle.std.proofs.lemmas.Option.{slice_get_within}
use mathlib.Core.List.{IsPrefix}
use mathlib.Core.Logic.{dite}
use native.Mathlib.Decide.{ℕ_discrete}
use Rattle.foundation.proofs.SetLemmas.{slice_get-set_same, slice_get-set_other}
use Rattle.rules_model.specs.declared.board.Position.{Position}
use Rattle.forced_wins.specs.declared.fact.Fact.{Fact}
use Rattle.fact_lock.specs.Passes.{places}
use Rattle.fact_lock.proofs.Beginnings.{whole, prefix_trans}
use Rattle.mate_core.specs.Best.{stored}
use Rattle.mate_core.specs.Steps.{facts}
use Rattle.mate_shards.specs.declared.published.Published.{Published}
use Rattle.mate_shards.specs.Grown.{HaveParts, HaveSeen, OwnsAll, HaveGrown}
use Rattle.mate_shards.specs.Turns.{Turn, PublishTurn, LookTurn}
use Rattle.mate_shards.specs.Views.{ShardsView, ShardPass, ArePassesOf, IsHalved, AreHalved, IsJoined, AreJoined}
use Rattle.mate_shards.proofs.PassLemmas.{some-at, all-from}
use Rattle.mate_shards.proofs.TurnLemmas.{some_is, all-at}

-- ---- the relations

pub seen-itself : (ps : List ShardPass) → HaveSeen ps ps
seen-itself ps = record {
  count = refl;
  each = λ k p q e f. subst (λ (x : ShardPass). IsPrefix p.seen x.seen) (some_is (sym e ∙ f)) (whole p.seen);
}

pub seen-onward : (a b c : List ShardPass) → HaveSeen a b → HaveSeen b c → HaveSeen a c
seen-onward a b c first second = record {
  count = second.count ∙ first.count;
  each = λ k p q e f.
      let w = slice_get_within a k p e in
      let n = first.count in
      let middle = some-at b k (omega arith) in
      prefix_trans p.seen middle.0.seen q.seen (first.each k p middle.0 e middle.1) (second.each k middle.0 q middle.1 f);
}

pub grown-itself : (ps : List ShardPass) → HaveGrown ps ps
grown-itself ps = record {
  seen = seen-itself ps;
  own = λ k p q e f. subst (λ (x : ShardPass). OwnsAll p x) (some_is (sym e ∙ f)) (λ place has. has);
}

pub grown-onward : (a b c : List ShardPass) → HaveGrown a b → HaveGrown b c → HaveGrown a c
grown-onward a b c first second = record {
  seen = seen-onward a b c first.seen second.seen;
  own = λ k p q e f place has.
      let w = slice_get_within a k p e in
      let n = first.seen.count in
      let middle = some-at b k (omega arith) in
      second.own k middle.0 q middle.1 f place (first.own k p middle.0 e middle.1 place has);
}

-- ---- parts

pub two-parts : (n : ℕ) (ps : List ShardPass) → HaveParts n ps → 2 ≤ n → All (λ p. 2 ≤ p.parts) ps
two-parts n ps all two = All-weaker (λ p. p.parts ≡ n) (λ p. 2 ≤ p.parts) (λ p is. omega arith) ps all

-- ---- one turn at one shard

module _ (s : ShardsView) (before after : List ShardPass) (shard : ℕ) (list : List Fact) (new : Option Fact) (turn : Turn s before after shard list new) where
  pub turn-at : slice_get after shard ≡ Some turn.pass
  turn-at =
      subst (λ (l : List ShardPass). slice_get l shard ≡ Some turn.pass) (sym turn.is)
      (slice_get-set_same before shard turn.pass (slice_get_within before shard turn.old turn.was))

  owns : OwnsAll turn.old turn.pass
  owns place has =
      subst (λ (l : List ℕ). Contains l place) (sym turn.own) (Contains-append_left turn.old.own (places (length list) new) place has)

  grows_at : IsPrefix list turn.pass.seen → (k : ℕ) (p q : ShardPass) → slice_get before k ≡ Some p → slice_get after k ≡ Some q → IsPrefix p.seen q.seen × OwnsAll p q
  grows_at begins k p q e f =
      dite (ℕ_discrete k shard)
      (λ same.
      let old : turn.old ≡ p = some_is (sym turn.was ∙ (ap (slice_get before) (sym same) ∙ e)) in
      let new_pass : turn.pass ≡ q = some_is (sym turn-at ∙ (ap (slice_get after) (sym same) ∙ f)) in
      subst (λ (x : ShardPass). IsPrefix x.seen q.seen × OwnsAll x q) old
      (subst (λ (x : ShardPass). IsPrefix turn.old.seen x.seen × OwnsAll turn.old x) new_pass
      (prefix_trans turn.old.seen list turn.pass.seen turn.begins begins, owns)))
      (λ apart.
      let there : slice_get before k ≡ Some q = sym (slice_get-set_other before shard k turn.pass (λ e. apart (sym e))) ∙ (ap (λ (l : List ShardPass). slice_get l k) (sym turn.is) ∙ f) in
      subst (λ (x : ShardPass). IsPrefix p.seen x.seen × OwnsAll p x) (some_is (sym e ∙ there)) (whole p.seen, λ place has. has))

  pub turn-grows : IsPrefix list turn.pass.seen → HaveGrown before after
  turn-grows begins = record {
    seen = record {
      count = ap (λ (l : List ShardPass). length l) turn.is ∙ length-set before shard turn.pass;
      each = λ k p q e f. (grows_at begins k p q e f).0;
    };
    own = λ k p q e f. (grows_at begins k p q e f).1;
  }

pub publish-grows : (s : ShardsView) (before after : List ShardPass) (f : Fact) (answer : Published) → PublishTurn s before f answer after → HaveGrown before after
publish-grows s before after f answer turn =
    turn-grows s before after _ turn.list _ turn.turn (facts (stored s.capacity turn.list f), sym turn.seen)

pub look-grows : (s : ShardsView) (before after : List ShardPass) (p : Position) (moves : ℕ) (answer : Option Fact) → LookTurn s before p moves answer after → HaveGrown before after
look-grows s before after p moves answer turn =
    turn-grows s before after _ turn.list _ turn.turn (subst (λ (l : List Fact). IsPrefix turn.list l) (sym turn.seen) (whole turn.list))

-- ---- cut in two and joined

module _ (s : ShardsView) (ps left right : List ShardPass) (are : ArePassesOf s ps) (first : ArePassesOf s left) (second : ArePassesOf s right) where
  module _ (halves : AreHalved ps left right) where
    pub halved-first : (k : ℕ) (p a : ShardPass) → slice_get ps k ≡ Some p → slice_get left k ≡ Some a → (b : ShardPass) × IsHalved p a b
    halved-first k p a e f =
        let w = slice_get_within ps k p e in
        let n = are.count in
        let m = second.count in
        let b = some-at right k (omega arith) in (b.0, halves k p a b.0 e f b.1)

    pub halved-second : (k : ℕ) (b : ShardPass) → slice_get right k ≡ Some b → (p : ShardPass) × (a : ShardPass) × (slice_get ps k ≡ Some p) × IsHalved p a b
    halved-second k b f =
        let w = slice_get_within right k b f in
        let n = are.count in
        let l = first.count in
        let m = second.count in
        let p = some-at ps k (omega arith) in
        let a = some-at left k (omega arith) in (p.0, a.0, p.1, halves k p.0 a.0 b p.1 a.1 f)

    pub split-grows : HaveGrown ps left
    split-grows = record {
      seen = record {
        count = first.count ∙ sym are.count;
        each = λ k p a e f.
            let h = halved-first k p a e f in
            subst (λ (l : List Fact). IsPrefix p.seen l) (sym h.1.seen.0) (whole p.seen);
      };
      own = λ k p a e f place has.
          let h = halved-first k p a e f in
          subst (λ (l : List ℕ). Contains l place) (sym h.1.own.0) has;
    }

    pub split-sees : HaveSeen ps right
    split-sees = record {
      count = second.count ∙ sym are.count;
      each = λ k p b e f.
          let h = halved-second k b f in
          let same : h.0 ≡ p = some_is (sym h.2 ∙ e) in
          subst (λ (x : ShardPass). IsPrefix x.seen b.seen) same
          (subst (λ (l : List Fact). IsPrefix h.0.seen l) (sym h.3.seen.1) (whole h.0.seen));
    }

    pub split-part : HaveParts 1 right
    split-part = all-from (λ p. p.parts ≡ 1) right (λ k b f. (halved-second k b f).3.parts.1)

  module _ (joined : AreJoined left right ps) where
    with_first : (k : ℕ) (a p : ShardPass) → slice_get left k ≡ Some a → slice_get ps k ≡ Some p → (b : ShardPass) × (slice_get right k ≡ Some b) × IsJoined a b p
    with_first k a p e f =
        let w = slice_get_within left k a e in
        let n = first.count in
        let m = second.count in
        let b = some-at right k (omega arith) in (b.0, b.1, joined k a b.0 p e b.1 f)

    with_second : (k : ℕ) (b p : ShardPass) → slice_get right k ≡ Some b → slice_get ps k ≡ Some p → (a : ShardPass) × (slice_get left k ≡ Some a) × IsJoined a b p
    with_second k b p e f =
        let w = slice_get_within right k b e in
        let n = first.count in
        let m = second.count in
        let a = some-at left k (omega arith) in (a.0, a.1, joined k a.0 b p a.1 e f)

    pub join-grows_first : HaveGrown left ps
    join-grows_first = record {
      seen = record { count = are.count ∙ sym first.count; each = λ k a p e f. (with_first k a p e f).2.begins.0 };
      own = λ k a p e f place has.
          let h = with_first k a p e f in
          subst (λ (l : List ℕ). Contains l place) (sym h.2.own) (Contains-append_left a.own h.0.own place has);
    }

    pub join-grows_second : HaveGrown right ps
    join-grows_second = record {
      seen = record { count = are.count ∙ sym second.count; each = λ k b p e f. (with_second k b p e f).2.begins.1 };
      own = λ k b p e f place has.
          let h = with_second k b p e f in
          subst (λ (l : List ℕ). Contains l place) (sym h.2.own) (Contains-append_right h.0.own b.own place has);
    }

    pub join-parts : (m n : ℕ) → HaveParts m left → HaveParts n right → HaveParts (m + n) ps
    join-parts m n one other =
        all-from (λ p. p.parts ≡ m + n) ps
        (λ k p f.
        let w = slice_get_within ps k p f in
        let c = are.count in
        let d = first.count in
        let a = some-at left k (omega arith) in
        let h = with_first k a.0 p a.1 f in
        let parts = h.2.parts in
        let x = all-at (λ p. p.parts ≡ m) left k a.0 one a.1 in
        let y = all-at (λ p. p.parts ≡ n) right k h.0 other h.1 in omega arith)
