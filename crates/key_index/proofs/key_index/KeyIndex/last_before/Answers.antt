use Rattle.std.proofs.Common.{◌≡◌, ◌-◌, ℕ, List, Some, length, get_or, unwrap_or, slice_get, ap, sym, ◌∙◌, subst, arith}
use Rattle.std.specs.Option.{IfSome}
use Rattle.key_index.specs.Index.{bucket_of}
use Rattle.key_index.specs.Places.{IsLastPlace}
use Rattle.key_index.proofs.WalkLemmas.{IsWalking, walk-head, walk-link, walk-on, walk-found}
use Rattle.key_index.proofs.key_index.KeyIndex.last_before.Goals.{in-Some, in-None}
use Rattle.key_index.proofs.key_index.KeyIndex.last_before.Goals as goal

pub loop-at-init : goal.loop-at-init
loop-at-init c =
    let s = c.self.inside in
    let keys = s.keys.items in
    let heads = s.heads.items in
    let key = c.args.key in
    let at = c.match-given.at in
    let view = c.self.view_is in
    let walking : IsWalking keys (length heads) key (unwrap_or c.args.given (length keys)) at = elim c.match-given.branch [
      | in-Some w ↦
          let given : slice_get c.args.self.now w.in-Some.i ≡ Some key = subst (λ g. IfSome g (λ i. slice_get c.args.self.now i ≡ Some key)) w.in-Some.is c.requires in
          let here : slice_get keys w.in-Some.i ≡ Some key = subst (λ (ks : List ℕ). slice_get ks w.in-Some.i ≡ Some key) (sym view) given in
          let read = subst (λ x. x ≡ get_or s.links.items w.in-Some.i x) (sym w.at-is) w.index.ensures in
          subst (λ g. IsWalking keys (length heads) key (unwrap_or g (length keys)) at) (sym w.in-Some.is)
          (walk-link keys heads s.links.items c.self.invariant key w.in-Some.i at here read)
      | in-None w ↦
          let size : w.len.result ≡ length heads = omega (arith, s.heads.ok.0, w.len.ensures) in
          let read = subst (λ x. x ≡ get_or heads w.bucket_of.result x) (sym w.at-is) w.index-in-None.ensures in
          subst (λ g. IsWalking keys (length heads) key (unwrap_or g (length keys)) at) (sym w.in-None.is)
          (walk-head keys heads s.links.items c.self.invariant key w.bucket_of.result at (w.bucket_of.ensures.is ∙ ap (λ n. bucket_of n key) size) (omega (arith, size, w.bucket_of.ensures.below)) read)
    ] in
    subst (λ (ks : List ℕ). IsWalking ks (length heads) key (unwrap_or c.args.given (length ks)) at) view walking

pub returns-then-index-key : goal.returns-then-index-key
returns-then-index-key c =
    let s = c.self.inside in
    let view = c.self.view_is in
    let n = unwrap_or c.args.given (length c.args.self.now) in
    let P : List ℕ → Type 0 = λ ks. IsWalking ks (length s.heads.items) c.args.key n c.loop-at.at in
    let Q : List ℕ → Type 0 = λ ks. IsLastPlace ks c.args.key n (Some (c.loop-at.at - 1)) in
    subst Q view (walk-found s.keys.items s.heads.items s.links.items c.self.invariant c.args.key n c.loop-at.at c.index-in-loop-at.result.now (subst P (sym view) c.loop-at.invariant) c.loop-at-test.true c.index-in-loop-at.ensures c.if-index-key.true)

pub loop-at-preserved : goal.loop-at-preserved
loop-at-preserved c =
    let s = c.self.inside in
    let view = c.self.view_is in
    let n = unwrap_or c.args.given (length c.args.self.now) in
    let P : ℕ → List ℕ → Type 0 = λ at ks. IsWalking ks (length s.heads.items) c.args.key n at in
    subst (P c.index-at.result.now) view (walk-on s.keys.items s.heads.items s.links.items c.self.invariant c.args.key n c.loop-at.at c.index-in-loop-at.result.now c.index-at.result.now (subst (P c.loop-at.at) (sym view) c.loop-at.invariant) c.loop-at-test.true c.index-in-loop-at.ensures c.if-index-key.false c.index-at.ensures)
