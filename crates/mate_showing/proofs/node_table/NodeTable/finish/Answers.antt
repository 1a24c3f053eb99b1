use Rattle.std.proofs.Common.{◌≡◌, ◌≤◌, [], ◌∷◌, ◌++◌, min, ◌-◌, true, false, length, Some, slice_get, refl, ap, sym, ◌∙◌, subst}
use Rattle.rules_model.specs.declared.board.Position.{Position}
use Rattle.rules_model.specs.Next.{with_counts}
use Rattle.rules_model.specs.Repeats.{repeat_of}
use Rattle.position_key.specs.Key.{key_of}
use Rattle.strategy.specs.declared.nodes.Node.{Node}
use Rattle.mate_settle.specs.Lines.{plies, seen_in}
use Rattle.mate_showing.specs.Tabled.{Tabled, StandsIn, IsNextIn, AreEdgesIn}
use Rattle.mate_showing.specs.Tables.{is_key}
use Rattle.mate_showing.proofs.Growth.{put_either}
use Rattle.mate_showing.proofs.Kept.{IsFinished, finished, found, grows-to}
use Rattle.mate_showing.proofs.Searched.{keyed-put}
use Rattle.mate_showing.proofs.node_table.NodeTable.finish.Goals as goal
use Rattle.mate_showing.proofs.node_table.NodeTable.finish.Goals.{In_ok-put}

well : (c : In_ok-put) → IsFinished c.self.inside.frame.now c.self.inside.plan c.self.inside.nodes.items c.put.new.nodes.items c.args.board.now.position c.args.n c.place-at.result
well c =
    let f = c.self.inside.frame.now in
    let plan = c.self.inside.plan in
    let s = c.self.inside.nodes.items in
    let t = c.put.new.nodes.items in
    let k = c.place-at.result in
    let b = c.args.board.now in
    let p = b.position in
    let n = c.args.n in
    let v : Node = record { position = c.written.result; rank = n; edges = c.args.edges } in
    let view = c.self.view_is in
    let here : c.position-p.result.now ≡ p = c.position-p.ensures in
    let e : c.as_slice-nodes.result.now ≡ s = c.as_slice-nodes.ensures.value in
    let end : k ≤ length s = subst (λ z. k ≤ length z) e c.place-at.ensures.within in
    finished f plan s t k c.counter_at-counter.result v b n
    (c.requires.rules ∙ sym (ap (λ (x : Tabled). x.frame.rules) view))
    c.prove_ready.ensures.sound
    c.requires.small
    (subst (λ (x : Tabled). IsNextIn x n p) (sym view) c.requires.next)
    (subst (λ (x : Tabled). AreEdgesIn x p n c.args.edges) (sym view) c.requires.edges)
    (c.written.ensures ∙ ap (λ (y : Position). with_counts (repeat_of y) c.counter_at-counter.result 1) here)
    (λ z. c.counter_at-counter.ensures.exact z ∙ ap (λ (y : Position). y.counter) here)
    (λ z. subst (λ y. c.counter_at-counter.result ≡ min 9999 (plan.room - plies (seen_in f) n y)) here (c.counter_at-counter.ensures.falling z))
    refl
    (put_either s k v t end c.in_ok-put.ensures.after c.in_ok-put.ensures.over)
    (λ u h. (
      subst (λ y. is_key plan.exact y u ≡ true) here (c.place-at.ensures.here u (subst (λ z. slice_get z k ≡ Some u) (sym e) h)),
      c.is_made.ensures.not_made c.if-is_made.false u (subst (λ z. slice_get z k ≡ Some u) (sym e) h),
    ))
    (λ j u o h. subst (λ y. is_key plan.exact y u ≡ false) here (c.place-at.ensures.before j u o (subst (λ z. slice_get z j ≡ Some u) (sym e) h)))
    end
    c.self.invariant.kept

pub invariant_of-self-2 : goal.invariant_of-self-2
invariant_of-self-2 c =
    let s = c.self.inside.nodes.items in
    let keys = c.self.inside.keys in
    let k = c.place-at.result in
    let p = c.args.board.now.position in
    let v : Node = record { position = c.written.result; rank = c.args.n; edges = c.args.edges } in
    let here : c.position-p.result.now ≡ p = c.position-p.ensures in
    let e : c.as_slice-nodes.result.now ≡ s = c.as_slice-nodes.ensures.value in
    let known : c.key-key.result ≡ key_of (repeat_of p) = c.key-key.ensures in
    record {
      kept = (well c).kept;
      keys =
          keyed-put s c.put.new.nodes.items keys c.put.new.keys k v c.self.inside.plan.exact p c.self.invariant.keys
          (ap (λ (y : Position). key_of (repeat_of y)) (c.written.ensures ∙ ap (λ (y : Position). with_counts (repeat_of y) c.counter_at-counter.result 1) here))
          (subst (λ z. k ≤ length z) e c.place-at.ensures.within)
          (λ u h. subst (λ y. is_key c.self.inside.plan.exact y u ≡ true) here (c.place-at.ensures.here u (subst (λ z. slice_get z k ≡ Some u) (sym e) h)))
          c.in_ok-put.ensures.after
          c.in_ok-put.ensures.over
          (λ l. c.in_ok-put.ensures.key_after l ∙ ap (λ x. keys ++ x ∷ []) known)
          c.in_ok-put.ensures.key_over;
    }

pub returns-clause-grows : goal.returns-clause-grows
returns-clause-grows c =
    grows-to c.args.self.now c.self.inside.frame.now c.self.inside.plan c.self.inside.nodes.items c.put.new.nodes.items c.self.view_is (well c).grows

pub returns-clause-stands : goal.returns-clause-stands
returns-clause-stands c = (well c).stands

pub returns-then-is_made-clause-stands : goal.returns-then-is_made-clause-stands
returns-then-is_made-clause-stands c =
    let s = c.self.inside.nodes.items in
    let k = c.place-at.result in
    let p = c.args.board.now.position in
    let here : c.position-p.result.now ≡ p = c.position-p.ensures in
    let e : c.as_slice-nodes.result.now ≡ s = c.as_slice-nodes.ensures.value in
    let m = c.is_made.ensures.made c.if-is_made.true in
    let at : slice_get s k ≡ Some m.0 = subst (λ z. slice_get z k ≡ Some m.0) e m.1 in
    subst (λ (t : Tabled). StandsIn t p c.args.n k) c.self.view_is
    (found c.self.inside.frame.now c.self.inside.plan s p c.args.n k (m.0, at, m.2)
    (λ v h. subst (λ y. is_key c.self.inside.plan.exact y v ≡ true) here (c.place-at.ensures.here v (subst (λ z. slice_get z k ≡ Some v) (sym e) h))))
