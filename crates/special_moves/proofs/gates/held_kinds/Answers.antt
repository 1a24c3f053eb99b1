use Rattle.std.proofs.Common.{◌≡◌, ◌&&◌, ◌||◌, ◌==◌, nat_lt, ap, sym, ◌∙◌, arith}
use Rattle.rules_model.specs.Repeats.{repeat_of}
use Rattle.move_tables.proofs.BuildLaws.{member_step, other_step}
use Rattle.special_moves.specs.Parts.{holds_kind}
use Rattle.special_moves.proofs.gates.held_kinds.Goals as goal
use Rattle.special_moves.proofs.gates.held_kinds.Goals.{then-holds_kind, else-holds_kind}

pub loop-k-preserved : goal.loop-k-preserved
loop-k-preserved c = λ s.
    elim c.if-holds_kind.branch [
      | then-holds_kind w ↦
          rw w.held-is
          (w.with-held.ensures s ∙ ap (λ b. b || (s == c.loop-k.k)) (c.loop-k.invariant s)
          ∙ member_step (holds_kind (repeat_of c.args.p.now)) s c.loop-k.k (sym c.holds_kind.ensures ∙ w.if-holds_kind.true))
      | else-holds_kind w ↦
          rw w.held-is
          (c.loop-k.invariant s ∙ other_step (holds_kind (repeat_of c.args.p.now)) s c.loop-k.k (sym c.holds_kind.ensures ∙ w.if-holds_kind.false))
    ]

pub returns : goal.returns
returns c = λ s.
    let end : c.loop-k.k ≡ 26 = omega arith in
    c.loop-k.invariant s ∙ ap (λ n. nat_lt s n && holds_kind (repeat_of c.args.p.now) s) end
