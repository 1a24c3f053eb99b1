use Rattle.std.proofs.Common.{◌≡◌, length, take, ap, sym, ◌∙◌, arith}
use Rattle.std.specs.List.{list_any}
use Rattle.std.proofs.Math.Seq.{take-length}
use Rattle.rules_model.specs.Movement.{reaches_by}
use Rattle.move_tables.specs.Spots.{is_used}
use Rattle.move_tables.proofs.BuildLaws.{gather_term, gather_other}
use Rattle.move_tables.proofs.build.spot_of_terms.Goals as goal
use Rattle.move_tables.proofs.build.spot_of_terms.Goals.{then-is_used+in_ok-add_term, else-is_used}

pub loop-term-preserved : goal.loop-term-preserved
loop-term-preserved c = λ occupied cells is t l.
    elim c.if-is_used.branch [
      | then-is_used+in_ok-add_term w ↦
          rw w.spot-is (gather_term c.args.rules.now _ _ _ _ _ _ _ _ _ _ _ c.board_of-board.ensures c.loop-term-test.true (c.loop-term.invariant occupied cells is t l) (sym c.is_used.ensures ∙ w.if-is_used.true) (w.in_ok-add_term.ensures occupied cells is t l))
      | else-is_used w ↦ rw w.spot-is (gather_other c.args.rules.now _ _ _ _ _ _ _ _ _ c.loop-term-test.true (c.loop-term.invariant occupied cells is t l) (sym c.is_used.ensures ∙ w.if-is_used.false))
    ]

pub returns : goal.returns
returns c = λ occupied cells is t l.
    let e : c.loop-term.term-index ≡ length c.args.terms.now = omega arith in
    let w : take c.loop-term.term-index c.args.terms.now ≡ c.args.terms.now = ap (λ k. take k c.args.terms.now) e ∙ take-length c.args.terms.now in
    c.loop-term.invariant occupied cells is t l ∙ ap (list_any (reaches_by c.args.rules.now cells c.args.side (is_used c.args.mode c.args.held) c.args.from t)) w
