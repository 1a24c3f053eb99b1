use Rattle.std.proofs.Common.{◌≡◌, arith, ap, sym, ◌∙◌}
use Rattle.fen_model.specs.Held.{bits_of, gate_said}
use Rattle.variant_fen.proofs.HeldLemmas.{bits_fit, bits_of-no, bits_of-yes, one_bit}
use Rattle.variant_fen.proofs.held.gates_said.Goals as goal
use Rattle.variant_fen.proofs.held.gates_said.Goals.{then-gate_said, else-gate_said}

pub overflow_add-gates : goal.overflow_add-gates
overflow_add-gates c =
    let fit = bits_fit (gate_said c.args.rules.now c.args.cells.now c.args.text.now c.args.side) c.loop-file.file c.loop-file.gates c.loop-file-test.true c.loop-file.invariant in
    omega (arith, fit)

pub loop-file-preserved : goal.loop-file-preserved
loop-file-preserved c =
    let said = gate_said c.args.rules.now c.args.cells.now c.args.text.now c.args.side in
    elim c.if-gate_said.branch [
      | then-gate_said w ↦
          let more = bits_of-yes said c.loop-file.file (sym c.gate_said.ensures ∙ w.if-gate_said.true) in
          let bit = one_bit c.loop-file.file c.loop-file-test.true in
          cc (more, bit, w.gates-is, c.loop-file.invariant)
      | else-gate_said w ↦
          let same = bits_of-no said c.loop-file.file (sym c.gate_said.ensures ∙ w.if-gate_said.false) in
          cc (same, w.gates-is, c.loop-file.invariant)
    ]
