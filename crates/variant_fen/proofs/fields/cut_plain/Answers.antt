use Rattle.std.proofs.Common.{◌≡◌, true, ◌∙◌, arith, sym}
use Rattle.std.specs.Option.{is_some}
use Rattle.variant_fen.proofs.FieldLemmas.{seven_after}
use Rattle.variant_fen.proofs.fields.cut_plain.Goals as goal
use Rattle.variant_fen.proofs.fields.cut_plain.Goals.{then-left_out-2-via-then-left_out-2, then-left_out-2-via-else-left_out-2+then-is_some}

pub returns-then-left_out-2 : goal.returns-then-left_out-2
returns-then-left_out-2 c =
    elim c.then-left_out-2.branch [
      | then-left_out-2-via-then-left_out-2 w ↦ grind (arith, seven_after)
      | then-left_out-2-via-else-left_out-2+then-is_some w ↦
          let more : is_some c.cut_at-6.result.1 ≡ true = sym w.is_some.ensures ∙ w.if-is_some.true in
          grind (arith, seven_after c.cut_at.result.0.now c.cut_at-2.result.0.now c.cut_at-3.result.0.now c.cut_at-4.result.0.now c.cut_at-5.result.0.now c.cut_at-6.result.0.now c.cut_at-6.result.1 more)
    ]
