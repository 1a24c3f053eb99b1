use Rattle.std.proofs.Common.{◌≡◌, true, ◌∙◌, arith, sym}
use Rattle.std.specs.Option.{is_some}
use Rattle.variant_fen.proofs.FieldLemmas.{eight_after}
use Rattle.variant_fen.proofs.fields.cut_counted.Goals as goal

pub returns-then-is_some : goal.returns-then-is_some
returns-then-is_some c =
    let more : is_some c.cut_at-7.result.1 ≡ true = sym c.is_some.ensures ∙ c.if-is_some.true in
    grind (arith, eight_after c.cut_at.result.0.now c.cut_at-2.result.0.now c.cut_at-3.result.0.now c.cut_at-4.result.0.now c.cut_at-5.result.0.now c.cut_at-6.result.0.now c.cut_at-7.result.0.now c.cut_at-7.result.1 more)
