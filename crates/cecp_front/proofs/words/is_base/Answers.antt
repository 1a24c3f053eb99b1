use Rattle.std.proofs.Common.{◌≡◌, ◌∙◌, true, false, ap, sym}
use Rattle.std.specs.Prelude.{◌&&◌, is_some}
use Rattle.session_model.specs.Numbers.{number_read}
use Rattle.cecp_front.proofs.LineLaws.{base_long, base_two}
use Rattle.cecp_front.proofs.words.is_base.Goals as goal

pub returns-then-is_some : goal.returns-then-is_some
returns-then-is_some c =
    base_long c.args.word.now c.cut_at.result.0.now c.cut_at-2.result.0.now c.cut_at.result.1 c.cut_at-2.result.1 c.in-Some.rest
    c.cut_at.ensures.parts c.in-Some.is c.cut_at-2.ensures.parts c.is_some-2.result c.is_some-2.ensures c.if-is_some.true

pub returns-then-is_some-2 : goal.returns-then-is_some-2
returns-then-is_some-2 c =
    let minutes : is_some (number_read c.cut_at.result.0.now) ≡ true =
    ap is_some (sym c.number-2.ensures) ∙ sym c.is_some-3.ensures ∙ c.if-is_some-2.true in
    c.is_some-then-is_some-2.ensures ∙ ap is_some c.number-then-is_some-2.ensures
    ∙ ap (λ b. b && is_some (number_read c.cut_at-2.result.0.now)) (sym minutes)
    ∙ base_two c.args.word.now c.cut_at.result.0.now c.cut_at-2.result.0.now c.cut_at.result.1 c.cut_at-2.result.1 c.in-Some.rest
    c.cut_at.ensures.parts c.in-Some.is c.cut_at-2.ensures.parts c.is_some-2.result c.is_some-2.ensures c.if-is_some.false

pub returns-else-is_some-2 : goal.returns-else-is_some-2
returns-else-is_some-2 c =
    let minutes : is_some (number_read c.cut_at.result.0.now) ≡ false =
    ap is_some (sym c.number-2.ensures) ∙ sym c.is_some-3.ensures ∙ c.if-is_some-2.false in
    c.if-is_some-2.false ∙ ap (λ b. b && is_some (number_read c.cut_at-2.result.0.now)) (sym minutes)
    ∙ base_two c.args.word.now c.cut_at.result.0.now c.cut_at-2.result.0.now c.cut_at.result.1 c.cut_at-2.result.1 c.in-Some.rest
    c.cut_at.ensures.parts c.in-Some.is c.cut_at-2.ensures.parts c.is_some-2.result c.is_some-2.ensures c.if-is_some.false
