use Rattle.std.proofs.Common.{◌≡◌, ◌-◌, slice_index, drop, sym, ap, ◌∙◌, refl, arith}
use Rattle.move_text.specs.Keys.{with_digits}
use Rattle.move_text.proofs.KeyLaws.{next_fits, no_digits, one_more, small_each}
use Rattle.move_text.proofs.order.number_of.Goals as goal

pub overflow_mul-number : goal.overflow_mul-number
overflow_mul-number c =
    let bytes = c.args.bytes.now in
    let fits = next_fits c.loop-i.number c.loop-i.i (slice_index bytes c.loop-i.i) bytes (small_each bytes (λ k. let fit = c.type_inv.bytes k in omega (arith, fit))) c.loop-i-test.true refl c.loop-i.invariant in
    omega (arith, fits)

pub overflow_add-number : goal.overflow_add-number
overflow_add-number c =
    let bytes = c.args.bytes.now in
    let fits = next_fits c.loop-i.number c.loop-i.i c.byte_at.result bytes (small_each bytes (λ k. let fit = c.type_inv.bytes k in omega (arith, fit))) c.loop-i-test.true c.byte_at.ensures c.loop-i.invariant in
    omega (arith, fits)

pub loop-i-preserved : goal.loop-i-preserved
loop-i-preserved c = one_more c.loop-i.number c.loop-i.i c.byte_at.result c.args.bytes.now c.loop-i-test.true c.byte_at.ensures c.loop-i.invariant

pub returns : goal.returns
returns c =
    let last : c.loop-i.i ≡ 8 = omega arith in
    let none : 8 - c.loop-i.i ≡ 0 = omega arith in
    sym (no_digits c.loop-i.number (drop c.loop-i.i c.args.bytes.now)) ∙ sym (ap (λ n. with_digits c.loop-i.number n (drop c.loop-i.i c.args.bytes.now)) none) ∙ c.loop-i.invariant
