use Rattle.std.proofs.Common.{◌++◌, length, ap, arith, ◌∙◌, length-append}
use Rattle.betza_compile.specs.Terms.{terms_of_part}
use Rattle.betza_compile.proofs.TermLemmas.{count_next, terms_next, length-terms_of_part}
use Rattle.betza_compile.proofs.compile.Goals as goal

pub push_terms-requires : goal.push_terms-requires
push_terms-requires c =
    omega (arith, c.loop-part.invariant.room, count_next _ c.loop-part.part-index c.part-item.result c.loop-part-test.true c.part-item.is)

pub loop-part-preserved : goal.loop-part-preserved
loop-part-preserved c =
    let part = c.part-item.result in
    let pushed = c.push_terms.ensures in
    record {
      made = pushed ∙ ap (λ ts. ts ++ terms_of_part part) c.loop-part.invariant.made ∙ terms_next _ c.loop-part.part-index part c.loop-part-test.true c.part-item.is;
      room = omega (arith, c.loop-part.invariant.room, count_next _ c.loop-part.part-index part c.loop-part-test.true c.part-item.is, ap length pushed, length-append c.loop-part.items.items (terms_of_part part), length-terms_of_part part);
    }
