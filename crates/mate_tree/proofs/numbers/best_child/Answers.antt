use Rattle.std.proofs.Common.{◌≡◌, not, get_or, refl, ap, ◌∙◌, arith}
use Rattle.std.proofs.lemmas.List.Sums.{sum_by_more}
use Rattle.mate_tree.specs.Numbers.{own_number, least_of}
use Rattle.mate_tree.proofs.NumberLaws.{least-more}
use Rattle.mate_tree.proofs.numbers.best_child.Goals as goal
use Rattle.mate_tree.proofs.numbers.best_child.Goals.{then-own-best, else-own-best}

pub loop-i-init : goal.loop-i-init
unfolding least_of
loop-i-init c = record { place = λ some. some; own = refl; others = refl }

pub loop-i-preserved : goal.loop-i-preserved
loop-i-preserved c =
    let a = c.args.attacking in
    let vs = c.args.children.now in
    let i = c.loop-i.i in
    let here = c.loop-i-test.true in
    let so_far = c.loop-i.invariant in
    let v = c.index-children-i.result in
    let w = c.index-children-i-in-loop-i.result in
    let least = least-more a vs i v here in
    let sum = sum_by_more (own_number (not a)) vs i w here in
    let own : c.own_number-own.result ≡ own_number a (get_or vs i v) = c.own_number-own.ensures ∙ ap (own_number a) c.index-children-i.is in
    let other : c.own_number-other.result ≡ own_number (not a) (get_or vs i w) = c.own_number-other.ensures ∙ ap (own_number (not a)) c.index-children-i-in-loop-i.is in
    elim c.if-own-best.branch [
      | then-own-best b ↦
          rw b.best-is (record {
            place = λ some. here;
            own = omega (arith, so_far.own, least, own, b.if-own-best.true);
            others = omega (arith, so_far.others, sum, other, c.saturating_add.ensures, c.min.ensures);
          })
      | else-own-best b ↦
          rw b.best-is (record {
            place = so_far.place;
            own = omega (arith, so_far.own, least, own, b.if-own-best.false);
            others = omega (arith, so_far.others, sum, other, c.saturating_add.ensures, c.min.ensures);
          })
    ]
