use Rattle.std.proofs.Common.{not, arith}
use Rattle.pn_search.proofs.NumberLemmas.{sum-none, sum-more, sum-all, least-none, least-more, least-all}
use Rattle.pn_search.proofs.numbers.least_and_sum.Goals as goal

pub loop-child-init : goal.loop-child-init
loop-child-init c = record {
  least_so_far = least-none c.args.attacking c.args.children.now;
  least_low = omega arith;
  sum_so_far = sum-none (not c.args.attacking) c.args.children.now;
  sum_low = omega arith;
}

pub loop-child-preserved : goal.loop-child-preserved
loop-child-preserved c =
    let least = least-more c.args.attacking c.args.children.now c.loop-child.child-index c.loop-child.least _ (record { proof = 0; disproof = 0 }) c.loop-child-test.true c.loop-child.invariant.least_so_far in
    let sum = sum-more (not c.args.attacking) c.args.children.now c.loop-child.child-index c.loop-child.sum _ (record { proof = 0; disproof = 0 }) c.loop-child-test.true c.loop-child.invariant.sum_so_far in
    record {
      least_so_far = rw (c.min-least.ensures, c.own_number.ensures) least;
      least_low = omega arith;
      sum_so_far = rw (c.plus-sum.ensures, c.own_number-in-loop-child.ensures) sum;
      sum_low = omega arith;
    }

pub returns-clause-least : goal.returns-clause-least
returns-clause-least c = least-all c.args.attacking c.args.children.now c.loop-child.child-index c.loop-child.least _ c.loop-child-test.false c.loop-child.invariant.least_low c.loop-child.invariant.least_so_far

pub returns-clause-sum : goal.returns-clause-sum
returns-clause-sum c = sum-all (not c.args.attacking) c.args.children.now c.loop-child.child-index c.loop-child.sum _ c.loop-child-test.false c.loop-child.invariant.sum_low c.loop-child.invariant.sum_so_far
