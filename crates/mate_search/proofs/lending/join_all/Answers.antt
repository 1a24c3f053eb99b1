use Rattle.std.proofs.Common.{◌≡◌, ◌+◌, ◌-◌, vec_len, arith, sym, subst}
use Rattle.mate_shards.proofs.GrownLaws.{grown-itself, grown-onward}
use Rattle.mate_shards.specs.Grown.{HaveParts}
use Rattle.mate_search.proofs.RaceLaws.{popped}
use Rattle.mate_search.specs.Races.{IsLent}
use Rattle.mate_search.proofs.lending.join_all.Goals as goal

pub loop-worker-init : goal.loop-worker-init
loop-worker-init c = record {
  passes = c.requires.passes;
  lent = c.requires.lent;
  few = omega arith;
  parts = λ n all. let same : n + (vec_len c.args.jobs - vec_len c.args.jobs) ≡ n = omega arith in subst (λ k. HaveParts k c.args.mine) (sym same) all;
  grown = grown-itself c.args.mine;
}

pub loop-worker-preserved : goal.loop-worker-preserved
loop-worker-preserved c =
    let i = c.loop-worker.invariant in let s = c.args.shards.now in let e = c.join-all.ensures in
    let both = popped (IsLent s) c.loop-worker.jobs.items c.pop.new.self.items c.in-Some.worker c.in-Some.ensures.items i.lent in
    let worker = both.1 in
    let fewer : vec_len c.loop-worker.jobs ≡ vec_len c.pop.new.self + 1 = omega (arith, c.in-Some.ensures.len) in
    let few = i.few in
    record {
      passes = e.passes;
      lent = both.0;
      few = omega (arith, few, fewer);
      parts = λ n all.
          let one : (n + (vec_len c.args.jobs - vec_len c.loop-worker.jobs)) + 1 ≡ n + (vec_len c.args.jobs - vec_len c.pop.new.self) = omega (arith, few, fewer) in
          subst (λ k. HaveParts k c.join-all.result) one (e.parts (n + (vec_len c.args.jobs - vec_len c.loop-worker.jobs)) 1 (i.parts n all) worker.part);
      grown = grown-onward _ _ _ i.grown e.first_grown;
    }

pub returns-clause-parts : goal.returns-clause-parts
returns-clause-parts c n all =
    let last = c.in_default.ensures in let none : vec_len c.loop-worker.jobs ≡ 0 = grind arith in
    let same : n + (vec_len c.args.jobs - vec_len c.loop-worker.jobs) ≡ n + vec_len c.args.jobs = omega (arith, none) in
    subst (λ k. HaveParts k c.loop-worker.all) same (c.loop-worker.invariant.parts n all)
