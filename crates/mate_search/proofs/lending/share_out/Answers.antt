use Rattle.std.proofs.Common.{◌≡◌, ◌+◌, ◌-◌, All, vec_len, arith, rules, sym, subst}
use Rattle.std.proofs.lemmas.List.Elements.{All-push, All-nil}
use Rattle.mate_shards.proofs.GrownLaws.{grown-itself, grown-onward, two-parts}
use Rattle.mate_shards.specs.Grown.{HaveParts}
use Rattle.mate_search.specs.Races.{IsLent}
use Rattle.mate_search.proofs.lending.share_out.Goals as goal

pub split-requires-clause-parts : goal.split-requires-clause-parts
split-requires-clause-parts c =
    let (n, all, few) = c.requires.parts in let made = c.loop-k.invariant.made in let goes_on = c.loop-k-test.true in
    two-parts (n - vec_len c.loop-k.jobs) c.loop-k.kept (c.loop-k.invariant.parts n all few) (omega (arith, few, made, goes_on))

pub loop-k-init : goal.loop-k-init
loop-k-init c = record {
  passes = c.requires.passes;
  lent = rw c.requires.none (All-nil _);
  made = search rules;
  room = c.requires.room;
  parts = λ n all few.
      let none : vec_len c.args.jobs.now ≡ 0 = search rules in
      let same : n ≡ n - vec_len c.args.jobs.now = omega (arith, none) in
      subst (λ k. HaveParts k c.args.passes) same all;
  grown = grown-itself c.args.passes;
}

pub loop-k-preserved : goal.loop-k-preserved
loop-k-preserved c =
    let i = c.loop-k.invariant in let e = c.in-Ok.ensures in let more = c.push_reserved.ensures.len in let s = c.args.shards.now in
    let made = i.made in let goes_on = c.loop-k-test.true in
    record {
      passes = e.first;
      lent = subst (All (IsLent s)) (sym c.push_reserved.ensures.items)
          (All-push (IsLent s) c.loop-k.jobs.items _ i.lent (record { passes = e.second; part = e.part }));
      made = omega (arith, more, made);
      room = omega (arith, c.push_reserved.ensures.capacity, i.room);
      parts = λ n all few.
          let one : n - vec_len c.loop-k.jobs ≡ (n - vec_len c.push_reserved.new.self) + 1 = omega (arith, few, more, made, goes_on) in
          e.parts (n - vec_len c.push_reserved.new.self) (subst (λ k. HaveParts k c.loop-k.kept) one (i.parts n all few));
      grown = grown-onward _ _ _ i.grown e.grown;
    }

pub returns-in-Err-clause-parts : goal.returns-in-Err-clause-parts
returns-in-Err-clause-parts c n all few = subst (HaveParts (n - vec_len c.loop-k.jobs)) (sym c.in-Err.ensures.back) (c.loop-k.invariant.parts n all few)
