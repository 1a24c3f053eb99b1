use Rattle.std.proofs.Common.{ℕ, List, sym, subst, arith}
use Rattle.forced_wins.specs.declared.fact.Fact.{Fact}
use Rattle.mate_core.specs.declared.frame.Frame.{Frame}
use Rattle.mate_core.specs.Runs.{AreTrueIn}
use Rattle.mate_shards.specs.Index.{IsIndex, buckets}
use Rattle.mate_shards.specs.Kept.{IsKept}
use Rattle.mate_shards.proofs.KeptLemmas.{kept-is, kept-true}
use Rattle.mate_shards.proofs.shard.Shard.rebased.Goals as goal

pub returns-clause-facts : goal.returns-clause-facts
returns-clause-facts c =
    let s = c.args.self in
    let P : List Fact → Type 0 = IsKept c.args.old.now c.args.new.now s.facts.items in
    subst P (sym c.pick.ensures.facts) (kept-is c.args.old.now c.args.new.now c.args.keeps.now s.facts.items c.requires.keeps)

pub invariant_of-result : goal.invariant_of-result
invariant_of-result c =
    let s = c.args.self in
    let sized = s.sized in
    let reserved = s.reserved in
    let room = s.room in
    let I : ℕ → List Fact → Type 0 = λ n fs. IsIndex (buckets n fs) c.chain.new.heads.items c.chain.new.links.items in
    let T : Frame → Type 0 = λ frame. AreTrueIn frame s.facts.items in
    let U : List Fact → Type 0 = AreTrueIn c.args.new.now in
    let V : Frame → Type 0 = λ frame. AreTrueIn frame c.pick.new.facts.items in
    let truth = kept-true c.args.old.now c.args.new.now c.args.keeps.now s.facts.items c.requires.keeps (subst T c.requires.frame s.true_facts) in
    record {
      sized = sized;
      reserved = (omega (arith, c.pick.ensures.capacity), omega (arith, c.chain.ensures.links));
      room = (omega (arith, c.pick.ensures.len), omega (arith, c.chain.ensures.heads));
      indexed = subst (λ fs. I s.capacity fs) c.deref.ensures.value c.chain.ensures.indexed;
      true_facts = subst V (sym c.of.ensures) (subst U (sym c.pick.ensures.facts) truth);
    }
