use Rattle.std.proofs.Common.{subst}
use Rattle.forced_wins.specs.declared.fact.Fact.{Fact}
use Rattle.mate_shards.specs.Turns.{PublishTurn}
use Rattle.mate_shards.proofs.AnswerLaws.{publish-known}
use Rattle.mate_shards.proofs.GrownLaws.{publish-grows}
use Rattle.mate_shards.proofs.OwnedLaws.{publish-owned}
use Rattle.mate_shards.proofs.PartLaws.{parts-stay}
use Rattle.mate_shards.proofs.shards.Shards.publish.Goals as goal

pub returns-clause-turn : goal.returns-clause-turn
returns-clause-turn g c =
    let P : Fact → Type 0 = λ f. PublishTurn c.args.self.now c.args.passes.now f c.put.result c.put.new.passes in
    subst P c.of.ensures c.put.ensures.turn

pub returns-clause-grown : goal.returns-clause-grown
returns-clause-grown g c = publish-grows c.args.self.now _ _ _ _ (returns-clause-turn g c)

pub returns-clause-parts : goal.returns-clause-parts
returns-clause-parts g c = λ n. parts-stay _ _ _ _ _ _ n (returns-clause-turn g c).turn

pub returns-clause-known : goal.returns-clause-known
returns-clause-known g c = publish-known c.args.self.now _ _ _ _ (returns-clause-turn g c)

pub returns-clause-owned : goal.returns-clause-owned
returns-clause-owned g c = publish-owned c.args.self.now _ _ _ _ (returns-clause-turn g c)
