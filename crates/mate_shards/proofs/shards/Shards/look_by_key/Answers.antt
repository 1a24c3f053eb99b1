use Rattle.std.proofs.Common.{ap, ◌∙◌, refl, length}
use Rattle.mate_core.specs.Hash.{hash_of, shard_of_hash}
use Rattle.mate_shards.proofs.AnswerLaws.{claim-true, claim-known}
use Rattle.mate_shards.proofs.GrownLaws.{look-grows}
use Rattle.mate_shards.proofs.OwnedLaws.{look-owned}
use Rattle.mate_shards.proofs.PartLaws.{parts-stay}
use Rattle.mate_shards.proofs.TurnLemmas.{looks}
use Rattle.mate_shards.proofs.shards.Shards.look_by_key.Goals as goal

pub returns-clause-turn : goal.returns-clause-turn
returns-clause-turn g c =
    looks c.args.self.now c.args.passes.now c.ask.new.passes c.args.p.now _ c.args.moves c.in-Found.found _ c.home-shard.result
    c.with_key.ensures refl refl refl
    (c.home-shard.ensures.is ∙ ap (λ h. shard_of_hash h (length c.args.self.now.locks)) (c.hash.ensures ∙ ap hash_of c.with_key.ensures))
    c.in-Found.ensures.turn

pub returns-clause-grown : goal.returns-clause-grown
returns-clause-grown g c = look-grows c.args.self.now _ _ _ _ _ (returns-clause-turn g c)

pub returns-clause-parts : goal.returns-clause-parts
returns-clause-parts g c = λ n. parts-stay _ _ _ _ _ _ n (returns-clause-turn g c).turn

pub returns-clause-truth : goal.returns-clause-truth
returns-clause-truth g c = claim-true c.args.self.now _ _ c.args.p.now c.args.moves c.in-Found.found (returns-clause-turn g c)

pub returns-clause-known : goal.returns-clause-known
returns-clause-known g c = claim-known c.args.self.now _ _ c.args.p.now c.args.moves c.in-Found.found (returns-clause-turn g c)

pub returns-clause-owned : goal.returns-clause-owned
returns-clause-owned g c = look-owned c.args.self.now _ _ _ _ _ (returns-clause-turn g c)
