use Rattle.std.proofs.Common.{false, None, refl}
use Rattle.rules_model.specs.declared.board.Side.TheVariants.{White}
use Rattle.rules_model.specs.Repeats.{repeat_of}
use Rattle.mate_core.specs.declared.packed_fact.Claim.{Claim}
use Rattle.mate_core.specs.Claims.{fact_with}
use Rattle.fact_tests.proofs.shards.answers_by_key.Goals as goal

pub publish_by_key-published-requires-clause-truth : goal.publish_by_key-published-requires-clause-truth
publish_by_key-published-requires-clause-truth g c =
    let claim : Claim = record { attacker = White; moves = 2; counter = 0; best = None; wins = false } in
    c.requires.truth (fact_with (repeat_of c.numbered-p.result) claim) refl
