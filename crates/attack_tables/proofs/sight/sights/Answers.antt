use Rattle.std.proofs.Common.{ℕ, rules}
use Rattle.attack_tables.specs.declared.sight.Sight.{Sight}
use Rattle.attack_tables.specs.Sights.{IsSightOf}
use Rattle.move_tables.proofs.BuildLaws.{more_items}
use Rattle.attack_tables.proofs.sight.sights.Goals as goal

pub loop-at-preserved : goal.loop-at-preserved
loop-at-preserved c =
    let P : ℕ → Sight → Type 0 = λ k s. IsSightOf k s in
    record {
      whole = search rules;
      each = λ k l d. rw c.in_ok-push.ensures.items (more_items P c.loop-at.sights.items c.sight_of.result c.loop-at.at c.loop-at.invariant.whole c.loop-at.invariant.each c.sight_of.ensures k l d);
    }
