-- A turn leaves the parts of the passes as they are.
use Rattle.std.proofs.Common.{◌≡◌, ℕ, List, Option, sym, ◌∙◌, subst}
use Rattle.std.specs.Prelude.{All}
use Rattle.std.proofs.lemmas.List.Elements.{All-set}
use Rattle.forced_wins.specs.declared.fact.Fact.{Fact}
use Rattle.mate_shards.specs.Turns.{Turn}
use Rattle.mate_shards.specs.Views.{ShardsView, ShardPass}
use Rattle.mate_shards.proofs.TurnLemmas.{all-at}

pub parts-stay : (s : ShardsView) (before after : List ShardPass) (k : ℕ) (list : List Fact) (new : Option Fact) (n : ℕ) → Turn s before after k list new → All (λ p. p.parts ≡ n) before → All (λ p. p.parts ≡ n) after
parts-stay s before after k list new n turn all =
    subst (All (λ p. p.parts ≡ n)) (sym turn.is)
    (All-set (λ p. p.parts ≡ n) before k turn.pass (turn.parts ∙ all-at (λ p. p.parts ≡ n) before k turn.old all turn.was) all)
