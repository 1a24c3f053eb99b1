-- The least number of moves of a side, as it is looked for.
use Rattle.std.proofs.Common.{◌≡◌, ◌≤◌, ℕ, ◌+◌, ◌-◌, arith, Some, None, refl, subst}
use Rattle.rules_model.specs.declared.board.Side.{Side}
use Rattle.rules_model.specs.declared.rules.Rules.{Rules}
use Rattle.rules_model.specs.Games.{Story}
use Rattle.forced_wins.specs.RuleSentences.{GoodStrategiesWin}
use Rattle.mate_search.specs.Least.{first_within}
use Rattle.mate_search.proofs.LeastLaws.{first-found, first-passed}
use Rattle.mate_showing.specs.Tables.{nodes}
use Rattle.strategy.specs.declared.nodes.Strategy.{Strategy}
use Rattle.suite.specs.Winning.{IsLeastWin, IsSettledBy, side_wins}

module _ (rules : Rules) (g : Story) (a : Side) where
  -- it is not won within fewer than k moves
  pub record NoneBefore (k : ℕ) : Type 0 where
    pub none : first_within (side_wins rules g a) (k - 1) ≡ None

  pub none-first : NoneBefore 1
  none-first = record { none = refl }

  pub none-more : (k : ℕ) → 1 ≤ k → NoneBefore k → IsSettledBy rules g a k None → NoneBefore (k + 1)
  none-more k some before lost = record { none = first-passed (side_wins rules g a) k some before.none lost }

  pub found-win : (n k : ℕ) (s : Strategy) → ((rules : Rules) → GoodStrategiesWin rules nodes) → 1 ≤ k → k ≤ n → NoneBefore k
      → IsSettledBy rules g a k (Some s) → IsLeastWin rules g a n (Some (record { moves = k; strategy = s }))
  found-win n k s win some le before shown = record {
    least = first-found (side_wins rules g a) n k some le before.none (win rules g a k s.attacker s.nodes shown.good);
    shown = shown;
  }

  pub found-none : (n : ℕ) → NoneBefore (n + 1) → IsLeastWin rules g a n None
  found-none n before =
      let back : (n + 1) - 1 ≡ n = omega arith in
      subst (λ m. first_within (side_wins rules g a) m ≡ None) back before.none
