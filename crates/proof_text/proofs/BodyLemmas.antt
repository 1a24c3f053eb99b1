-- The strategy of a proof text, and its faults in the whole text.
use Rattle.std.proofs.Common.{◌≡◌, ℕ, ◌-◌, List, Option, Ok, Err, refl, ap, sym, subst, ◌∙◌}
use Rattle.std.specs.Prelude.{Result}
use Rattle.rules_model.specs.declared.rules.Rules.{Rules}
use Rattle.game_text.specs.HeardLines.{HeardLines}
use Rattle.game_text.proofs.HeardLemmas.{heard_so, same_needed}
use Rattle.strategy.specs.declared.fault.StrategyFault.{StrategyFault}
use Rattle.strategy.specs.declared.fault.StrategyFault.TheVariants as strategy_fault
use Rattle.strategy.specs.declared.nodes.Strategy.{Strategy}
use Rattle.strategy.specs.Fault.{IsFaultOrMemory}
use Rattle.game_play.specs.Played.{Played}
use Rattle.game_text.specs.declared.goal.Goal.{Goal}
use Rattle.proof_text.specs.declared.fault.ProofFault.{ProofFault}
use Rattle.proof_text.specs.declared.fault.ProofFault.TheVariants.{Header, BadRules, RefusedRules, BadStart, BadHistory, BadBody, Memory}
use Rattle.proof_text.specs.declared.proof.Proof.{Proof}
use Rattle.proof_text.specs.Fault as proof_text
use Rattle.proof_text.specs.Fault.{HasBodyFault, moved_down}
use Rattle.proof_text.specs.Reading.{body_of, body_on, lines_of_body, with_strategy}
use Rattle.proof_text.specs.declared.strategy_lines.NoStrategy.{NoStrategy}
use Rattle.proof_text.specs.declared.strategy_lines.NoStrategy.TheVariants as by
use Rattle.proof_text.specs.declared.source_lines.NoProof.{NoProof}
use Rattle.proof_text.specs.declared.source_lines.NoProof.TheVariants.{Faulty, Unread}
use Rattle.proof_text.specs.StrategyView as strategy
use Rattle.proof_text.specs.StrategyView.{HasBodyWhy}
use Rattle.proof_text.specs.TakingView.{HasWhy, Hears, IsUnread}

module _ (number : ℕ) (g : Played) (goal : Goal) where
  -- what was heard of the strategy
  pub body-heard : (a b : Option (List ℕ)) (rules : Rules) (P : Result Strategy StrategyFault → Type 0) (Q : Result Proof ProofFault → Type 0) → rules ≡ g.rules
      → HeardLines a b (lines_of_body rules) (λ lines. P (body_of rules lines)) → ((r : Result Strategy StrategyFault) → P r → Q (with_strategy number g goal r))
      → Hears a b (body_on number g goal) Q
  unfolding body_on
  body-heard a b rules P Q same heard so =
      heard_so a b _ _ _ _ (subst (λ (r : Rules). HeardLines a b (lines_of_body r) (λ lines. P (body_of r lines))) same heard)
      (same_needed _) (λ lines says. so (body_of g.rules lines) says)

  -- ---- the fault of the whole text

  body_bad : (r : Result Strategy StrategyFault) (bad moved : StrategyFault) → r ≡ Err bad → moved ≡ moved_down (number - 2) bad → with_strategy number g goal r ≡ Err (BadBody moved)
  body_bad r bad moved says is = ap (with_strategy number g goal) says ∙ ap (λ m. Err (BadBody m)) (sym is)

  why_so : (r : Result Strategy StrategyFault) (why moved : StrategyFault) → IsFaultOrMemory r why → (why ≡ strategy_fault.Memory → ⊥) → moved ≡ moved_down (number - 2) why → with_strategy number g goal r ≡ Err (BadBody moved)
  why_so r strategy_fault.Memory moved says not is = absurd (not refl)
  why_so r (strategy_fault.Header line) moved says not is = body_bad r (strategy_fault.Header line) moved says is
  why_so r (strategy_fault.BadLine line) moved says not is = body_bad r (strategy_fault.BadLine line) moved says is
  why_so r (strategy_fault.BadPosition line bad) moved says not is = body_bad r (strategy_fault.BadPosition line bad) moved says is
  why_so r (strategy_fault.BadMove line) moved says not is = body_bad r (strategy_fault.BadMove line) moved says is
  why_so r (strategy_fault.BadNumber line) moved says not is = body_bad r (strategy_fault.BadNumber line) moved says is
  why_so r (strategy_fault.Ended line) moved says not is = body_bad r (strategy_fault.Ended line) moved says is

  pub body-fault : (r : Result Strategy StrategyFault) (why : StrategyFault) (bad : ProofFault) → HasBodyFault (number - 2) why bad → IsFaultOrMemory r why → proof_text.IsFaultOrMemory (with_strategy number g goal r) bad
  body-fault r why Memory is says = tt
  body-fault r why (BadBody moved) is says = why_so r why moved says is.1 is.0
  body-fault r why (Header line) is says = absurd is
  body-fault r why (BadRules line) is says = absurd is
  body-fault r why (RefusedRules bad) is says = absurd is
  body-fault r why (BadStart line bad) is says = absurd is
  body-fault r why (BadHistory line) is says = absurd is

  -- ---- what was heard, by the answer

  pub body-good : (a b : Option (List ℕ)) (rules : Rules) (s : Strategy) → rules ≡ g.rules → HeardLines a b (lines_of_body rules) (λ lines. body_of rules lines ≡ Ok s)
      → Hears a b (body_on number g goal) (λ said. said ≡ Ok (record { game = g; attacker = goal.attacker; n = goal.moves; strategy = s }))
  body-good a b rules s same heard =
      body-heard a b rules (λ (r : Result Strategy StrategyFault). r ≡ Ok s)
      (λ (said : Result Proof ProofFault). said ≡ Ok (record { game = g; attacker = goal.attacker; n = goal.moves; strategy = s })) same heard
      (λ r says. ap (with_strategy number g goal) says)

  why_says : (r : Result Strategy StrategyFault) (why : NoStrategy) (other : NoProof) → HasBodyWhy (number - 2) why other → strategy.HasWhy r why → HasWhy (with_strategy number g goal r) other
  why_says r (by.Faulty fault) (Faulty bad) is says = body-fault r fault bad is says
  why_says r (by.Faulty fault) Unread is says = absurd is
  why_says r by.Unread (Faulty bad) is says = absurd is
  why_says r by.Unread Unread is says = tt

  pub body-bad : (a b : Option (List ℕ)) (rules : Rules) (why : NoStrategy) (other : NoProof) → rules ≡ g.rules → HasBodyWhy (number - 2) why other
      → HeardLines a b (lines_of_body rules) (λ lines. strategy.HasWhy (body_of rules lines) why) → Hears a b (body_on number g goal) (λ said. HasWhy said other)
  body-bad a b rules why other same is heard =
      body-heard a b rules (λ (r : Result Strategy StrategyFault). strategy.HasWhy r why) (λ (said : Result Proof ProofFault). HasWhy said other) same heard
      (λ r says. why_says r why other is says)

pub body-unread : (A B : Type 0) (lines : ℕ) (why : NoStrategy) (other : NoProof) → HasBodyWhy lines why other → IsUnread {A = A} (Err other) → strategy.IsUnread {A = B} (Err why)
body-unread A B lines (by.Faulty fault) (Faulty bad) is unread = absurd unread
body-unread A B lines (by.Faulty fault) Unread is unread = absurd is
body-unread A B lines by.Unread (Faulty bad) is unread = absurd unread
body-unread A B lines by.Unread Unread is unread = tt
