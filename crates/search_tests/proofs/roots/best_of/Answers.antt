use Rattle.std.proofs.Common.{◌∙◌, subst, sym}
use Rattle.std.specs.List.{All}
use Rattle.foundation.specs.Member.{Member}
use Rattle.game_line.specs.Lined.{legal_in}
use Rattle.alpha_beta.proofs.LeftLaws.{all_others, others}
use Rattle.search_tests.proofs.roots.best_of.Goals as goal

pub combine-requires-clause-legal : goal.combine-requires-clause-legal
combine-requires-clause-legal c =
    let moves = c.deref.result.now in
    let listed = c.deref.ensures.value ∙ c.roots.view_is in
    let legal = subst (λ ms. All (λ m. Member m (legal_in c.args.line.now)) ms) (sym listed) c.requires.legal in
    subst (λ l. All (λ m. Member m (legal_in l)) (others moves)) (sym c.in_ok-value.ensures.kept) (all_others (λ m. Member m (legal_in c.args.line.now)) moves legal)
