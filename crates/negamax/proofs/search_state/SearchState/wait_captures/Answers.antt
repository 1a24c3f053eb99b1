use Rattle.std.proofs.Common.{ap, ◌∙◌}
use Rattle.negamax.proofs.CopyLaws.{copies_push}
use Rattle.negamax.proofs.search_state.SearchState.wait_captures.Goals as goal

pub returns-clause-pushes : goal.returns-clause-pushes
returns-clause-pushes c =
    copies_push _ _ _ _ _ _ c.in_ok-any.ensures.listed (c.as_slice.ensures.value ∙ ap (λ d. d.listed) c.self.view_is) c.in_ok-push_taking.ensures
    (ap (λ d. d.waiting.items) c.self.view_is ∙ c.in_ok-any.ensures.waiting)
